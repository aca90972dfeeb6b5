-- `vectors::rows::total` meets its contract.
use Rattle.std.proofs.Common.{rules, ap, sym, ◌∙◌, map}
use Rattle.std.specs.List.{reduce}
use Rattle.std.specs.Option.{unwrap_or}
use Rattle.std.proofs.lemmas.Simd.{map-map}
use Rattle.std.specs.Float.{binary64, nan}
use Rattle.std.specs.Float.Ieee.{add, of_bits}
use Rattle.vectors.specs.RowSums.{times}
use Rattle.vectors.specs.Stencil.{total}
use Rattle.vectors.proofs.Chains.{run_items, run_reduced}
use Rattle.vectors.proofs.rows.total.Goals as goal

pub returns : goal.returns
unfolding of_bits total
returns g c = λ all road.
    let products = c.reduce.ensures.runs in
    let pairs = c.map.ensures.runs products.0 products.0.seen products.1 in
    c.unwrap_or.ensures
    ∙ ap (λ r. unwrap_or r nan) (run_reduced _ _ (add binary64) c.reduce.result products.0 products.3 (λ x y r q k. search rules))
    ∙ ap (λ ts. unwrap_or (reduce (add binary64) ts) nan)
    (pairs.2.3 (λ q. times (q.0.now, q.1.now)) (λ x r q k. search rules)
    ∙ sym (map-map times (λ q. (q.0.now, q.1.now)) pairs.0.items)
    ∙ ap (map times) (run_items (λ q. (q.0.now, q.1.now)) pairs.0 pairs.1 (pairs.2.0 ∙ products.2) road))
