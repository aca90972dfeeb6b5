-- `vectors::rows::plus` meets its contract.
use Rattle.std.proofs.Common.{◌≡◌, rules, refl, ◌∙◌, List, [], ◌∷◌, map, ℤ}
use Rattle.std.specs.List.{fold}
use Rattle.std.proofs.lemmas.Iterator.Consumers.{fold_from_yields_List}
use Rattle.std.specs.Float.{binary64}
use Rattle.std.specs.Float.Ieee.{add}
use lib.Ieee.{Float}
use Rattle.vectors.specs.RowSums.{times}
use Rattle.vectors.proofs.rows.plus.Goals as goal

fold_times : (sum : Float) (pairs : List (ℤ × Float)) → fold (λ s p. add binary64 s (times p)) sum pairs ≡ fold (add binary64) sum (map times pairs)
fold_times sum [] = refl
fold_times sum (p ∷ pairs) = fold_times (add binary64 sum (times p)) pairs

pub returns : goal.returns
returns g c = λ all road.
    fold_from_yields_List {steps = g.I.Iterator.next_gives} {v = λ q. (q.0.now, q.1.now)} {s = c.args.pairs} _ (λ s p. add binary64 s (times p)) c.args.sum c.fold.result c.fold.ensures.ran (record { runs = road }) (λ a x b q k. search rules)
    ∙ fold_times c.args.sum all
