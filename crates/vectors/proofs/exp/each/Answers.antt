-- `vectors::exp::each` meets its contract.
use Rattle.std.proofs.Common.{◌≡◌, ℕ, ◌<◌, List, ◌++◌, length, get_or, slice_set, map, take, drop, sym, ap, ◌∙◌, subst, arith}
use Rattle.std.proofs.lemmas.List.{get_or_default}
use Rattle.std.proofs.lemmas.Grind.{common_steps}
use Rattle.std.proofs.lemmas.List.Edits.{map_over_more}
use lib.Ieee.{Float, nan}
use Rattle.vectors.specs.Exp.{exp_of}
use Rattle.vectors.proofs.exp.each.Goals as goal

-- a number that the loop has not come to is as it was
left : (xs ys : List Float) (i : ℕ) → i < length xs → ys ≡ map exp_of (take i xs) ++ drop i xs → get_or ys i nan ≡ get_or xs i nan
left xs ys i h e = grind (arith, common_steps)

pub exp-requires : goal.exp-requires
exp-requires g c =
    let xs = c.args.values.now in
    let i = c.loop-x.x-index in
    subst (λ (x : Float). g.F.Fn.pre c.args.exp (x, tt)) (sym (left xs c.loop-x.values i c.loop-x-test.true c.loop-x.invariant)) (c.requires.callable i nan c.loop-x-test.true)

pub loop-x-preserved : goal.loop-x-preserved
loop-x-preserved g c =
    let ys = c.loop-x.values in
    let i = c.loop-x.x-index in
    let x = get_or ys i nan in
    ap (slice_set ys i) (c.requires.gives _ _ c.exp.ensures)
    ∙ map_over_more exp_of c.args.values.now ys i x c.loop-x-test.true c.loop-x.invariant (get_or_default ys i nan x (omega arith))
