-- `vectors::rows::row_descending` meets its contract.
use Rattle.std.proofs.Common.{◌≡◌, sym, ◌∙◌, length, arith, ◌≤◌, ◌+◌, ◌-◌, ◌<◌, take, drop, leb-true, leb-false}
use Rattle.std.proofs.lemmas.Grind.{common_steps}
use Rattle.std.proofs.lemmas.Iterator.{YieldsList-from_zip, YieldsList-from_slice}
use Rattle.std.proofs.lemmas.Iterator.Adapters.{YieldsList-from_rev_slice}
use Rattle.std.specs.Float.Ieee.{of_bits}
use Rattle.vectors.specs.RowSums.{descending_sum}
use Rattle.vectors.specs.Stencil.{total}
use Rattle.vectors.specs.RowLaws.{numbers_inside, numbers_outside, zip_none}
use Rattle.vectors.proofs.rows.row_descending.Goals as goal

pub returns-then-fits : goal.returns-then-fits
unfolding descending_sum
returns-then-fits g c =
    let a = c.args in
    let n = g.row.N in
    let e : length a.w ≡ n = omega arith in
    let h : a.k + n ≤ length a.v.now = leb-true _ _ (sym c.if-fits.ensures) in
    c.total.ensures _ (YieldsList-from_zip (YieldsList-from_slice a.w (grind (arith, common_steps))) (YieldsList-from_rev_slice (take (a.k + n - a.k) (drop a.k a.v.now)) (grind (arith, common_steps)))).runs
    ∙ sym (rw (e, numbers_inside a.k n a.v.now h))

pub returns : goal.returns
unfolding of_bits total descending_sum
returns g c =
    let a = c.args in
    let n = g.row.N in
    let h : length a.v.now < a.k + n = leb-false _ _ (sym c.fits.ensures ∙ c.if-fits.false) in
    let e : length a.w ≡ n = omega arith in
    sym (rw (e, numbers_outside a.k n a.v.now h, zip_none a.w))
