-- `vectors::rows::row_hollow` meets its contract.
use Rattle.std.proofs.Common.{◌≡◌, ap, sym, ◌∙◌, length, arith, ◌≤◌, ◌+◌, ◌-◌, ◌<◌, take, drop, leb-true, leb-false, length-take, length-drop}
use Rattle.std.proofs.lemmas.Iterator.{YieldsList-from_zip, YieldsList-from_slice}
use Rattle.std.specs.Slice.Iter.{iter_rest}
use Rattle.std.specs.Float.Ieee.{of_bits}
use Rattle.vectors.specs.RowSums.{hollow_sum}
use Rattle.vectors.specs.Stencil.{total}
use Rattle.vectors.specs.RowLaws.{numbers_inside, numbers_outside, zip_none, halves_total}
use Rattle.vectors.proofs.rows.row_hollow.Goals as goal

pub returns-then-fits : goal.returns-then-fits
unfolding hollow_sum
returns-then-fits g c =
    let a = c.args in
    let n = g.row.N in
    let e : length a.w ≡ n = omega arith in
    let h : a.k + n ≤ length a.v.now = leb-true _ _ (sym c.if-fits.ensures) in
    let v = take (a.k + n - a.k) (drop a.k a.v.now) in
    let left = YieldsList-from_zip (YieldsList-from_slice _ (ap iter_rest c.zip-left.ensures.first ∙ c.iter.ensures.rest)) (YieldsList-from_slice _ c.zip-left.ensures.second.0) in
    let right = YieldsList-from_zip (YieldsList-from_slice _ (ap iter_rest c.zip-right.ensures.first ∙ c.iter-then-fits.ensures.rest)) (YieldsList-from_slice _ c.zip-right.ensures.second.0) in
    rw (c.total.ensures _ left.runs) at (c.plus.ensures _ right.runs)
    ∙ halves_total n a.w v e (simp (length-take, length-drop) (omega arith))
    ∙ sym (rw (e, numbers_inside a.k n a.v.now h))

pub returns : goal.returns
unfolding of_bits total hollow_sum
returns g c =
    let a = c.args in
    let n = g.row.N in
    let h : length a.v.now < a.k + n = leb-false _ _ (sym c.fits.ensures ∙ c.if-fits.false) in
    let e : length a.w ≡ n = omega arith in
    sym (rw (e, numbers_outside a.k n a.v.now h, zip_none a.w))
