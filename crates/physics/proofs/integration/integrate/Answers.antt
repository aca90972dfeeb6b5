-- `integrate` meets its contract.
use Rattle.std.proofs.Common.{ℕ, ◌≡◌, ◌+◌, ◌-◌, ◌*◌, ◌%◌, ◌<◌, ◌≤◌, List, length, take, drop, slice_set, slice_index_or, sym, refl, ap, ◌∙◌, add-zero, arith, length-set}
use lib.Ieee.{Float, nan, binary64, add}
use Rattle.vectors.specs.Memory.{put}
use Rattle.vectors.specs.MemoryLaws.{Filled, step, filled_none, filled_put, filled_part, filled_own, lent}
use Rattle.physics.specs.Fills.{filled_pair}
use Rattle.physics.specs.Integral.{integral_at, integral_of, quadratic_over, simpson_over, eighths_over}
use Rattle.physics.specs.IntegralLaws.{integral_zero, integral_one, integral_two, integral_tab, integral_odd, integral_even}
use Rattle.physics.specs.Passes.{Target}
use Rattle.physics.specs.Slots.{slots, lent_slot, length_slot}
use Rattle.physics.proofs.integration.integrate.Goals as goal

-- a turn stores points i and i + 1
turn : {n to i : ℕ} {x y : Float} {E w : List Float} (h : Float) → Target n (length w) to → 3 ≤ i → i % 2 ≡ 1 → i < n → Filled to i (integral_at h (slots n E 9)) E w
    → x ≡ eighths_over h (take (10 * n - 9 * n) (drop (9 * n) w)) i → y ≡ simpson_over h (take (10 * n - 9 * n) (drop (9 * n) w)) (i + 1)
    → Filled to (i + 2) (integral_at h (slots n E 9)) E
    (slice_set (slice_set w (to + i) (add binary64 (slice_index_or w (to + (i - 3)) nan) x)) (to + (i + 1)) (add binary64 (slice_index_or w (to + (i - 1)) nan) y))
unfolding slots
turn {n} {to} {i} {x} {y} {E} {w} h R l o b F p q =
    let v = lent (9 * n) (10 * n) n w (omega arith) ∙ filled_part n (9 * n) n nan F (omega arith) R.far in
    let e : i - 1 ≡ i + 1 - 2 = omega arith in
    filled_pair F refl refl (rw (p, v, filled_own (i - 3) nan F (omega arith) (omega arith)) (integral_odd h _ i l o))
    (rw (q, v, filled_own (i - 1) nan F (omega arith) (omega arith), e) (integral_even h _ (i + 1) (omega arith) (omega arith)))

-- all turns done
done : {n to i : ℕ} {E w : List Float} (h : Float) → Target n (length E) to → i ≡ n → Filled to i (integral_at h (slots n E 9)) E w → w ≡ put to (integral_of h (slots n E 9)) E
done {n} {to} {i} {E} h R e F = filled_put nan (rw e at F) (omega arith) ∙ rw (integral_tab h (slots n E 9) n (length_slot n 9 E (omega arith)))

pub loop-k-init : goal.loop-k-init
loop-k-init c =
    let a = c.args in
    let h = a.h in
    let v = slots a.n a.w.now 9 in
    let is = lent_slot a.n 9 (10 * a.n) a.w.now (omega arith) in (
      simp length-set,
      step (step (step (filled_none _ (integral_at h v) a.w.now) (sym (add-zero _)) (integral_zero h v)) refl
          (c.quadratic_over-entry1.ensures ∙ ap (quadratic_over h) is ∙ integral_one h v)) refl
          (c.simpson_over-entry2.ensures ∙ ap (λ xs. simpson_over h xs 2) is ∙ integral_two h v),
    )

pub loop-k-preserved : goal.loop-k-preserved
loop-k-preserved c =
    let inv = c.loop-k.invariant in
    let k = c.loop-k.k in
    let next : 2 * k + 1 + 2 ≡ 2 * (k + 1) + 1 = omega arith in
    (simp length-set inv.0, rw next at (turn c.args.h (rw inv.0 c.requires) (omega arith) (omega arith) (omega arith) inv.1 c.eighths_over.ensures c.simpson_over.ensures))

pub returns : goal.returns
returns c = done c.args.h c.requires (omega arith) c.loop-k.invariant.1
