-- `Slots::radial_factor_and_char_speed` meets its contract.
use Rattle.std.proofs.Common.{◌<◌, sym, refl, ap, ◌∙◌, add-zero, arith, ne_eqb}
use lib.Ieee.{nan, binary64, div, of_bits, of_int}
use Rattle.physics.specs.Fills.{grown2_step, filled2_none, filled2_put, step2}
use Rattle.physics.specs.Slots.{slots_apart, slot_start, reads2_next}
use Rattle.physics.specs.ConstraintLaws.{radials_wrote}
use Rattle.physics.proofs.slots.Slots.radial_factor_and_char_speed.Goals as goal

pub loop-i-preserved : goal.loop-i-preserved
loop-i-preserved c =
    let n = c.args.self.now.n in
    let i = c.loop-i.i in
    let lt : i < n = omega arith in
    grown2_step n c.loop-i.invariant lt (slots_apart n 5 7 refl) refl refl (λ E f.
    let lapse = reads2_next n 5 7 6 f lt refl refl in
    let x = c.radial_factor_at-a.ensures ∙ rw (lapse, reads2_next n 5 7 19 f lt refl refl, reads2_next n 5 7 10 f lt refl refl, ne_eqb i 0 (λ e. omega arith)) in
    (x, rw (x, lapse)))

pub returns : goal.returns
unfolding of_bits of_int
returns c =
    let n = c.args.self.now.n in
    let w = c.args.self.now.w.now in
    let x = ap (div binary64 _) (slot_start n 6 w (omega arith)) in
    record {
      memory = refl;
      level = refl;
      points = refl;
      became = radials_wrote n w _ _ (slot_start n 10 w (omega arith)) (omega arith)
          (filled2_put n nan (c.loop-i.invariant.grow w (step2 n (filled2_none _ _ _ _ w) (omega arith) (slots_apart n 5 7 refl) (sym (add-zero _)) (sym (add-zero _)) refl x)) (omega arith) (omega arith) (omega arith));
    }
