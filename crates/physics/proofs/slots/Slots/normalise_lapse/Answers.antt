-- `Slots::normalise_lapse` meets its contract.
use Rattle.std.proofs.Common.{◌-◌, ◌<◌, refl, ap, ◌∙◌, arith}
use lib.Ieee.{nan, binary64, mul}
use Rattle.vectors.specs.Powers.{reciprocal_of}
use Rattle.physics.specs.Fills.{grown2_step, filled2_none, filled2_put}
use Rattle.physics.specs.Slots.{slots_apart, slot_is, mine2}
use Rattle.physics.specs.ConstraintLaws.{normals_wrote}
use Rattle.physics.proofs.slots.Slots.normalise_lapse.Goals as goal

pub loop-i-preserved : goal.loop-i-preserved
loop-i-preserved c =
    let n = c.args.self.now.n in
    let lt : c.loop-i.i < n = omega arith in
    grown2_step n c.loop-i.invariant lt (slots_apart n 6 9 refl) refl refl (λ E f.
    let x = ap (mul binary64 _) (mine2 n 6 9 f lt refl) in
    (x, c.reciprocal.ensures ∙ ap reciprocal_of x))

pub returns : goal.returns
returns c =
    let a = c.args in
    let n = a.self.now.n in
    let w = a.self.now.w.now in
    let factor = c.reciprocal-factor.ensures ∙ ap reciprocal_of (slot_is n 6 (n - 1) w (omega arith)) in
    record {
      memory = refl;
      level = refl;
      points = refl;
      became = normals_wrote n w _ _ factor (omega arith)
          (filled2_put n nan (c.loop-i.invariant.grow w (filled2_none _ _ _ _ w)) (omega arith) (omega arith) (omega arith));
    }
