-- `Slots::fill_grid` meets its contract.
use Rattle.std.proofs.Common.{refl, ap, ◌∙◌, arith}
use Rattle.vectors.specs.Dissipation.{radial_correction_of}
use Rattle.vectors.specs.Grid.{point_of}
use Rattle.physics.specs.Fills.{grown2_step}
use Rattle.physics.specs.Slots.{slots_apart, grown_slots}
use Rattle.physics.proofs.slots.Slots.fill_grid.Goals as goal

pub loop-i-preserved : goal.loop-i-preserved
loop-i-preserved c =
    let n = c.args.self.now.n in
    let x = c.point-r.ensures in
    grown2_step n c.loop-i.invariant (omega arith) (slots_apart n 19 20 refl) refl refl (λ E f. (x, c.radial_correction-c.ensures ∙ ap radial_correction_of x))

pub returns : goal.returns
returns c =
    let level = c.args.self.now.level in
    record {
      memory = refl;
      level = refl;
      points = refl;
      became = grown_slots 19 20 (λ S. point_of level) (λ S i. radial_correction_of (point_of level i)) c.loop-i.invariant (omega arith) (omega arith) (omega arith);
    }
