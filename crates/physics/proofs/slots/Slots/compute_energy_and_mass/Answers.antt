-- `Slots::compute_energy_and_mass` meets its contract.
use Rattle.std.proofs.Common.{◌<◌, refl, ◌∙◌, arith}
use Rattle.physics.specs.Fills.{grown2_step}
use Rattle.physics.specs.Slots.{slots_apart, reads2_next, grown_slots}
use Rattle.physics.specs.Vector.{at}
use Rattle.physics.specs.Passes.{energy_val, mass_val}
use Rattle.physics.proofs.slots.Slots.compute_energy_and_mass.Goals as goal

pub loop-i-preserved : goal.loop-i-preserved
loop-i-preserved c =
    let n = c.args.self.now.n in
    let lt : c.loop-i.i < n = omega arith in
    grown2_step n c.loop-i.invariant lt (slots_apart n 3 4 refl) refl refl (λ E f.
    let r = reads2_next n 3 4 19 f lt refl refl in (
      c.energy_density_at-e.ensures ∙ rw (r, reads2_next n 3 4 8 f lt refl refl, reads2_next n 3 4 1 f lt refl refl),
      c.mass_at-m.ensures ∙ rw (r, reads2_next n 3 4 5 f lt refl refl),
    ))

pub returns : goal.returns
returns c =
    record {
      memory = refl;
      level = refl;
      points = refl;
      became = grown_slots 3 4 (λ S. energy_val (at (S 19)) (S 8) (S 1)) (λ S. mass_val (at (S 19)) (S 5)) c.loop-i.invariant (omega arith) (omega arith) (omega arith);
    }
