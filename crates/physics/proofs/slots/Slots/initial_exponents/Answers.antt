-- `Slots::initial_exponents` meets its contract.
use Rattle.std.proofs.Common.{◌<◌, refl, ap, ◌∙◌, arith}
use lib.Ieee.{of_bits, of_int}
use Rattle.vectors.specs.Constants.{whole}
use Rattle.physics.specs.Fills.{grown2_step}
use Rattle.physics.specs.Slots.{slots_apart, reads2_next, grown_slots}
use Rattle.physics.specs.InitialState.{exponent_at}
use Rattle.physics.specs.InitialPasses.{exponent_val}
use Rattle.physics.specs.Vector.{at}
use Rattle.physics.proofs.slots.Slots.initial_exponents.Goals as goal

pub loop-i-preserved : goal.loop-i-preserved
unfolding of_bits of_int
loop-i-preserved c =
    let n = c.args.self.now.n in
    let lt : c.loop-i.i < n = omega arith in
    grown2_step n c.loop-i.invariant lt (slots_apart n 0 1 refl) refl refl (λ E f. (refl, c.exponent_at-exponent.ensures ∙ ap exponent_at (reads2_next n 0 1 19 f lt refl refl)))

pub returns : goal.returns
returns c =
    record {
      memory = refl;
      level = refl;
      points = refl;
      became = grown_slots 0 1 (λ S i. whole 0) (λ S. exponent_val (at (S 19))) c.loop-i.invariant (omega arith) (omega arith) (omega arith);
    }
