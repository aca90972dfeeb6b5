-- `Slots::half_dissipations` meets its contract: two passes.
use Rattle.std.proofs.Common.{refl, ◌∙◌, arith}
use Rattle.physics.specs.Slots.{slots, length_slot, wrote, both}
use Rattle.physics.specs.Vector.{at}
use Rattle.physics.specs.Passes.{half_on}
use Rattle.physics.specs.EquationLaws.{length-half_on}
use Rattle.physics.proofs.slots.Slots.half_dissipations.Goals as goal

pub returns : goal.returns
unfolding slots
returns c =
    let s = c.args.self.now in
    let n = c.args.self.now.n in
    let field = wrote n 11 (λ S. half_on (at (S 20)) (S 0)) _ _ (length-half_on _ _ ∙ length_slot n 0 _ (omega arith)) (omega arith) c.half_dissipation.ensures in
    let momentum = wrote n 12 (λ S. half_on (at (S 20)) (S 1)) _ _ (length-half_on _ _ ∙ length_slot n 1 _ (omega arith)) (omega arith) c.half_dissipation-2.ensures in
    record {
      memory = refl;
      level = refl;
      points = refl;
      became = both field momentum;
    }
