-- `Slots::apply_bcs` meets its contract: two passes.
use Rattle.std.proofs.Common.{refl, ◌∙◌, arith}
use Rattle.physics.specs.Equations.{bounded_of}
use Rattle.physics.specs.Slots.{slots, length_slot, wrote, both}
use Rattle.physics.specs.BoundaryLaws.{length-bounded_of}
use Rattle.physics.proofs.slots.Slots.apply_bcs.Goals as goal

pub returns : goal.returns
unfolding slots
returns c =
    let s = c.args.self.now in
    let n = c.args.self.now.n in
    let field = wrote n 0 (λ S. bounded_of (S 0)) _ _ (length-bounded_of _ ∙ length_slot n 0 _ (omega arith)) (omega arith) c.set_bcs.ensures in
    let momentum = wrote n 1 (λ S. bounded_of (S 1)) _ _ (length-bounded_of _ ∙ length_slot n 1 _ (omega arith)) (omega arith) c.set_bcs-2.ensures in
    record {
      memory = refl;
      level = refl;
      points = refl;
      became = both field momentum;
    }
