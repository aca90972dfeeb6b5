-- `Slots::compute_constraints` meets its contract: its passes are the definitions on the level's grid.
use Rattle.physics.specs.ConstraintLaws.{constraints_are}
use Rattle.physics.specs.Passed.{then, named_here}
use Rattle.physics.specs.Slots.{slots}
use Rattle.physics.proofs.slots.Slots.compute_constraints.Goals as goal

pub returns : goal.returns
returns c =
    let s = c.args.self.now in
    named_here (rw c.delta-h.ensures at (constraints_are s.level (slots s.n s.w.now) s.n _ s.grid c.delta-h.ensures c.requires.points))
    (then (then c.compute_radial_gradient.ensures (rw c.delta-h.ensures at c.compute_lapse.ensures)) (rw c.delta-h.ensures at c.compute_radial_factor.ensures))
