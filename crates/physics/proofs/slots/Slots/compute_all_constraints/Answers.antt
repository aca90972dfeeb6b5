-- `Slots::compute_all_constraints` meets its contract: two passes, on the level's grid.
use Rattle.physics.specs.ConstraintLaws.{energies_are}
use Rattle.physics.specs.Passed.{then, named_here}
use Rattle.physics.specs.Slots.{slots}
use Rattle.physics.proofs.slots.Slots.compute_all_constraints.Goals as goal

pub returns : goal.returns
returns c =
    let s = c.args.self.now in
    named_here (energies_are s.level (slots s.n s.w.now) s.n s.grid c.requires.points)
    (then c.compute_constraints.ensures c.compute_energy_and_mass.ensures)
