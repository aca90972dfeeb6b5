-- `Slots::compute_radial_factor` meets its contract: two passes.
use Rattle.physics.specs.Passed.{then}
use Rattle.physics.proofs.slots.Slots.compute_radial_factor.Goals as goal

pub returns : goal.returns
returns c =
    then c.integrate.ensures c.radial_factor_and_char_speed.ensures
