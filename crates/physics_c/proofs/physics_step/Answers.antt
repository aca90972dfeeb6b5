-- `physics_step` meets its contract.
use Rattle.physics.specs.WorkLaws.{room_to_step_lem}
use Rattle.physics_c.specs.Kept.{still}
use Rattle.physics_c.proofs.physics_step.Goals as goal

pub keep-requires : goal.keep-requires
keep-requires c = still (room_to_step_lem _ _ _ c.in_default.ensures.refused) c.in_default.ensures.made
