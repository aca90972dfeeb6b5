-- `build_state` meets its contract: four passes.
use Rattle.std.proofs.Common.{refl, rules}
use Rattle.physics.specs.Passed.{then, gridded_then, grid_then}
use Rattle.physics.proofs.state_builder.build_state.Goals as goal

pub compute_all_constraints-requires : goal.compute_all_constraints-requires
compute_all_constraints-requires c =
    gridded_then (grid_then c.fill_grid.ensures) c.initial_variables.ensures refl refl

pub returns : goal.returns
returns c =
    let passed = then (then (then c.fill_grid.ensures c.initial_variables.ensures) c.compute_all_constraints.ensures) c.begin_alternate_mass.ensures in
    let memory = passed.memory in
    let became = passed.became in
    search rules
