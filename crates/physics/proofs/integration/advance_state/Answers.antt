-- `advance_state` meets its contract: two passes.
use Rattle.std.proofs.Common.{rules}
use Rattle.physics.specs.Passed.{then, grid_then}
use Rattle.physics.proofs.integration.advance_state.Goals as goal

pub invariant_of-step-clause-gridded : goal.invariant_of-step-clause-gridded
invariant_of-step-clause-gridded c =
    grid_then c.fill_grid.ensures

pub returns : goal.returns
returns c =
    let passed = then c.fill_grid.ensures c.take_stages.ensures.passed in
    let memory = passed.memory in
    let became = passed.became in
    search rules
