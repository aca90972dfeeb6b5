-- `Step::next_state` meets its contract: three passes.
use Rattle.std.proofs.Common.{refl}
use Rattle.physics.specs.Passed.{then, gridded_then}
use Rattle.physics.proofs.step.Step.next_state.Goals as goal

pub compute_all_constraints-requires : goal.compute_all_constraints-requires
compute_all_constraints-requires c =
    gridded_then c.args.self.now.gridded (then c.next_variables.ensures.passed c.apply_bcs.ensures) refl refl

pub returns : goal.returns
returns c =
    let variables = c.next_variables.ensures in
    record { lent = variables.lent; state = variables.state; passed = then (then variables.passed c.apply_bcs.ensures) c.compute_all_constraints.ensures }

pub invariant_of-self-clause-gridded : goal.invariant_of-self-clause-gridded
invariant_of-self-clause-gridded c =
    gridded_then c.args.self.now.gridded (then (then c.next_variables.ensures.passed c.apply_bcs.ensures) c.compute_all_constraints.ensures) refl refl
