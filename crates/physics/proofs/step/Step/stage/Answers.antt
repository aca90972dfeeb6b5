-- `Step::stage` meets its contract: four passes.
use Rattle.std.proofs.Common.{refl}
use Rattle.physics.specs.Passed.{then, gridded_then, gradient_then}
use Rattle.physics.proofs.step.Step.stage.Goals as goal

pub compute_constraints-requires : goal.compute_constraints-requires
compute_constraints-requires c =
    gridded_then c.args.self.now.gridded (then c.move_variables.ensures.passed c.apply_bcs.ensures) refl refl

pub equations_of_motion-requires : goal.equations_of_motion-requires
equations_of_motion-requires c =
    gradient_then c.args.self.now.gridded (then (then c.move_variables.ensures.passed c.apply_bcs.ensures) c.compute_constraints.ensures) refl refl refl

pub returns : goal.returns
returns c =
    let moved = c.move_variables.ensures in
    record { lent = moved.lent; state = moved.state; passed = then (then (then moved.passed c.apply_bcs.ensures) c.compute_constraints.ensures) c.equations_of_motion.ensures }

pub invariant_of-self-clause-gridded : goal.invariant_of-self-clause-gridded
invariant_of-self-clause-gridded c =
    gridded_then c.args.self.now.gridded (then (then (then c.move_variables.ensures.passed c.apply_bcs.ensures) c.compute_constraints.ensures) c.equations_of_motion.ensures) refl refl
