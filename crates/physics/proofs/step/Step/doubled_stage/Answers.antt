-- `Step::doubled_stage` meets its contract: two passes.
use Rattle.std.proofs.Common.{refl}
use Rattle.physics.specs.Passed.{then, gridded_then}
use Rattle.physics.proofs.step.Step.doubled_stage.Goals as goal

pub returns : goal.returns
returns c =
    record { lent = c.stage.ensures.lent; state = c.stage.ensures.state; passed = then c.stage.ensures.passed c.add_doubled.ensures }

pub invariant_of-self-clause-gridded : goal.invariant_of-self-clause-gridded
invariant_of-self-clause-gridded c =
    gridded_then c.args.self.now.gridded (then c.stage.ensures.passed c.add_doubled.ensures) refl refl
