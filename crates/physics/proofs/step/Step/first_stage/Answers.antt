-- `Step::first_stage` meets its contract: four passes.
use Rattle.std.proofs.Common.{refl}
use Rattle.physics.specs.Passed.{then, gridded_then, gradient_then, field_gradient}
use Rattle.physics.proofs.step.Step.first_stage.Goals as goal

pub equations_of_motion-requires : goal.equations_of_motion-requires
equations_of_motion-requires c =
    gradient_then c.args.self.now.gridded (then c.load.ensures.passed (field_gradient c.compute_radial_gradient.ensures)) refl refl refl

pub returns : goal.returns
returns c =
    let gradient = then c.load.ensures.passed (field_gradient c.compute_radial_gradient.ensures) in
    record { lent = c.load.ensures.lent; state = c.load.ensures.state; passed = then (then gradient c.equations_of_motion.ensures) c.begin_sums.ensures }

pub invariant_of-self-clause-gridded : goal.invariant_of-self-clause-gridded
invariant_of-self-clause-gridded c =
    gridded_then c.args.self.now.gridded (then (then (then c.load.ensures.passed c.compute_radial_gradient.ensures) c.equations_of_motion.ensures) c.begin_sums.ensures) refl refl
