-- `Step::take_stages` meets its contract: the passes of a step.
use lib.Ieee.{of_bits, of_int, round}
use Rattle.physics.specs.StepPassed.{step_then}
use Rattle.physics.proofs.step.Step.take_stages.Goals as goal

pub returns : goal.returns
unfolding of_bits of_int round
returns c =
    let doubled = step_then (step_then c.first_stage.ensures c.doubled_stage.ensures) c.doubled_stage-2.ensures in
    step_then (step_then doubled c.stage.ensures) c.next_state.ensures
