-- `run::adaptive_time_step::base_time_step` meets its contract.
use Rattle.run.specs.ClockLaws.{base_slowed, base_full}
use Rattle.run.proofs.adaptive_time_step.base_time_step.Goals as goal

pub returns-then-min : goal.returns-then-min
returns-then-min c = base_slowed _ _ c.delta-base.ensures c.min.ensures c.if-min.true

pub returns : goal.returns
returns c = base_full _ _ c.delta-base.ensures c.min.ensures c.if-min.false
