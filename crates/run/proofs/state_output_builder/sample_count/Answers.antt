-- `run::state_output_builder::sample_count` meets its contract.
use Rattle.std.proofs.Common.{sym, arith}
use Rattle.run.specs.FramesLaws.{samples_in, samples_out}
use Rattle.run.proofs.state_output_builder.Shifts.{shifted}
use Rattle.run.proofs.state_output_builder.sample_count.Goals as goal

pub returns-then-dx_level-gt16 : goal.returns-then-dx_level-gt16
returns-then-dx_level-gt16 c = sym (samples_out _ c.if-dx_level-gt16.true)

pub returns : goal.returns
returns c = rw (shifted c.args.dx_level (omega arith)) (sym (samples_in c.args.dx_level (omega arith)))
