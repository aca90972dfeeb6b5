-- `run::state_output_builder::frame_size` meets its contract.
use Rattle.std.proofs.Common.{sym, arith, rules}
use Rattle.run.specs.FramesLaws.{samples_most, frame_size_in, frame_size_out}
use Rattle.run.proofs.state_output_builder.frame_size.Goals as goal

pub returns-then-s-gt16 : goal.returns-then-s-gt16
returns-then-s-gt16 c = sym (frame_size_out _ c.if-s-gt16.true)

pub overflow_mul-result : goal.overflow_mul-result
overflow_mul-result c = record { fits = omega (arith, samples_most c.args.s.dx_level) }

pub overflow_add-result : goal.overflow_add-result
overflow_add-result c = record { fits = omega (arith, samples_most c.args.s.dx_level) }

pub returns : goal.returns
returns c = rw (frame_size_in _ c.if-s-gt16.false) (search rules)
