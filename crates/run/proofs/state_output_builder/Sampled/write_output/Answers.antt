-- `run::state_output_builder::Sampled::write_output` meets its contract.
use Rattle.std.proofs.Common.{arith}
use Rattle.run.specs.Written.{then, wider}
use Rattle.run.proofs.state_output_builder.Sampled.write_output.Goals as goal

pub returns : goal.returns
returns c = wider (then c.push.ensures (then c.write_fields.ensures (then c.write_constraints.ensures c.write_energy.ensures))) (omega arith)
