-- `run::state_output_builder::Sampled::write_fields` meets its contract.
use Rattle.std.proofs.Common.{arith}
use Rattle.run.specs.Written.{then, wider}
use Rattle.run.proofs.state_output_builder.Sampled.write_fields.Goals as goal

pub returns : goal.returns
returns c = wider (then c.write_vector.ensures (then c.reduce_spatial_resolution.ensures c.write_vector-2.ensures)) (omega arith)
