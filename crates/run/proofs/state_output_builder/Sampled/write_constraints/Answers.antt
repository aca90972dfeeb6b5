-- `run::state_output_builder::Sampled::write_constraints` meets its contract.
use Rattle.std.proofs.Common.{arith}
use Rattle.run.specs.Written.{then, wider}
use Rattle.run.proofs.state_output_builder.Sampled.write_constraints.Goals as goal

pub returns : goal.returns
returns c =
    wider (then c.write_vector.ensures (then c.write_vector-2.ensures (then c.write_vector-3.ensures (then c.write_vector-4.ensures c.write_vector-5.ensures)))) (omega arith)
