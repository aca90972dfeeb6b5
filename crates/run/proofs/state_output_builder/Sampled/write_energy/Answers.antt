-- `run::state_output_builder::Sampled::write_energy` meets its contract.
use Rattle.std.proofs.Common.{List, ap, ◌∙◌}
use lib.Ieee.{Float}
use Rattle.physics.specs.TotalEnergy.{last_of}
use Rattle.run.specs.Written.{then}
use Rattle.run.proofs.state_output_builder.Sampled.write_energy.Goals as goal

pub returns : goal.returns
returns c =
    let energy = c.total_energy.ensures ∙ ap (λ (mass : List Float). last_of mass) c.vector.ensures.0 in
    rw energy at (then c.push.ensures c.write_vector.ensures)
