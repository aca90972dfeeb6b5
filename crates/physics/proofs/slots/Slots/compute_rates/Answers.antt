-- `Slots::compute_rates` meets its contract: four passes.
use Rattle.physics.specs.EquationLaws.{rate_passes}
use Rattle.physics.specs.Passed.{then, named}
use Rattle.physics.proofs.slots.Slots.compute_rates.Goals as goal

pub returns : goal.returns
returns c =
    named (λ level n. rate_passes n c.args.scale)
    (then (then (then c.dissipations.ensures c.calculate_dt_field.ensures) c.calculate_dt_conj_momentum.ensures) c.calculate_dt_alternate_mass.ensures)
