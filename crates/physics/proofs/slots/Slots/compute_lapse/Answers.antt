-- `Slots::compute_lapse` meets its contract: four passes.
use Rattle.std.proofs.Common.{◌*◌, refl, arith}
use Rattle.vectors.specs.Exp.{exp_of}
use Rattle.physics.specs.ConstraintLaws.{lapse_passes}
use Rattle.physics.specs.Passed.{then, named}
use Rattle.physics.specs.Passes.{exps}
use Rattle.physics.specs.Slots.{wrote_map}
use Rattle.physics.proofs.slots.Slots.compute_lapse.Goals as goal

pub returns : goal.returns
returns c =
    let s = c.args.self.now in
    let before = then c.compute_integrand.ensures c.integrate.ensures in
    let exp = wrote_map s.n 6 (7 * s.n) exp_of _ _ c.exp_all.ensures (omega arith) (omega arith) in
    named (λ level n. lapse_passes n c.args.h)
    (then (then {g = λ level n. exps} before (record { memory = refl; level = refl; points = refl; became = rw before.points exp })) c.normalise_lapse.ensures)
