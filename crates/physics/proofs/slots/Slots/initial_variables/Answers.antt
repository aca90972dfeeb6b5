-- `Slots::initial_variables` meets its contract: three passes.
use Rattle.std.proofs.Common.{◌*◌, refl, ◌∙◌, arith}
use lib.Ieee.{binary64, mul}
use Rattle.vectors.specs.Exp.{exp_of}
use Rattle.physics.specs.InitialLaws.{exps, variable_passes, scaled_map}
use Rattle.physics.specs.InitialPasses.{scales}
use Rattle.physics.specs.Passed.{then, named}
use Rattle.physics.specs.Slots.{wrote_map, both}
use Rattle.physics.proofs.slots.Slots.initial_variables.Goals as goal

pub returns : goal.returns
returns c =
    let s = c.args.self.now in
    let amplitude = c.args.amplitude in
    let exp = wrote_map s.n 1 (2 * s.n) exp_of _ _ c.exp_all.ensures (omega arith) (omega arith) in
    let scaled = wrote_map s.n 1 (2 * s.n) (mul binary64 amplitude) _ _ (c.scale.ensures ∙ scaled_map amplitude _) (omega arith) (omega arith) in
    named (λ level n. variable_passes n amplitude)
    (then {g = λ level n S. scales amplitude (exps S)} c.initial_exponents.ensures (record { memory = refl; level = refl; points = refl; became = rw c.initial_exponents.ensures.points (both exp scaled) }))
