-- `Slots::equations_of_motion` meets its contract: its passes are the definitions on the level's grid.
use Rattle.std.proofs.Common.{refl, ap, ◌∙◌}
use Rattle.vectors.specs.Dissipation.{dissipation_scale}
use Rattle.physics.specs.EquationLaws.{derivatives_are}
use Rattle.physics.specs.Passed.{then, named_here}
use Rattle.physics.specs.Slots.{slots}
use Rattle.physics.proofs.slots.Slots.equations_of_motion.Goals as goal

pub returns : goal.returns
returns c =
    let s = c.args.self.now in
    let G = c.requires.grid in
    named_here (derivatives_are s.level (slots s.n s.w.now) s.n _ _ s.grid refl (c.dissipation_scale-scale.ensures ∙ ap dissipation_scale c.delta.ensures) G.points G.correction c.requires.gradient)
    (then (then c.half_dissipations.ensures c.second_difference.ensures) c.compute_rates.ensures)
