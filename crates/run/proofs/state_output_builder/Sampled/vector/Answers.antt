-- `run::state_output_builder::Sampled::vector` meets its contract.
use Rattle.std.proofs.Common.{◌≡◌, ◌*◌, ℕ, refl, ap, ◌∙◌, rules}
use denote.Enum.Declared.{tag_of}
use Rattle.vectors.specs.Memory.{part}
use Rattle.vectors.specs.MemoryLaws.{lent}
use Rattle.run.specs.contracts.state_output_builder.Vector.{the_type}
use Rattle.run.specs.declared.state_output_builder.Vector.{Vector}
use Rattle.run.specs.declared.state_output_builder.Vector.TheVariants.{Field, ConjMomentum, AlternateMass, EnergyDensity, Mass, RadialFactor, Lapse, CharSpeed}
use Rattle.run.specs.FramePlaces.{place_of}
use Rattle.run.proofs.state_output_builder.Sampled.vector.Goals as goal

-- the variants are numbered in their sequence
place : (v : Vector) → tag_of the_type v ≡ place_of v
place Field = refl
place ConjMomentum = refl
place AlternateMass = refl
place EnergyDensity = refl
place Mass = refl
place RadialFactor = refl
place Lapse = refl
place CharSpeed = refl

pub returns : goal.returns
returns c =
    let s = c.args.self in
    (lent _ _ s.n s.state.now refl ∙ ap (λ (k : ℕ). part (k * s.n) s.n s.state.now) (place c.args.vector), search rules)
