-- Where each vector stands in state memory: after so many others.
use Rattle.std.specs.Prelude.{ℕ}
use Rattle.run.specs.declared.state_output_builder.Vector.{Vector}
use Rattle.run.specs.declared.state_output_builder.Vector.TheVariants.{Field, ConjMomentum, AlternateMass, EnergyDensity, Mass, RadialFactor, Lapse, CharSpeed}

-- the sequence of document 01's state memory
abbrev pub place_of : Vector → ℕ
place_of Field = 0
place_of ConjMomentum = 1
place_of AlternateMass = 2
place_of EnergyDensity = 3
place_of Mass = 4
place_of RadialFactor = 5
place_of Lapse = 6
place_of CharSpeed = 7
