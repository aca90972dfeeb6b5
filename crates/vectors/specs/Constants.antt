-- The constants of constants.rs: a decimal fraction is the float nearest to it. The lemmas give their bits.
use Rattle.std.specs.Prelude.{◌≡◌, refl, false, ℕ, ℤ, pos, neg_ℤ, Float}
use Rattle.std.specs.Float.{binary64}
use Rattle.std.specs.Float.Ieee.{round, of_bits, of_int}

-- a whole number as a float
abbrev pub whole : ℕ → Float
whole k = of_int binary64 (pos k)

-- -k: `less 25` is -25
abbrev pub less : ℕ → ℤ
less k = neg_ℤ (pos k)

-- the float nearest to a / b
abbrev pub nearest_to : ℕ → ℕ → Float
nearest_to a b = round binary64 false a b

-- the radial factor below which steps are slowed down
unfoldable pub bh_radial_factor_tracking : Float
bh_radial_factor_tracking = nearest_to 1 10

-- the radial factor at or below which a black hole has formed
unfoldable pub bh_radial_factor_threshold : Float
bh_radial_factor_threshold = nearest_to 1 100

-- time step over spacing
unfoldable pub courant_number : Float
courant_number = nearest_to 95 100

-- what the time step is multiplied by where steps are slowed down
unfoldable pub bh_slowdown_factor : Float
bh_slowdown_factor = nearest_to 1 4

-- how near to a frame's time a state counts as being there
unfoldable pub eps : Float
eps = nearest_to 1 1000000000000

-- the factor of the dissipation
unfoldable pub dissipation_factor : Float
dissipation_factor = nearest_to 1 100

-- the steepness of the initial wave profile
unfoldable pub initial_wave_steepness : Float
initial_wave_steepness = nearest_to 64 1

pub constant_bits :
    (bh_radial_factor_tracking ≡ of_bits binary64 0x3FB999999999999A)
    × (bh_radial_factor_threshold ≡ of_bits binary64 0x3F847AE147AE147B)
    × (courant_number ≡ of_bits binary64 0x3FEE666666666666)
    × (bh_slowdown_factor ≡ of_bits binary64 0x3FD0000000000000)
    × (eps ≡ of_bits binary64 0x3D719799812DEA11)
    × (dissipation_factor ≡ of_bits binary64 0x3F847AE147AE147B)
    × (initial_wave_steepness ≡ of_bits binary64 0x4050000000000000)
unfolding bh_radial_factor_tracking bh_radial_factor_threshold courant_number bh_slowdown_factor eps dissipation_factor initial_wave_steepness round of_bits
constant_bits = (refl, refl, refl, refl, refl, refl, refl)
