-- The initial state (01, "Stage and step"; state_builder.rs). Definitions only; the lemma gives the bits of π and π/2.
use Rattle.std.specs.Prelude.{◌≡◌, ℕ, ◌^◌, List, refl, Float}
use Rattle.std.specs.Float.{binary64}
use Rattle.std.specs.Float.Ieee.{mul, div, neg, round, of_int, of_bits}
use Rattle.vectors.specs.Constants.{whole, nearest_to, initial_wave_steepness}
use Rattle.vectors.specs.Exp.{exp_of}
use Rattle.vectors.specs.Grid.{points_of, point_of}
use Rattle.vectors.specs.Memory.{tab}
use Rattle.vectors.specs.Powers.{square_of}
use Rattle.vectors.specs.Tan.{tan_of}
use Rattle.physics.specs.Constraints.{constraints_of}
use Rattle.physics.specs.State.{State}
use Rattle.physics.specs.Rk4.{state_of}

-- `PI` of std::f64::consts, the float nearest to π
unfoldable pub pi : Float
pi = nearest_to 314159265358979323846264338327950288 (10 ^ 35)

unfoldable pub half_pi : Float
unfolding pi
half_pi = div binary64 pi (whole 2)

pub pi_bits : (pi ≡ of_bits binary64 0x400921FB54442D18) × (half_pi ≡ of_bits binary64 0x3FF921FB54442D18)
unfolding half_pi div round of_int of_bits
pi_bits = (refl, refl)

-- the exponent of `initial_wave_profile` at coordinate r: (-64) × (tan((π/2) × r))²
unfoldable pub exponent_at : Float → Float
unfolding half_pi initial_wave_steepness tan_of
exponent_at r = mul binary64 (neg initial_wave_steepness) (square_of (tan_of (mul binary64 half_pi r)))

-- `initial_wave_profile`: amplitude × exp(exponent)
unfoldable pub wave_profile_of : ℕ → Float → List Float
unfolding exponent_at exp_of point_of tab
wave_profile_of level amplitude = tab (points_of level) (λ i. mul binary64 amplitude (exp_of (exponent_at (point_of level i))))

-- `build_initial_state`: "The initial state gets no boundary values."
unfoldable pub initial_state_of : ℕ → Float → State
unfolding wave_profile_of state_of constraints_of
initial_state_of level amplitude =
    let field = tab (points_of level) (λ i. whole 0) in
    let momentum = wave_profile_of level amplitude in
    state_of level (whole 0) field momentum (constraints_of level field momentum).mass
