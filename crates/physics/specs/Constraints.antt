-- The constraints (01, "Constraints"; constraint_computer.rs), on the grid of a level. Definitions only.
use Rattle.std.specs.Prelude.{ℕ, ◌-◌, cond, List, map, length, ◌==◌, Float}
use Rattle.std.specs.Float.{binary64}
use Rattle.std.specs.Float.Ieee.{add, sub, mul, div, neg}
use Rattle.vectors.specs.Constants.{whole, nearest_to}
use Rattle.vectors.specs.Exp.{exp_of}
use Rattle.vectors.specs.Grid.{points_of, spacing_of, point_of}
use Rattle.vectors.specs.Memory.{tab}
use Rattle.vectors.specs.Powers.{square_of, reciprocal_of}
use Rattle.vectors.specs.Stencil.{diff_of}
use Rattle.physics.specs.Integral.{integral_of}
use Rattle.physics.specs.Vector.{at}

abbrev pub half : Float
half = nearest_to 1 2

-- `compute_radial_gradient`
unfoldable pub radial_gradient_of : ℕ → List Float → List Float
radial_gradient_of level field = diff_of (spacing_of level) field

-- g² + p²
abbrev pub squares : Float → Float → Float
squares g p = add binary64 (square_of g) (square_of p)

-- the integrand of `compute_lapse`: (-1 × r) × (g² + p²)
abbrev pub integrand_at : Float → Float → Float → Float
integrand_at r g p = mul binary64 (mul binary64 (neg (whole 1)) r) (squares g p)

unfoldable pub integrand_of : ℕ → List Float → List Float → List Float
unfolding point_of tab
integrand_of level gradient momentum = tab (points_of level) (λ i. integrand_at (point_of level i) (at gradient i) (at momentum i))

-- "1.0 / lapse[lapse.len() - 1] * lapse"
unfoldable pub normalised_of : List Float → List Float
normalised_of xs = map (mul binary64 (reciprocal_of (at xs (length xs - 1)))) xs

-- `compute_lapse`
unfoldable pub lapse_of : ℕ → List Float → List Float → List Float
unfolding normalised_of exp_of integral_of integrand_of
lapse_of level gradient momentum = normalised_of (map exp_of (integral_of (spacing_of level) (integrand_of level gradient momentum)))

-- `compute_energy_density`: (0.5 × r²) × (g² + p²)
abbrev pub energy_density_at : Float → Float → Float → Float
energy_density_at r g p = mul binary64 (mul binary64 half (square_of r)) (squares g p)

unfoldable pub energy_density_of : ℕ → List Float → List Float → List Float
unfolding point_of tab
energy_density_of level gradient momentum = tab (points_of level) (λ i. energy_density_at (point_of level i) (at gradient i) (at momentum i))

-- `compute_radial_factor`, from the running integral of 1 over the lapse: (lapse / r) × (integral - its entry 0)
abbrev pub radial_factor_at : Float → Float → Float → Float → Float
radial_factor_at lapse r integral integral₀ = mul binary64 (div binary64 lapse r) (sub binary64 integral integral₀)

-- "Radial factor 0 is set to 1 after 0-times-infinity arose there."
unfoldable pub radial_factor_of : ℕ → List Float → List Float
unfolding point_of integral_of tab
radial_factor_of level lapse =
    let integral = integral_of (spacing_of level) (map reciprocal_of lapse) in
    tab (points_of level) (λ i. cond (i == 0) (whole 1) (radial_factor_at (at lapse i) (point_of level i) (at integral i) (at integral 0)))

-- the mass of `compute_constraints`: (0.5 × r) × (1 - radial factor)
abbrev pub mass_at : Float → Float → Float
mass_at r radial_factor = mul binary64 (mul binary64 half r) (sub binary64 (whole 1) radial_factor)

unfoldable pub mass_of : ℕ → List Float → List Float
unfolding point_of tab
mass_of level radial_factor = tab (points_of level) (λ i. mass_at (point_of level i) (at radial_factor i))

-- the char speed of `compute_constraints`: radial factor / lapse
unfoldable pub char_speed_of : ℕ → List Float → List Float → List Float
unfolding tab
char_speed_of level radial_factor lapse = tab (points_of level) (λ i. div binary64 (at radial_factor i) (at lapse i))

-- `Constraints` of constraints.rs
pub record Constraints : Type 0 where
  pub energy_density : List Float
  pub mass : List Float
  pub radial_factor : List Float
  pub lapse : List Float
  pub char_speed : List Float

-- `compute_constraints`
unfoldable pub constraints_of : ℕ → List Float → List Float → Constraints
unfolding radial_gradient_of lapse_of energy_density_of radial_factor_of mass_of char_speed_of
constraints_of level field momentum =
    let gradient = radial_gradient_of level field in
    let lapse = lapse_of level gradient momentum in
    let radial_factor = radial_factor_of level lapse in
    record {
      energy_density = energy_density_of level gradient momentum;
      mass = mass_of level radial_factor;
      radial_factor = radial_factor;
      lapse = lapse;
      char_speed = char_speed_of level radial_factor lapse;
    }
