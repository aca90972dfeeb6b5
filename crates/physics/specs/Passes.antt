-- What each pass over the slots of work memory makes of them.
use Rattle.std.specs.Prelude.{◌≡◌, ℕ, ◌+◌, ◌*◌, ◌%◌, ◌<◌, ◌≤◌, true, cond, List, map, length, ◌==◌, Float}
use Rattle.std.specs.Float.{binary64}
use Rattle.std.specs.Float.Ieee.{add, mul, div}
use Rattle.vectors.specs.Constants.{whole}
use Rattle.vectors.specs.Dissipation.{radial_correction_of, half_dissipation_of}
use Rattle.vectors.specs.Exp.{exp_of}
use Rattle.vectors.specs.Grid.{points_of, spacing_of, point_of}
use Rattle.vectors.specs.Memory.{tab}
use Rattle.vectors.specs.MemoryLaws.{apart}
use Rattle.vectors.specs.Powers.{reciprocal_of}
use Rattle.vectors.specs.Stencil.{diff_of, diff2_of, diff3_at}
use Rattle.vectors.specs.StencilLaws.{Window}
use Rattle.physics.specs.Constraints.{Constraints, integrand_at, normalised_of, radial_factor_at, energy_density_at, mass_at, radial_gradient_of, lapse_of, radial_factor_of, char_speed_of, energy_density_of, mass_of}
use Rattle.physics.specs.Equations.{field_rate_at, momentum_rate_at, origin_rate_at, mass_rate_at, dt_field_of, dt_conj_momentum_of, dt_alternate_mass_of, bounded_of}
use Rattle.physics.specs.Integral.{integral_of}
use Rattle.physics.specs.SlotNumbers.{field_slot, momentum_slot, energy_density_slot, mass_slot, radial_factor_slot, lapse_slot, char_speed_slot, gradient_slot, scratch_slot, integral_slot, half_field_slot, half_momentum_slot, dt_field_slot, dt_momentum_slot, dt_mass_slot, points_slot, correction_slot, slot_count}
use Rattle.physics.specs.Slots.{Slots, slots, upd}
use Rattle.physics.specs.Vector.{at}

-- ---- what passes ask of memory

-- room for the slots
pub record Room (n len : ℕ) : Type 0 where
  pub many : 9 ≤ n
  pub odd : n % 2 ≡ 1
  pub fits : slot_count * n ≤ len

-- room for the slots, on the grid of a level, whose points and radial correction stand in theirs
pub record Ready (level n : ℕ) (w : List Float) : Type 0 where
  pub many : 9 ≤ n
  pub odd : n % 2 ≡ 1
  pub fits : slot_count * n ≤ length w
  pub grid : n ≡ points_of level
  pub points : at (slots n w points_slot) ≡ point_of level
  pub correction : at (slots n w correction_slot) ≡ (λ i. radial_correction_of (point_of level i))

-- n numbers from from on, and n from to on that lie apart from them
pub record Inside (len from to n : ℕ) : Type 0 where
  pub source : from + n ≤ len
  pub target : to + n ≤ len
  pub far : apart to n from n ≡ true

-- room for the slots, and n numbers from to on that lie apart from the scratch slot
pub record Target (n len to : ℕ) : Type 0 where
  pub many : 9 ≤ n
  pub odd : n % 2 ≡ 1
  pub fits : slot_count * n ≤ len
  pub target : to + n ≤ len
  pub far : apart to n (scratch_slot * n) n ≡ true

-- ---- the grid
abbrev pub grids : ℕ → ℕ → Slots → Slots
grids level n S = upd correction_slot (tab n (λ i. radial_correction_of (point_of level i))) (upd points_slot (tab n (point_of level)) S)

-- ---- the constraints, pass by pass

abbrev pub gradients : Float → Slots → Slots
gradients h S = upd gradient_slot (diff_of h (S field_slot)) S

-- with r i the coordinate of point i
abbrev pub integrand_val : (ℕ → Float) → List Float → List Float → ℕ → Float
integrand_val r gradient momentum i = integrand_at (r i) (at gradient i) (at momentum i)

abbrev pub integrands : ℕ → Slots → Slots
integrands n S = upd scratch_slot (tab n (integrand_val (at (S points_slot)) (S gradient_slot) (S momentum_slot))) S

-- the log lapse, and the lapse before it is normalised
abbrev pub log_lapses : Float → Slots → Slots
log_lapses h S = upd lapse_slot (integral_of h (S scratch_slot)) S

abbrev pub exps : Slots → Slots
exps S = upd lapse_slot (map exp_of (S lapse_slot)) S

abbrev pub normals : Slots → Slots
normals S = upd scratch_slot (map reciprocal_of (normalised_of (S lapse_slot))) (upd lapse_slot (normalised_of (S lapse_slot)) S)

-- the four passes of the lapse in a row
abbrev pub lapse_on : ℕ → Float → (ℕ → Float) → List Float → List Float → List Float
lapse_on n h r gradient momentum = normalised_of (map exp_of (integral_of h (tab n (integrand_val r gradient momentum))))

abbrev pub lapses : ℕ → Float → Slots → Slots
lapses n h S = let lapse = lapse_on n h (at (S points_slot)) (S gradient_slot) (S momentum_slot) in upd scratch_slot (map reciprocal_of lapse) (upd lapse_slot lapse S)

abbrev pub integrals : Float → Slots → Slots
integrals h S = upd integral_slot (integral_of h (S scratch_slot)) S

abbrev pub radial_val : (ℕ → Float) → List Float → List Float → Float → ℕ → Float
radial_val r lapse integral integral₀ i = cond (i == 0) (whole 1) (radial_factor_at (at lapse i) (r i) (at integral i) integral₀)

abbrev pub speed_val : (ℕ → Float) → List Float → List Float → Float → ℕ → Float
speed_val r lapse integral integral₀ i = div binary64 (radial_val r lapse integral integral₀ i) (at lapse i)

abbrev pub radials : ℕ → Slots → Slots
radials n S =
    upd char_speed_slot (tab n (speed_val (at (S points_slot)) (S lapse_slot) (S integral_slot) (at (S integral_slot) 0)))
    (upd radial_factor_slot (tab n (radial_val (at (S points_slot)) (S lapse_slot) (S integral_slot) (at (S integral_slot) 0))) S)

abbrev pub radial_factors : ℕ → Float → Slots → Slots
radial_factors n h S = radials n (integrals h S)

abbrev pub energy_val : (ℕ → Float) → List Float → List Float → ℕ → Float
energy_val r gradient momentum i = energy_density_at (r i) (at gradient i) (at momentum i)

abbrev pub mass_val : (ℕ → Float) → List Float → ℕ → Float
mass_val r radial_factor i = mass_at (r i) (at radial_factor i)

abbrev pub energies : ℕ → Slots → Slots
energies n S =
    upd mass_slot (tab n (mass_val (at (S points_slot)) (S radial_factor_slot)))
    (upd energy_density_slot (tab n (energy_val (at (S points_slot)) (S gradient_slot) (S momentum_slot))) S)

-- ---- the constraints, by their definitions

abbrev pub lapse_in : ℕ → Slots → List Float
lapse_in level S = lapse_of level (radial_gradient_of level (S field_slot)) (S momentum_slot)

abbrev pub radial_factor_in : ℕ → Slots → List Float
radial_factor_in level S = radial_factor_of level (lapse_in level S)

abbrev pub constraints : ℕ → Slots → Slots
constraints level S =
    upd char_speed_slot (char_speed_of level (radial_factor_in level S) (lapse_in level S))
    (upd radial_factor_slot (radial_factor_in level S)
    (upd integral_slot (integral_of (spacing_of level) (map reciprocal_of (lapse_in level S)))
    (upd scratch_slot (map reciprocal_of (lapse_in level S))
    (upd lapse_slot (lapse_in level S)
    (upd gradient_slot (radial_gradient_of level (S field_slot)) S)))))

abbrev pub full_constraints : ℕ → Slots → Slots
full_constraints level S =
    upd mass_slot (mass_of level (radial_factor_in level S))
    (upd energy_density_slot (energy_density_of level (radial_gradient_of level (S field_slot)) (S momentum_slot)) (constraints level S))

-- ---- the equations of motion, pass by pass

-- with c i the radial correction at point i
abbrev pub half_val : (ℕ → Float) → List Float → ℕ → Float
half_val c xs i = mul binary64 (c i) (diff3_at xs i)

unfoldable pub half_on : (ℕ → Float) → List Float → List Float
unfolding tab
half_on c xs = tab (length xs) (half_val c xs)

abbrev pub halves : Slots → Slots
halves S = upd half_momentum_slot (half_on (at (S correction_slot)) (S momentum_slot)) (upd half_field_slot (half_on (at (S correction_slot)) (S field_slot)) S)

abbrev pub seconds : Float → Slots → Slots
seconds h S = upd scratch_slot (diff2_of h (S field_slot)) S

-- scale times the third difference of the half dissipation
abbrev pub damping_val : Float → List Float → ℕ → Float
damping_val scale half i = mul binary64 scale (diff3_at half i)

abbrev pub field_rate_val : Float → List Float → List Float → List Float → ℕ → Float
field_rate_val scale char_speed momentum half i = add binary64 (field_rate_at (at char_speed i) (at momentum i)) (damping_val scale half i)

abbrev pub momentum_rate_val : (ℕ → Float) → Float → List Float → List Float → List Float → List Float → List Float → List Float → ℕ → Float
momentum_rate_val r scale char_speed second radial_factor gradient lapse half i =
    add binary64
    (cond (i == 0) (origin_rate_at (at second i) (at lapse i)) (momentum_rate_at (at char_speed i) (at second i) (at radial_factor i) (at gradient i) (r i) (at lapse i)))
    (damping_val scale half i)

abbrev pub mass_rate_val : (ℕ → Float) → List Float → List Float → List Float → List Float → ℕ → Float
mass_rate_val r radial_factor lapse gradient momentum i = mass_rate_at (r i) (at radial_factor i) (at lapse i) (at gradient i) (at momentum i)

abbrev pub mass_rate_in : Slots → ℕ → Float
mass_rate_in S = mass_rate_val (at (S points_slot)) (S radial_factor_slot) (S lapse_slot) (S gradient_slot) (S momentum_slot)

abbrev pub mass_rates : ℕ → Slots → Slots
mass_rates n S = upd dt_mass_slot (tab n (mass_rate_in S)) S

abbrev pub rates : ℕ → Float → Slots → Slots
rates n scale S =
    mass_rates n
    (upd dt_momentum_slot (tab n (momentum_rate_val (at (S points_slot)) scale (S char_speed_slot) (S scratch_slot) (S radial_factor_slot) (S gradient_slot) (S lapse_slot) (S half_momentum_slot)))
    (upd dt_field_slot (tab n (field_rate_val scale (S char_speed_slot) (S momentum_slot) (S half_field_slot))) S))

-- the same in passes: the dissipation, to which the rates without it are added
abbrev pub dampings : ℕ → Float → Slots → Slots
dampings n scale S = upd dt_momentum_slot (tab n (damping_val scale (S half_momentum_slot))) (upd dt_field_slot (tab n (damping_val scale (S half_field_slot))) S)

abbrev pub field_rate_in : Slots → ℕ → Float
field_rate_in S i = add binary64 (field_rate_at (at (S char_speed_slot) i) (at (S momentum_slot) i)) (at (S dt_field_slot) i)

abbrev pub momentum_rate_in : Slots → ℕ → Float
momentum_rate_in S i =
    add binary64
    (cond (i == 0) (origin_rate_at (at (S scratch_slot) i) (at (S lapse_slot) i))
    (momentum_rate_at (at (S char_speed_slot) i) (at (S scratch_slot) i) (at (S radial_factor_slot) i) (at (S gradient_slot) i) (at (S points_slot) i) (at (S lapse_slot) i)))
    (at (S dt_momentum_slot) i)

abbrev pub field_rates : ℕ → Slots → Slots
field_rates n S = upd dt_field_slot (tab n (field_rate_in S)) S

abbrev pub momentum_rates : ℕ → Slots → Slots
momentum_rates n S = upd dt_momentum_slot (tab n (momentum_rate_in S)) S

-- points lo to hi, the seven numbers of whose third difference begin back before them
pub record Run (n lo hi back : ℕ) : Type 0 where
  pub order : lo ≤ hi
  pub within : hi ≤ n
  pub leftmost : back ≤ lo
  pub windows : (i : ℕ) → lo ≤ i → i < hi → Window n i back

-- n numbers from from on, and as many from to on, after them, in a memory of len
pub record Later (len from to n : ℕ) : Type 0 where
  pub many : 9 ≤ n
  pub after : from + n ≤ to
  pub target : to + n ≤ len

-- a call at a point i below n gives c i, where post i x says that x is what it may give
abbrev pub Gives : (ℕ → Float → Type 0) → ℕ → (ℕ → Float) → Type 0
Gives post n c = (i : ℕ) (x : Float) → i < n → post i x → x ≡ c i

-- ---- the equations of motion, by their definitions

abbrev pub constraints_in : Slots → Constraints
constraints_in S =
    record { energy_density = S energy_density_slot; mass = S mass_slot; radial_factor = S radial_factor_slot; lapse = S lapse_slot; char_speed = S char_speed_slot }

abbrev pub derivatives : ℕ → Slots → Slots
derivatives level S =
    upd dt_mass_slot (dt_alternate_mass_of level (S field_slot) (S momentum_slot) (constraints_in S))
    (upd dt_momentum_slot (dt_conj_momentum_of level (S field_slot) (S momentum_slot) (constraints_in S))
    (upd dt_field_slot (dt_field_of level (S field_slot) (S momentum_slot) (constraints_in S))
    (upd scratch_slot (diff2_of (spacing_of level) (S field_slot))
    (upd half_momentum_slot (half_dissipation_of level (S momentum_slot)) (upd half_field_slot (half_dissipation_of level (S field_slot)) S)))))

-- boundary values
abbrev pub bounds : Slots → Slots
bounds S = upd momentum_slot (bounded_of (S momentum_slot)) (upd field_slot (bounded_of (S field_slot)) S)
