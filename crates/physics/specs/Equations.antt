-- The equations of motion (01, "Stage and step"; equations.rs), on the grid of a level. Definitions only.
use Rattle.std.specs.Prelude.{ℕ, ◌-◌, cond, List, length, ◌==◌, slice_set, Float}
use Rattle.std.specs.Float.{binary64}
use Rattle.std.specs.Float.Ieee.{add, mul, div}
use Rattle.vectors.specs.Constants.{whole}
use Rattle.vectors.specs.Dissipation.{dissipation_at}
use Rattle.vectors.specs.Grid.{points_of, spacing_of, point_of}
use Rattle.vectors.specs.Memory.{tab}
use Rattle.vectors.specs.Powers.{square_of}
use Rattle.vectors.specs.Stencil.{diff_of, diff2_of, neumann_of, with_left_neumann}
use Rattle.physics.specs.Constraints.{Constraints, radial_gradient_of}
use Rattle.physics.specs.Vector.{at}

-- `calculate_dt_field`: char speed × momentum
abbrev pub field_rate_at : Float → Float → Float
field_rate_at char_speed momentum = mul binary64 char_speed momentum

-- `calculate_dt_conj_momentum`: char speed × second difference + ((radial factor + 1) × gradient) / (r × lapse)
abbrev pub momentum_rate_at : Float → Float → Float → Float → Float → Float → Float
momentum_rate_at char_speed second radial_factor gradient r lapse =
    add binary64 (mul binary64 char_speed second)
    (div binary64 (mul binary64 (add binary64 radial_factor (whole 1)) gradient) (mul binary64 r lapse))

-- "Entry 0 of the momentum derivative is (3 × second difference)/lapse."
abbrev pub origin_rate_at : Float → Float → Float
origin_rate_at second lapse = div binary64 (mul binary64 (whole 3) second) lapse

-- `calculate_dt_alternate_mass`: (((r² × radial factor²) / lapse) × gradient) × momentum
abbrev pub mass_rate_at : Float → Float → Float → Float → Float → Float
mass_rate_at r radial_factor lapse gradient momentum =
    mul binary64 (mul binary64 (div binary64 (mul binary64 (square_of r) (square_of radial_factor)) lapse) gradient) momentum

-- the rate of the field, with the field's dissipation
unfoldable pub dt_field_of : ℕ → List Float → List Float → Constraints → List Float
unfolding dissipation_at tab
dt_field_of level field momentum c = tab (points_of level) (λ i. add binary64 (field_rate_at (at c.char_speed i) (at momentum i)) (dissipation_at level field i))

-- the rate of the momentum; its entry 0 is replaced before the momentum's dissipation is added
unfoldable pub dt_conj_momentum_of : ℕ → List Float → List Float → Constraints → List Float
unfolding dissipation_at diff_of diff2_of point_of tab
dt_conj_momentum_of level field momentum c =
    let gradient = radial_gradient_of level field in
    let second = diff2_of (spacing_of level) field in
    tab (points_of level) (λ i. add binary64
    (cond (i == 0) (origin_rate_at (at second i) (at c.lapse i))
    (momentum_rate_at (at c.char_speed i) (at second i) (at c.radial_factor i) (at gradient i) (point_of level i) (at c.lapse i)))
    (dissipation_at level momentum i))

-- the rate of the alternate mass, which has no dissipation
unfoldable pub dt_alternate_mass_of : ℕ → List Float → List Float → Constraints → List Float
unfolding diff_of point_of tab
dt_alternate_mass_of level field momentum c =
    let gradient = radial_gradient_of level field in
    tab (points_of level) (λ i. mass_rate_at (point_of level i) (at c.radial_factor i) (at c.lapse i) (at gradient i) (at momentum i))

-- `EquationsOfMotion`: time derivatives of the field variables
pub record Equations : Type 0 where
  pub dt_field : List Float
  pub dt_conj_momentum : List Float
  pub dt_alternate_mass : List Float

-- `EquationsOfMotion::new`
unfoldable pub equations_of : ℕ → List Float → List Float → Constraints → Equations
unfolding dt_field_of dt_conj_momentum_of dt_alternate_mass_of
equations_of level field momentum c =
    record { dt_field = dt_field_of level field momentum c; dt_conj_momentum = dt_conj_momentum_of level field momentum c; dt_alternate_mass = dt_alternate_mass_of level field momentum c }

-- `apply_bcs` on one vector: the left Neumann value, then 0 at the last point
unfoldable pub bounded_of : List Float → List Float
unfolding neumann_of
bounded_of xs = slice_set (with_left_neumann xs) (length xs - 1) (whole 0)
