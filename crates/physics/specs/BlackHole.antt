-- 01, "Constraints": "Mass is reported at the first i with radial factor <= 0.01."
use Rattle.std.specs.Prelude.{List, slice_index_or, Option, option_map, Float}
use Rattle.std.specs.Float.{nan}
use Rattle.vectors.specs.Constants.{bh_radial_factor_threshold}
use Rattle.vectors.specs.Position.{first_at_or_below}
use Rattle.physics.specs.State.{State}

-- NaN where the mass has no number at that index
unfoldable pub black_hole_mass_of : List Float → List Float → Option Float
black_hole_mass_of radial_factor mass = option_map (λ i. slice_index_or mass i nan) (first_at_or_below bh_radial_factor_threshold radial_factor)

-- of a state
unfoldable pub state_black_hole_mass : State → Option Float
unfolding black_hole_mass_of
state_black_hole_mass s = black_hole_mass_of s.radial_factor s.mass
