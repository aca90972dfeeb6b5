-- `total_energy` of state.rs: the mass at the last point.
use Rattle.std.specs.Prelude.{◌-◌, List, length, slice_index_or, Float}
use Rattle.std.specs.Float.{nan}
use Rattle.physics.specs.State.{State}

-- the last number; NaN where there is none
abbrev pub last_of : List Float → Float
last_of xs = slice_index_or xs (length xs - 1) nan

unfoldable pub total_energy_of : State → Float
total_energy_of s = last_of s.mass
