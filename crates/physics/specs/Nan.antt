-- 01, "Plain run": "a NaN in its time or any of its eight vectors". Definitions only.
use Rattle.std.specs.Prelude.{Bool, ◌||◌, List, is_nan, Float}
use Rattle.std.specs.List.{list_any}
use Rattle.physics.specs.State.{State}

-- some number of the list is a NaN
unfoldable pub holds_nan : List Float → Bool
holds_nan xs = list_any is_nan xs

unfoldable pub state_has_nan : State → Bool
state_has_nan s =
    is_nan s.time
    || (holds_nan s.field
    || (holds_nan s.conj_momentum
    || (holds_nan s.alternate_mass
    || (holds_nan s.energy_density
    || (holds_nan s.mass
    || (holds_nan s.radial_factor
    || (holds_nan s.lapse
    || holds_nan s.char_speed)))))))

-- the time is a NaN, or a number of the memory is
unfoldable pub any_nan : Float → List Float → Bool
any_nan time memory = is_nan time || holds_nan memory
