-- When `rk4_step` is refused, and the time that it answers. Definitions only.
use Rattle.std.specs.Prelude.{ℕ, zero, suc, ◌*◌, Bool, ◌&&◌, nat_le, Float}
use Rattle.std.specs.Prelude.{Option, None, Some}
use Rattle.vectors.specs.Grid.{points_of}

-- the time of the next state where the answer has number 0, else none
abbrev pub time_after : ℕ → Float → Option Float
time_after zero time = Some time
time_after (suc number) time = None

-- room for a state in state memory, and for 40 vectors in work memory
abbrev pub room_to_step : ℕ → ℕ → ℕ → Bool
room_to_step level state work = nat_le (8 * points_of level) state && nat_le (40 * points_of level) work
