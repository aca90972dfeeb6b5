-- When `build_initial_state` is refused. Definitions only.
use Rattle.std.specs.Prelude.{ℕ, ◌*◌, Bool, nat_le}
use Rattle.vectors.specs.Grid.{points_of}

-- room for 40 vectors in work memory
abbrev pub room_to_build : ℕ → ℕ → Bool
room_to_build level work = nat_le (40 * points_of level) work
