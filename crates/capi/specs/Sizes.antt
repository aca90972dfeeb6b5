-- How many numbers of state and work memory a run lends (01, "Plain run"), by the level alone. Definitions only.
use Rattle.std.specs.Prelude.{ℕ, ◌*◌}
use Rattle.vectors.specs.Grid.{points_of}

-- "state memory (first 8n numbers ..)"; 0 for a level outside 5 to 16
unfoldable pub state_size_of : ℕ → ℕ
state_size_of level = 8 * points_of level

-- "work memory (40n ..)"; 0 for a level outside 5 to 16
unfoldable pub work_size_of : ℕ → ℕ
work_size_of level = 40 * points_of level
