-- A state laid out at the front of one memory, stored at the front of another. Definitions only.
use Rattle.std.specs.Prelude.{ℕ, ◌*◌, Bool, ◌&&◌, List, take, nat_le, Float}
use Rattle.vectors.specs.Grid.{points_of}
use Rattle.vectors.specs.Memory.{put}

-- two memories, of lengths a and b, have the 8n numbers of a state each
abbrev pub both_hold : ℕ → ℕ → ℕ → Bool
both_hold level a b = nat_le (8 * points_of level) a && nat_le (8 * points_of level) b

-- the memory with those numbers of the other in front; what follows them stays
abbrev pub stored_of : ℕ → List Float → List Float → List Float
stored_of n from memory = put 0 (take (8 * n) from) memory
