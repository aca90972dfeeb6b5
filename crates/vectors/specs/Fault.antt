-- When a call of this layer is refused (01: 5, "level below 5 or above 16"; 11, "memory too short", here of another length than asked). Definitions only.
use Rattle.std.specs.Prelude.{Bool, cond, List, [], ◌∷◌, ℕ, ◌==◌, leb}
use Rattle.std.specs.List.{list_all}
use Rattle.vectors.specs.Grid.{level_in_range, points_of}

-- 01's number; 0 where there is no fault
unfoldable pub fault_of : ℕ → Bool → ℕ
fault_of level fits = cond (level_in_range level) (cond fits 0 11) 5

-- each of the memories, by their lengths, holds one number for each point
unfoldable pub all_fit : ℕ → List ℕ → Bool
all_fit level lengths = list_all (λ len. len == points_of level) lengths

-- two memories do
abbrev pub both_fit : ℕ → ℕ → ℕ → Bool
both_fit level a b = all_fit level (a ∷ b ∷ [])

-- one memory holds at least so many numbers
abbrev pub short_of : ℕ → ℕ → ℕ
short_of least len = cond (leb least len) 0 11
