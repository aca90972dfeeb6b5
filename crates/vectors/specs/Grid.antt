-- The grid (01, "Grid and vectors"): "Level L is 5 to 16, n = 2^L + 1 points, spacing h = 2^-L, point r_i = i × h." Definitions only.
use Rattle.std.specs.Prelude.{Bool, false, cond, ◌&&◌, ℕ, ◌+◌, ◌^◌, leb, ltb, pos, neg_ℤ, Float}
use Rattle.std.specs.Float.{nan, fin, binary64}
use Rattle.std.specs.Float.Ieee.{mul, of_int}

abbrev pub level_in_range : ℕ → Bool
level_in_range level = leb 5 level && leb level 16

-- n; 0 for any other level
unfoldable pub points_of : ℕ → ℕ
points_of level = cond (level_in_range level) (2 ^ level + 1) 0

-- h, the number 1 × 2^-L; NaN for any other level
unfoldable pub spacing_of : ℕ → Float
spacing_of level = cond (level_in_range level) (fin false 1 (neg_ℤ (pos level))) nan

-- r_i; NaN where the level has no point i
unfoldable pub point_of : ℕ → ℕ → Float
unfolding points_of spacing_of
point_of level i = cond (ltb i (points_of level)) (mul binary64 (of_int binary64 (pos i)) (spacing_of level)) nan
