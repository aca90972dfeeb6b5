-- 01, "Minimum: by `total_cmp`": -infinity, the numbers by size with -0 below +0, +infinity, and above all the NaN, of which there is one and without a sign.
use Rattle.std.specs.Prelude.{Bool, true, false, not, cond, List, [], ◌∷◌, ℕ, ◌*◌, ℤ, ltb, Float}
use Rattle.std.specs.Float.{nan, inf, fin}
use Rattle.std.specs.Float.Ieee.{up, down}

-- m × 2^e < n × 2^d, where 2^e is up e / down e
abbrev pub smaller : ℕ → ℤ → ℕ → ℤ → Bool
smaller m e n d = ltb (m * up e * down d) (n * up d * down e)

-- the left one comes before the right one; a sign is true where it is negative
unfoldable pub total_less : Float → Float → Bool
total_less nan y = false
total_less (inf s) nan = true
total_less (inf true) (inf t) = not t
total_less (inf false) (inf t) = false
total_less (inf s) (fin t n d) = s
total_less (fin s m e) nan = true
total_less (fin s m e) (inf t) = not t
total_less (fin true m e) (fin true n d) = smaller n d m e
total_less (fin true m e) (fin false n d) = true
total_less (fin false m e) (fin true n d) = false
total_less (fin false m e) (fin false n d) = smaller m e n d

-- b where it is below a, else a
unfoldable pub lesser_of : Float → Float → Float
unfolding total_less
lesser_of a b = cond (total_less b a) b a

-- the least of a list, NaN where it is empty
unfoldable pub minimum_of : List Float → Float
unfolding lesser_of
minimum_of [] = nan
minimum_of (x ∷ xs) = lesser_of x (minimum_of xs)
