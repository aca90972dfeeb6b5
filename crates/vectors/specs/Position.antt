-- 01, "Constraints": "the first i with radial factor <= 0.01", for any bound.
use Rattle.std.specs.Prelude.{cond, List, [], ◌∷◌, ℕ, suc, Option, None, Some, option_map, Float}
use Rattle.std.specs.Float.Ieee.{le}

-- the first index whose value is <= bound; a NaN is <= nothing, and nothing is <= a NaN
unfoldable pub first_at_or_below : Float → List Float → Option ℕ
first_at_or_below bound [] = None
first_at_or_below bound (x ∷ xs) = cond (le x bound) (Some 0) (option_map suc (first_at_or_below bound xs))
