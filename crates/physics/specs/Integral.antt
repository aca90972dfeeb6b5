-- `integrate` (01, "Constraints"; integration.rs): "Simpson 1/3 and 3/8, and for entry 1 of `integrate` the quadratic rule 5, 8, -1 over 12". Definitions only.
use Rattle.std.specs.Prelude.{ℕ, zero, suc, ◌-◌, ◌%◌, cond, List, length, ◌==◌, Float}
use Rattle.std.specs.Float.{binary64}
use Rattle.std.specs.Float.Ieee.{add, sub, mul, div}
use Rattle.vectors.specs.Constants.{whole}
use Rattle.vectors.specs.Memory.{tab}
use Rattle.physics.specs.Vector.{at}

-- points 0 to 1 by the quadratic through 0, 1 and 2
abbrev pub quadratic_over : Float → List Float → Float
quadratic_over h v =
    mul binary64 (div binary64 h (whole 12))
    (sub binary64 (add binary64 (mul binary64 (whole 5) (at v 0)) (mul binary64 (whole 8) (at v 1))) (at v 2))

-- points i - 2 to i by Simpson's 1/3 rule
abbrev pub simpson_over : Float → List Float → ℕ → Float
simpson_over h v i =
    mul binary64 (div binary64 h (whole 3))
    (add binary64 (add binary64 (at v (i - 2)) (mul binary64 (whole 4) (at v (i - 1)))) (at v i))

-- points i - 3 to i by Simpson's 3/8 rule
abbrev pub eighths_over : Float → List Float → ℕ → Float
eighths_over h v i =
    mul binary64 (div binary64 (mul binary64 (whole 3) h) (whole 8))
    (add binary64 (add binary64 (add binary64 (at v (i - 3)) (mul binary64 (whole 3) (at v (i - 2)))) (mul binary64 (whole 3) (at v (i - 1)))) (at v i))

-- the integral from point 0 to point i: the rule that ends at i, added to the integral up to where it begins
unfoldable pub integral_at : Float → List Float → ℕ → Float
integral_at h v zero = whole 0
integral_at h v (suc zero) = quadratic_over h v
integral_at h v (suc (suc zero)) = simpson_over h v 2
integral_at h v (suc (suc (suc k))) =
    let i = suc (suc (suc k)) in
    cond (i % 2 == 0) (add binary64 (integral_at h v (suc k)) (simpson_over h v i)) (add binary64 (integral_at h v k) (eighths_over h v i))

unfoldable pub integral_of : Float → List Float → List Float
unfolding integral_at tab
integral_of h v = tab (length v) (integral_at h v)
