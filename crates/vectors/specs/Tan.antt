-- tan, ours (01, "Grid and vectors"), the formula alike for any y. Definitions only.
use Rattle.std.specs.Prelude.{cond, ℕ, zero, suc, ◌+◌, ◌*◌, ◌%◌, eqb, pos, Float}
use Rattle.std.specs.Float.{binary64}
use Rattle.std.specs.Float.Ieee.{add, mul, div, neg, of_int}

abbrev pub factorial : ℕ → ℕ
factorial zero = 1
factorial (suc n) = suc n * factorial n

-- (-1)^q/n!: "1 divided by the exact factorial, then signed"
abbrev pub signed_reciprocal : ℕ → ℕ → Float
signed_reciprocal q n =
    let reciprocal = div binary64 (of_int binary64 (pos 1)) (of_int binary64 (pos (factorial n))) in
    cond (eqb (q % 2) 0) reciprocal (neg reciprocal)

-- "(-1)^q/(2q+1)!"
abbrev pub sine_coefficient : ℕ → Float
sine_coefficient q = signed_reciprocal q (2 * q + 1)

-- "(-1)^q/(2q)!"
abbrev pub cosine_coefficient : ℕ → Float
cosine_coefficient q = signed_reciprocal q (2 * q)

-- Horner's rule in z over c q, c (q + 1), .., c (q + n): c q + z × (c (q + 1) + z × (.. + z × c (q + n))), innermost first
abbrev pub horner : Float → (ℕ → Float) → ℕ → ℕ → Float
horner z c q zero = c q
horner z c q (suc n) = add binary64 (c q) (mul binary64 z (horner z c (suc q) n))

-- "s = y × Horner in z", without the factor y: "q = 0 to 10"
unfoldable pub sine_series : Float → Float
sine_series z = horner z sine_coefficient 0 10

-- "c = Horner", "q = 0 to 11"
unfoldable pub cosine_series : Float → Float
cosine_series z = horner z cosine_coefficient 0 11

-- "s/c. With z = y²"
unfoldable pub tan_of : Float → Float
unfolding sine_series cosine_series
tan_of y = let z = mul binary64 y y in div binary64 (mul binary64 y (sine_series z)) (cosine_series z)
