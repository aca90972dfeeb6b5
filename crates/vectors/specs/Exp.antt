-- exp, ours (01, "Grid and vectors"), on the floats of `lib.Ieee`: each operation rounds once to an f64, in the order written. Definitions only.
use Rattle.std.specs.Prelude.{true, false, cond, ℕ, ◌-◌, ◌*◌, ◌/◌, ◌%◌, ◌^◌, ℤ, pos, negsuc, neg_ℤ, Float}
use Rattle.std.specs.Float.{nan, inf, fin, binary64}
use Rattle.std.specs.Float.Ieee.{up, down, add, sub, mul, div, le, of_int, of_bits, is_nan}
use Rattle.std.specs.Float.Ieee.Nearest.{closest}
use Rattle.vectors.specs.Constants.{whole, less}
use Rattle.vectors.specs.ExpTable.{mantissa_of}

-- "the whole number nearest .., ties to even": `closest a b` is the one nearest to a/b, and `fin s m e`, which is ± m × 2^e, is ± (m × up e)/(down e).
-- 0 where the float is no number
unfoldable pub nearest_whole : Float → ℤ
nearest_whole nan = pos 0
nearest_whole (inf s) = pos 0
nearest_whole (fin false m e) = pos (closest (m * up e) (down e))
nearest_whole (fin true m e) = neg_ℤ (pos (closest (m * up e) (down e)))

-- "j is N modulo 256, 0 to 255"; `negsuc n` is -(n + 1)
abbrev pub remainder256 : ℤ → ℕ
remainder256 (pos n) = n % 256
remainder256 (negsuc n) = 255 - n % 256

-- "k = (N - j)/256"
abbrev pub quotient256 : ℤ → ℤ
quotient256 (pos n) = pos (n / 256)
quotient256 (negsuc n) = negsuc (n / 256)

-- "Bits in hexadecimal: a 3FF71547652B82FE, b 3FE62E42FEE00000, c 3DEA39EF35793C76"
abbrev pub constant_a : Float
constant_a = of_bits binary64 0x3FF71547652B82FE

abbrev pub constant_b : Float
constant_b = of_bits binary64 0x3FE62E42FEE00000

abbrev pub constant_c : Float
constant_c = of_bits binary64 0x3DEA39EF35793C76

-- "N .. is the whole number nearest x × (256 × a)"
unfoldable pub multiple_of : Float → ℤ
unfolding nearest_whole
multiple_of x = nearest_whole (mul binary64 x (mul binary64 (whole 256) constant_a))

-- "r = (x - N × (b/256)) - N × (c/256)", N given as a float
unfoldable pub reduced_argument : Float → Float → Float
reduced_argument x n =
    sub binary64
    (sub binary64 x (mul binary64 n (div binary64 constant_b (whole 256))))
    (mul binary64 n (div binary64 constant_c (whole 256)))

-- "p = 1 + r(1 + r(1/2 + r(1/6 + r × (1/24)))), innermost first"
unfoldable pub series : Float → Float
series r =
    add binary64 (whole 1) (mul binary64 r
    (add binary64 (whole 1) (mul binary64 r
    (add binary64 (div binary64 (whole 1) (whole 2)) (mul binary64 r
    (add binary64 (div binary64 (whole 1) (whole 6)) (mul binary64 r
    (div binary64 (whole 1) (whole 24)))))))))

-- "T_j is m/2^52", which this division does not round (`fraction_exact` in ExpLaws)
unfoldable pub fraction_of : ℕ → Float
unfolding mantissa_of
fraction_of j = div binary64 (whole (mantissa_of j)) (whole (2 ^ 52))

-- "(T_j × p) × 2^k": `fin false 1 k` is 2^k
unfoldable pub scaled_series : Float → ℤ → Float
unfolding fraction_of reduced_argument series
scaled_series x n = mul binary64 (mul binary64 (fraction_of (remainder256 n)) (series (reduced_argument x (of_int binary64 n)))) (fin false 1 (quotient256 n))

-- "NaN gives NaN; x >= 709 gives +infinity; x <= -708 gives +0. Else .."
unfoldable pub exp_of : Float → Float
unfolding scaled_series multiple_of
exp_of x =
    cond (is_nan x) nan
    (cond (le (whole 709) x) (inf false)
    (cond (le x (of_int binary64 (less 708))) (fin false 0 (pos 0))
    (scaled_series x (multiple_of x))))
