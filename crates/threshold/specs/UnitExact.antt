-- 02, request 1: "two ends as whole numbers of units 2^-40, up to 2^42": the amplitudes of such ends are these numbers, with nothing rounded.
use Rattle.std.specs.Prelude.{◌≡◌, ℕ, ◌+◌, ◌*◌, ◌^◌, ◌<◌, ◌≤◌, true, false, negsuc, Float}
use Rattle.std.proofs.Common.{true≢false, sym, ap, ◌∙◌, subst, mul-one, mul_assoc, mul-pos, lt_of_lt_of_le, arith, lit<, lit≤, pow_mono, shl_lt}
use Rattle.std.specs.Float.{nan, inf, fin, binary64}
use Rattle.std.specs.Float.Ieee.{up, down, mul}
use Rattle.std.specs.Float.Ieee.Exact.{HasValue, round_exact}
use Rattle.std.specs.Float.Ieee.Fits.{down_pos}
use Rattle.std.specs.Float.Ieee.Scale.{round_same}
use Rattle.vectors.proofs.Floats.{whole_value}
use Rattle.vectors.specs.Constants.{whole}
use Rattle.threshold.specs.Search.{unit40, amplitude_at}

exact_by : (x : Float) (u : ℕ) → u ≤ 2 ^ 42 → HasValue x false u 1 → HasValue (mul binary64 x (fin false 1 (negsuc 39))) false u (2 ^ 40)
unfolding mul
exact_by nan u h v = v
exact_by (inf t) u h v = absurd v
exact_by (fin true m e) u h v = absurd (true≢false v.0)
exact_by (fin false m e) u h v =
    let D : 0 < down e * 2 ^ 40 = mul-pos (down_pos e) (lit< tt) in
    let value : m * up e ≡ u * down e = sym (mul-one (m * up e)) ∙ v.1 in
    let same : m * up e * (1 * 1) * 2 ^ 40 ≡ u * (down e * 2 ^ 40) =
    ap (λ (n : ℕ). n * 2 ^ 40) (mul-one (m * up e) ∙ value) ∙ mul_assoc u (down e) (2 ^ 40) in
    let small : u < 2 ^ 53 = omega arith in
    let big : u * 2 ^ 1034 < 2 ^ (1074 + 1024) = lt_of_lt_of_le (shl_lt 53 1034 small) (pow_mono {i = 53 + 1034} {j = 1074 + 1024} (lit≤ tt)) in
    let scaled : u * 2 ^ 1074 ≡ u * 2 ^ 1034 * 2 ^ 40 = sym (mul_assoc u (2 ^ 1034) (2 ^ 40)) in
    subst (λ (y : Float). HasValue y false u (2 ^ 40))
    (sym (round_same binary64 false (m * up e * (1 * 1)) (down e * 2 ^ 40) u (2 ^ 40) D (lit< tt) same))
    (round_exact binary64 false u (2 ^ 40) u 1034 (lit< tt) small big scaled)

-- for every end that may be asked for, the amplitude is so many units of 2^-40 with nothing rounded
pub unit_exact : (u : ℕ) → u ≤ 2 ^ 42 → HasValue (amplitude_at unit40 u) false u (2 ^ 40)
unit_exact u h = exact_by (whole u) u h (whole_value u (omega arith))
