-- A fraction from 2^52 on and below 2^53 is rounded to a whole number, so 3 × 2^51 plus or less a fraction of no great size is rounded as its nearest whole number is.
use mathlib.Core.Path.{◌≡◌, sym, ap, ◌∙◌}
use mathlib.Core.Bool.{Bool, false}
use Prim.Native.Nat.{ℕ, ◌+◌, ◌-◌, ◌*◌, ◌/◌, ◌%◌, ◌^◌, ◌≤◌, ◌<◌}
use native.Mathlib.Nat.{zero-lt-suc, mul_assoc, mul_comm, mul_right_comm, add-mul, mul-pos, mul-le-mul_right, mul-lt-mul_of_pos_right, le_trans, le_of_eq, lt_of_lt_of_le, lt_of_not-le, not-le_of_lt, le-div_iff_mul-le, div-lt_iff_lt-mul}
use native.Mathlib.Omega.{arith}
use lib.Pow.{pow_pos, pow_mono}
use lib.Ieee.{binary64, size, units, round}
use lib.Ieee.Digits.{size-lt, size-le}
use lib.Ieee.Fits.{round_is, core}
use lib.Ieee.Nearest.{closest, closest_same}
use Rattle.vectors.specs.ExpLaws.{Nearest, closest_is, nearest_unique}

-- the code's SHIFT, and 2^18 less
abbrev pub shift_by : ℕ
shift_by = 3 * 2 ^ 51

abbrev pub shift_below : ℕ
shift_below = 3 * 2 ^ 51 - 2 ^ 18

-- ---- a fraction from 2^52 on and below 2^53 is rounded to a whole number
size_gt : (n j : ℕ) → 2 ^ j ≤ n → j < size n
size_gt n j h = lt_of_not-le (λ (g : size n ≤ j). not-le_of_lt (lt_of_lt_of_le (size-lt n) (pow_mono g)) h)

seventy_four : (z : ℕ) → z ≤ 1127 → 1126 < z → z - 53 ≡ 1074
seventy_four z h k = omega arith

binade : (s : Bool) (n d : ℕ) → 0 < d → 2 ^ 52 * d ≤ n → n < 2 ^ 53 * d → round binary64 s n d ≡ units binary64 s (closest n d) 1074
binade s n d D lo hi =
    let l = 2 ^ 1074 in
    let a : 2 ^ 1126 * d ≤ n * l = le_trans (le_of_eq (sym (mul_right_comm (2 ^ 52) d l))) (mul-le-mul_right l lo) in
    let b : n * l < 2 ^ 1127 * d = lt_of_lt_of_le (mul-lt-mul_of_pos_right hi (pow_pos 1074)) (le_of_eq (mul_right_comm (2 ^ 53) d l)) in
    let k : size (n * l / d) - 53 ≡ 1074 =
    seventy_four (size (n * l / d)) (size-le (n * l / d) 1127 ((div-lt_iff_lt-mul D).1 b)) (size_gt (n * l / d) 1126 ((le-div_iff_mul-le D).1 a)) in
    round_is binary64 s n d
    ∙ ap (λ (z : ℕ). core binary64 s (n * l) d z) k
    ∙ ap (λ (z : ℕ). units binary64 s z 1074) (closest_same (n * l) (d * l) n d (mul-pos D (pow_pos 1074)) D (mul_assoc n l d ∙ ap (λ (z : ℕ). n * z) (mul_comm l d)))

closest_one : (n : ℕ) → closest n 1 ≡ n
closest_one n = nearest_unique n 1 (closest n 1) n (zero-lt-suc 0) (closest_is n 1 (zero-lt-suc 0))
    (record { not_above = omega arith; not_below = omega arith; even_above = λ h. absurd (omega arith); even_below = λ h. absurd (omega arith) })

-- the fraction n / d rounds as its nearest whole number q does
to_whole : (n d q : ℕ) → 0 < d → 2 ^ 52 * d ≤ n → n < 2 ^ 53 * d → 2 ^ 52 ≤ q → q < 2 ^ 53 → Nearest n d q → round binary64 false n d ≡ round binary64 false q 1
to_whole n d q D lo hi lo' hi' N =
    binade false n d D lo hi
    ∙ ap (λ (z : ℕ). units binary64 false z 1074) (nearest_unique n d (closest n d) q D (closest_is n d D) N ∙ sym (closest_one q))
    ∙ sym (binade false q 1 (zero-lt-suc 0) (omega arith) (omega arith))

-- ---- 3 × 2^51 plus and less a fraction a / d
module _ (a d : ℕ) (D : 0 < d) (small : closest a d ≤ 1048576) where
  k_fact : Nearest a d (closest a d)
  k_fact = closest_is a d D

  room : closest a d * d ≤ 1048576 * d
  room = mul-le-mul_right d small

  pub plus : round binary64 false (a + shift_by * d) d ≡ round binary64 false (shift_by + closest a d) 1
  plus =
      let k = closest a d in
      let N = k_fact in
      let r = room in
      let n1 = N.not_above in
      let n2 = N.not_below in
      let e : (shift_by + k) * d ≡ shift_by * d + k * d = add-mul shift_by k d in
      to_whole (a + shift_by * d) d (shift_by + k) D (omega arith) (omega arith) (omega arith) (omega arith)
      (record {
        not_above = omega arith;
        not_below = omega arith;
        even_above = λ h. let z : k % 2 ≡ 0 = N.even_above (omega arith) in omega arith;
        even_below = λ h. let z : k % 2 ≡ 0 = N.even_below (omega arith) in omega arith;
      })

  pub less : round binary64 false (shift_by * d - a) d ≡ round binary64 false (shift_by - closest a d) 1
  less =
      let k = closest a d in
      let N = k_fact in
      let r = room in
      let n1 = N.not_above in
      let n2 = N.not_below in
      let p = shift_by - k in
      let f : p + k ≡ shift_by = omega arith in
      let e : p * d + k * d ≡ shift_by * d = sym (add-mul p k d) ∙ ap (λ (z : ℕ). z * d) f in
      to_whole (shift_by * d - a) d p D (omega arith) (omega arith) (omega arith) (omega arith)
      (record {
        not_above = omega arith;
        not_below = omega arith;
        even_above = λ h. let z : k % 2 ≡ 0 = N.even_below (omega arith) in omega arith;
        even_below = λ h. let z : k % 2 ≡ 0 = N.even_above (omega arith) in omega arith;
      })

  pub fewer : a < shift_by * d
  fewer =
      let N = k_fact in
      let r = room in
      let n1 = N.not_above in
      let n2 = N.not_below in
      omega arith
