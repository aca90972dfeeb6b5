-- What the definitions of `Exp` mean: N is the whole number nearest, ties to even, and the only one; N = 256 k + j with j from 0 to 255; T_j is m/2^52 exactly.
use Rattle.std.specs.Prelude.{◌≡◌, refl, ◌⊎◌, Bool, true, false, not, cond, T, eqb, ℤ, pos, negsuc, neg_ℤ, nat_abs, ◌+ℤ◌, ◌*ℤ◌, Float}
use Rattle.std.proofs.Common.{sym, ap, ◌∙◌, subst, inl, inr, true≢false, div-add-mod', mod-lt, add-mul, mul-le-mul_right, one-mul, mul_assoc, mul-pos, mul-lt-mul_of_pos_right, le_trans, lt_of_lt_of_le, lt_of_not-le, not-le_of_lt, arith, leb→le, eqb→eq, pow_mono, pow_pos}
use Prim.Native.Nat.{ℕ, zero, suc, ◌+◌, ◌-◌, ◌*◌, ◌/◌, ◌%◌, ◌^◌, ◌≤◌, ◌<◌, compare, Ordering}
use Rattle.std.proofs.Math.Nat.{pow-le-pow_left}
use Rattle.std.proofs.Math.Arith.{lt_of_le-ne}
use Rattle.std.proofs.Math.Dec.{is_le, compare_is_eq, nleb→lt, eqb_refl}
use Rattle.std.proofs.Math.IntN.{neg_ℤ-+ℤ, -ℤ-+ℤ_cancel}
use Rattle.std.proofs.Math.Pow.{pow-lt}
use Rattle.std.specs.Float.{nan, inf, fin, binary64}
use Rattle.std.specs.Float.Ieee.{up, down, nearest, round, div, of_int}
use Rattle.std.specs.Float.Ieee.Back.{round_whole}
use Rattle.std.specs.Float.Ieee.Exact.{HasValue, round_exact}
use Rattle.std.specs.Float.Ieee.Fits.{down_pos}
use Rattle.std.specs.Float.Ieee.Nearest.{closest}
use Rattle.std.specs.Float.Ieee.Scale.{round_same}
use Rattle.vectors.specs.ExpTable.{mantissa_of, mantissa_largest}
use Rattle.vectors.specs.Exp.{nearest_whole, remainder256, quotient256, fraction_of}

-- ---- N
-- n is within a half of a / b, and even where it is a half away
pub record Nearest (a b n : ℕ) : Type 0 where
  pub not_above : 2 * (n * b) ≤ 2 * a + b
  pub not_below : 2 * a ≤ 2 * (n * b) + b
  pub even_above : 2 * (n * b) ≡ 2 * a + b → n % 2 ≡ 0
  pub even_below : 2 * a ≡ 2 * (n * b) + b → n % 2 ≡ 0

abbrev Cmp : Ordering → ℕ → ℕ → Type 0
Cmp Ordering.lt a b = a < b
Cmp Ordering.eq a b = a ≡ b
Cmp Ordering.gt a b = b < a

cmp : (a b : ℕ) → Cmp (compare a b) a b
cmp a b = go (compare a b) (leb→le a b) (nleb→lt a b) (eqb→eq a b) (λ (e : a ≡ b). subst (λ (x : ℕ). T (eqb a x)) e (eqb_refl a))
  where
    go : (o : Ordering) → (T (is_le o) → a ≤ b) → (T (not (is_le o)) → b < a) → (T (compare_is_eq o) → a ≡ b) → (a ≡ b → T (compare_is_eq o)) → Cmp o a b
    go Ordering.lt h k e n = lt_of_le-ne (h tt) n
    go Ordering.eq h k e n = e tt
    go Ordering.gt h k e n = k tt

parity : (q : ℕ) → (q % 2 ≡ 0) ⊎ (q % 2 ≡ 1)
parity q = go (q % 2) (omega arith)
  where
    go : (r : ℕ) → r < 2 → (r ≡ 0) ⊎ (r ≡ 1)
    go zero h = inl refl
    go (suc zero) h = inr refl
    go (suc (suc r)) h = absurd (omega arith)

by_case : (a b q r : ℕ) (o : Ordering) → q * b + r ≡ a → r < b → Cmp o (r * 2) b → Nearest a b (nearest q o)
by_case a b q r Ordering.lt e l c =
    record { not_above = omega arith; not_below = omega arith; even_above = λ h. absurd (omega arith); even_below = λ h. absurd (omega arith) }
by_case a b q r Ordering.eq e l c = elim (parity q) [
  | inl z ↦
      let m : q + q % 2 ≡ q = omega arith in
      subst (λ (n : ℕ). Nearest a b n) (sym m)
      (record { not_above = omega arith; not_below = omega arith; even_above = λ h. z; even_below = λ h. z })
  | inr z ↦
      let m : q + q % 2 ≡ q + 1 = omega arith in
      let d : (q + 1) * b ≡ q * b + 1 * b = add-mul q 1 b in
      let u : 1 * b ≡ b = one-mul b in
      let w : (q + 1) % 2 ≡ 0 = omega arith in
      subst (λ (n : ℕ). Nearest a b n) (sym m)
      (record { not_above = omega arith; not_below = omega arith; even_above = λ h. w; even_below = λ h. w })
]
by_case a b q r Ordering.gt e l c =
    let m : suc q ≡ q + 1 = omega arith in
    let d : (q + 1) * b ≡ q * b + 1 * b = add-mul q 1 b in
    let u : 1 * b ≡ b = one-mul b in
    subst (λ (n : ℕ). Nearest a b n) (sym m)
    (record { not_above = omega arith; not_below = omega arith; even_above = λ h. absurd (omega arith); even_below = λ h. absurd (omega arith) })

-- `closest a b` is such a number
pub closest_is : (a b : ℕ) → 0 < b → Nearest a b (closest a b)
closest_is a b B = by_case a b (a / b) (a % b) (compare (a % b * 2) b) (div-add-mod' a b) (mod-lt a B) (cmp (a % b * 2) b)

-- and there is only one
not_less : (a b n m : ℕ) → 0 < b → Nearest a b n → Nearest a b m → n < m → ⊥
not_less a b n m B N M h =
    let next : (n + 1) * b ≡ n * b + 1 * b = add-mul n 1 b in
    let unit : 1 * b ≡ b = one-mul b in
    let apart : (n + 1) * b ≤ m * b = mul-le-mul_right b (omega arith) in
    let n_even : n % 2 ≡ 0 = N.even_below (omega (arith, N.not_below, M.not_above)) in
    let m_even : m % 2 ≡ 0 = M.even_above (omega (arith, N.not_below, M.not_above)) in
    let second : (n + 2) * b ≡ n * b + 2 * b = add-mul n 2 b in
    let further : (n + 2) * b ≤ m * b = mul-le-mul_right b (omega arith) in
    omega (arith, N.not_below, M.not_above)

pub nearest_unique : (a b n m : ℕ) → 0 < b → Nearest a b n → Nearest a b m → n ≡ m
nearest_unique a b n m B N M =
    let p : n < m → ⊥ = not_less a b n m B N M in
    let q : m < n → ⊥ = not_less a b m n B M N in
    omega (arith, p, q)

-- ---- `nearest_whole` of ± m × 2^e, which is ± a/b with a = m × up e and b = down e, is that number with the float's sign
nat_abs_neg : (n : ℕ) → nat_abs (neg_ℤ (pos n)) ≡ n
nat_abs_neg zero = refl
nat_abs_neg (suc n) = refl

pub nearest_whole_nearest : (s : Bool) (m : ℕ) (e : ℤ) → Nearest (m * up e) (down e) (nat_abs (nearest_whole (fin s m e)))
unfolding nearest_whole
nearest_whole_nearest false m e = closest_is (m * up e) (down e) (down_pos e)
nearest_whole_nearest true m e = subst (λ (n : ℕ). Nearest (m * up e) (down e) n) (sym (nat_abs_neg (closest (m * up e) (down e)))) (closest_is (m * up e) (down e) (down_pos e))

pub nearest_whole_only : (s : Bool) (m : ℕ) (e : ℤ) (n : ℕ) → Nearest (m * up e) (down e) n → nearest_whole (fin s m e) ≡ cond s (neg_ℤ (pos n)) (pos n)
unfolding nearest_whole
nearest_whole_only false m e n N = ap pos (nearest_unique (m * up e) (down e) (closest (m * up e) (down e)) n (down_pos e) (closest_is (m * up e) (down e) (down_pos e)) N)
nearest_whole_only true m e n N =
    ap (λ (k : ℕ). neg_ℤ (pos k)) (nearest_unique (m * up e) (down e) (closest (m * up e) (down e)) n (down_pos e) (closest_is (m * up e) (down e) (down_pos e)) N)

-- ---- j and k
pub remainder256_below : (n : ℤ) → remainder256 n < 256
remainder256_below (pos n) = omega arith
remainder256_below (negsuc n) = omega arith

pub quotient256_remainder256 : (n : ℤ) → quotient256 n *ℤ pos 256 +ℤ pos (remainder256 n) ≡ n
quotient256_remainder256 (pos n) = ap pos (div-add-mod' n 256)
quotient256_remainder256 (negsuc n) =
    let j = 255 - n % 256 in
    let e : suc (n / 256) * 256 ≡ suc n + j = omega arith in
    ap (λ (m : ℕ). neg_ℤ (pos m) +ℤ pos j) e
    ∙ ap (λ (z : ℤ). z +ℤ pos j) (neg_ℤ-+ℤ (pos (suc n)) (pos j))
    ∙ -ℤ-+ℤ_cancel (negsuc n) (pos j)

-- ---- T_j
-- an entry of the table has 53 binary digits
pub mantissa_least : (j : ℕ) → j < 256 → 2 ^ 52 ≤ mantissa_of j
mantissa_least j h = (mantissa_largest j h).none_larger (2 ^ 52) (pow_mono {i = 52 * 256} (omega arith))

pub mantissa_below : (j : ℕ) → j < 256 → mantissa_of j < 2 ^ 53
mantissa_below j h =
    let under : 2 ^ (j + 52 * 256) < (2 ^ 53) ^ 256 = pow-lt {j = 53 * 256} (omega arith) in
    lt_of_not-le (λ (g : 2 ^ 53 ≤ mantissa_of j). not-le_of_lt under (le_trans (pow-le-pow_left g 256) (mantissa_largest j h).reached))

divided : (x : Float) (m : ℕ) → HasValue x false m 1 → div binary64 x (fin false 1 (pos 52)) ≡ round binary64 false m (2 ^ 52)
unfolding div
divided nan m v = absurd v
divided (inf s) m v = absurd v
divided (fin true n e) m v = absurd (true≢false v.0)
divided (fin false n e) m v =
    let is : n * up e * 1 ≡ m * down e = v.1 in
    round_same binary64 false (n * up e * 1) (2 ^ 52 * down e) m (2 ^ 52) (mul-pos (pow_pos 52) (down_pos e)) (pow_pos 52) (omega arith)

pub fraction_exact : (j : ℕ) → j < 256 → HasValue (fraction_of j) false (mantissa_of j) (2 ^ 52)
unfolding fraction_of of_int
fraction_exact j h =
    let m = mantissa_of j in
    let below = mantissa_below j h in
    subst (λ (x : Float). HasValue x false m (2 ^ 52)) (sym (divided (round binary64 false m 1) m (round_whole binary64 false m (omega arith))))
    (round_exact binary64 false m (2 ^ 52) m 1022 (pow_pos 52) below
    (lt_of_lt_of_le (mul-lt-mul_of_pos_right below (pow_pos 1022)) (pow_mono {i = 1075} {j = 2098} (omega arith))) (sym (mul_assoc m (2 ^ 1022) (2 ^ 52))))
