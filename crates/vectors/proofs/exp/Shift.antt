-- A float y of no great size with 3 × 2^51 added is that number plus N, the whole number nearest to y; with it taken off again it is N. From the sum come N modulo 256 and its quotient.
use mathlib.Core.Path.{◌≡◌, refl, sym, ap, ◌∙◌}
use mathlib.Core.Bool.{Bool, true, false, cond, ◌&&◌, true≢false, false≢true}
use Prim.Native.Nat.{ℕ, zero, suc, ◌+◌, ◌-◌, ◌*◌, ◌/◌, ◌%◌, ◌^◌, ◌≤◌, ◌<◌}
use native.Mathlib.Nat.{mul-one, mul-pos, zero-lt-suc, add-mul, le_of_eq, lt_of_le_of_lt}
use native.Mathlib.Omega.{arith}
use lib.Dec.{ltb}
use lib.IntN.{ℤ, pos, negsuc, neg_ℤ}
use lib.Ieee.{Float, nan, inf, fin, binary64, up, down, minus, round, sum, add, sub, neg, of_int}
use lib.Ieee.Exact.{HasValue}
use lib.Ieee.Fits.{down_pos}
use lib.Ieee.Nearest.{closest}
use lib.Ieee.Scale.{round_same}
use borrow.Author.Tests.{lt-ltb, le-ltb, le-leb, lt-leb}
use Rattle.vectors.specs.Exp.{nearest_whole, remainder256, quotient256}
use Rattle.vectors.proofs.Floats.{whole_value}
use Rattle.vectors.proofs.exp.Binade.{shift_by, shift_below, plus, less, fewer}

-- SHIFT as a float
abbrev pub shift : Float
shift = fin false 3 (pos 51)

-- y is finite, has the sign s, and its nearest whole number is at most k in size
abbrev pub Small : Bool → ℕ → Float → Type 0
Small s k nan = ⊥
Small s k (inf t) = ⊥
Small s k (fin t m e) = (t ≡ s) × (closest (m * up e) (down e) ≤ k)

add_plus : (m : ℕ) (e : ℤ) → closest (m * up e) (down e) ≤ 1048576
    → add binary64 (fin false m e) shift ≡ round binary64 false (shift_by + closest (m * up e) (down e)) 1
unfolding add sum
add_plus m e h =
    ap (λ (z : ℕ). round binary64 false (z + shift_by * down e) (down e * 1)) (mul-one (m * up e))
    ∙ ap (λ (z : ℕ). round binary64 false (m * up e + shift_by * down e) z) (mul-one (down e))
    ∙ plus (m * up e) (down e) (down_pos e) h

add_less : (m : ℕ) (e : ℤ) → closest (m * up e) (down e) ≤ 1048576
    → add binary64 (fin true m e) shift ≡ round binary64 false (shift_by - closest (m * up e) (down e)) 1
unfolding add sum
add_less m e h =
    ap (λ (t : Bool). cond t (round binary64 false (shift_by * down e - m * up e * 1) (down e * 1)) (round binary64 (true && ltb (shift_by * down e) (m * up e * 1)) (m * up e * 1 - shift_by * down e) (down e * 1)))
    (lt-ltb (m * up e * 1) (shift_by * down e) (lt_of_le_of_lt (le_of_eq (mul-one (m * up e))) (fewer (m * up e) (down e) (down_pos e) h)))
    ∙ ap (λ (z : ℕ). round binary64 false (shift_by * down e - z) (down e * 1)) (mul-one (m * up e))
    ∙ ap (λ (z : ℕ). round binary64 false (shift_by * down e - m * up e) z) (mul-one (down e))
    ∙ less (m * up e) (down e) (down_pos e) h

-- a float that is the whole number q, less 3 × 2^51
sub_up : (x : Float) (q : ℕ) → HasValue x false q 1 → shift_by ≤ q → sub binary64 x shift ≡ round binary64 false (q - shift_by) 1
unfolding sub add sum neg
sub_up nan q v h = absurd v
sub_up (inf s) q v h = absurd v
sub_up (fin true m e) q v h = absurd (true≢false v.0)
sub_up (fin false m e) q v h =
    let d = down e in
    let a = m * up e * 1 in
    let b = shift_by * d in
    let va : a ≡ q * d = v.1 in
    let g = q - shift_by in
    let f : g + shift_by ≡ q = omega arith in
    let x : g * d + b ≡ q * d = sym (add-mul g shift_by d) ∙ ap (λ (z : ℕ). z * d) f in
    let y : g * (d * 1) ≡ g * d = ap (λ (z : ℕ). g * z) (mul-one d) in
    let ge : b ≤ a = omega arith in
    ap (λ (t : Bool). cond t (round binary64 true (b - a) (d * 1)) (round binary64 false (a - b) (d * 1))) (le-ltb a b ge)
    ∙ round_same binary64 false (a - b) (d * 1) g 1 (mul-pos (down_pos e) (zero-lt-suc 0)) (zero-lt-suc 0) (omega arith)

sub_down : (x : Float) (q : ℕ) → HasValue x false q 1 → q < shift_by → sub binary64 x shift ≡ round binary64 true (shift_by - q) 1
unfolding sub add sum neg
sub_down nan q v h = absurd v
sub_down (inf s) q v h = absurd v
sub_down (fin true m e) q v h = absurd (true≢false v.0)
sub_down (fin false m e) q v h =
    let d = down e in
    let a = m * up e * 1 in
    let b = shift_by * d in
    let va : a ≡ q * d = v.1 in
    let g = shift_by - q in
    let f : g + q ≡ shift_by = omega arith in
    let x : g * d + q * d ≡ b = sym (add-mul g q d) ∙ ap (λ (z : ℕ). z * d) f in
    let y : g * (d * 1) ≡ g * d = ap (λ (z : ℕ). g * z) (mul-one d) in
    let p : 0 < g * d = mul-pos (omega arith) (down_pos e) in
    ap (λ (t : Bool). cond t (round binary64 true (b - a) (d * 1)) (round binary64 false (a - b) (d * 1))) (lt-ltb a b (omega arith))
    ∙ round_same binary64 true (b - a) (d * 1) g 1 (mul-pos (down_pos e) (zero-lt-suc 0)) (zero-lt-suc 0) (omega arith)

-- ---- what the code makes of y, by what the definitions make of it: i is N + 2^18
pub record Shifted (y : Float) : Type 0 where
  pub i : ℕ
  pub enough : 512 ≤ i
  pub below : i < 524032
  pub sum_is : add binary64 y shift ≡ of_int binary64 (pos (shift_below + i))
  pub whole_is : sub binary64 (add binary64 y shift) shift ≡ of_int binary64 (nearest_whole y)
  pub remainder_is : i % 256 ≡ remainder256 (nearest_whole y)
  pub quotient_is : minus (i / 256) 1024 ≡ quotient256 (nearest_whole y)

round_value : (q : ℕ) → q ≤ 2 ^ 53 → HasValue (round binary64 false q 1) false q 1
unfolding of_int
round_value q h = whole_value q h

shifted_plus : (m : ℕ) (e : ℤ) → closest (m * up e) (down e) ≤ 261855 → Shifted (fin false m e)
unfolding nearest_whole of_int
shifted_plus m e h =
    let k = closest (m * up e) (down e) in
    let q = shift_by + k in
    let s : add binary64 (fin false m e) shift ≡ round binary64 false q 1 = add_plus m e (omega arith) in
    let hd : (262144 + k) / 256 - 1024 ≡ k / 256 = omega arith in
    let hi : minus ((262144 + k) / 256) 1024 ≡ pos (k / 256) = simp (le-leb 1024 ((262144 + k) / 256) (omega arith), hd) in
    let si : q ≡ shift_below + (262144 + k) = omega arith in
    let wi : q - shift_by ≡ k = omega arith in
    record {
      i = 262144 + k;
      enough = omega arith;
      below = omega arith;
      sum_is = s ∙ ap (λ (z : ℕ). round binary64 false z 1) si;
      whole_is = ap (λ (z : Float). sub binary64 z shift) s
          ∙ sub_up (round binary64 false q 1) q (round_value q (omega arith)) (omega arith)
          ∙ ap (λ (z : ℕ). round binary64 false z 1) wi;
      remainder_is = omega arith;
      quotient_is = hi;
    }

-- the same below zero, with the nearest whole number a variable
shifted_at : (y : Float) (k : ℕ) → k ≤ 261486 → nearest_whole y ≡ neg_ℤ (pos k) → add binary64 y shift ≡ round binary64 false (shift_by - k) 1 → Shifted y
unfolding of_int
shifted_at y zero h n s =
    let w : sub binary64 (add binary64 y shift) shift ≡ round binary64 false 0 1 =
    ap (λ (z : Float). sub binary64 z shift) s ∙ sub_up (round binary64 false shift_by 1) shift_by (round_value shift_by (omega arith)) (omega arith) in
    record {
      i = 262144;
      enough = omega arith;
      below = omega arith;
      sum_is = s;
      whole_is = w ∙ ap (of_int binary64) (sym n);
      remainder_is = ap remainder256 (sym n);
      quotient_is = ap quotient256 (sym n);
    }
shifted_at y (suc k) h n s =
    let q = shift_by - suc k in
    let i' = 262144 - suc k in
    let hd : 1024 - suc (i' / 256) ≡ k / 256 = omega arith in
    let hi : minus (i' / 256) 1024 ≡ negsuc (k / 256) = simp (lt-leb 1024 (i' / 256) (omega arith), hd) in
    let si : q ≡ shift_below + i' = omega arith in
    let wi : shift_by - q ≡ suc k = omega arith in
    let lo : i' % 256 ≡ 255 - k % 256 = omega arith in
    let w : sub binary64 (add binary64 y shift) shift ≡ round binary64 true (suc k) 1 =
    ap (λ (z : Float). sub binary64 z shift) s ∙ sub_down (round binary64 false q 1) q (round_value q (omega arith)) (omega arith) ∙ ap (λ (z : ℕ). round binary64 true z 1) wi in
    record {
      i = i';
      enough = omega arith;
      below = omega arith;
      sum_is = s ∙ ap (λ (z : ℕ). round binary64 false z 1) si;
      whole_is = w ∙ ap (of_int binary64) (sym n);
      remainder_is = lo ∙ ap remainder256 (sym n);
      quotient_is = hi ∙ ap quotient256 (sym n);
    }

shifted_less : (m : ℕ) (e : ℤ) → closest (m * up e) (down e) ≤ 261486 → Shifted (fin true m e)
unfolding nearest_whole
shifted_less m e h = shifted_at (fin true m e) (closest (m * up e) (down e)) h refl (add_less m e (omega arith))

pub plus_shifted : (y : Float) → Small false 261855 y → Shifted y
plus_shifted nan s = absurd s
plus_shifted (inf t) s = absurd s
plus_shifted (fin true m e) s = absurd (true≢false s.0)
plus_shifted (fin false m e) s = shifted_plus m e s.1

pub less_shifted : (y : Float) → Small true 261486 y → Shifted y
less_shifted nan s = absurd s
less_shifted (inf t) s = absurd s
less_shifted (fin false m e) s = absurd (false≢true s.0)
less_shifted (fin true m e) s = shifted_less m e s.1
