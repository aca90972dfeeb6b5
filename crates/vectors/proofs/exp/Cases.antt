-- What `exp_of` is where each of the code's tests holds, and, between the limits, what it is of the code's values.
use mathlib.Core.Path.{◌≡◌, refl, sym, ap, ◌∙◌, subst}
use mathlib.Core.Bool.{Bool, true, false, not, cond, false≢true}
use Prim.Native.Nat.{ℕ, ◌+◌, ◌-◌, ◌*◌, ◌/◌, ◌%◌, ◌^◌}
use native.Mathlib.Omega.{arith}
use lib.Dec.{T}
use lib.IntN.{pos}
use lib.Ieee.{Float, nan, inf, fin, binary64, le, is_nan, add, sub, mul, of_int, of_bits, minus, to_bits}
use Rattle.vectors.specs.Exp.{exp_of, scaled_series, nearest_whole, multiple_of, fraction_of, series, reduced_argument, remainder256, quotient256}
use Rattle.vectors.proofs.Floats.{whole_value, value_no_nan, whole_bits}
use Rattle.vectors.proofs.exp.Binade.{shift_below}
use Rattle.vectors.proofs.exp.Shift.{shift, Shifted}
use Rattle.vectors.proofs.exp.Range.{scale}

over_not_nan : (x : Float) → le (fin false 709 (pos 0)) x ≡ true → is_nan x ≡ false
unfolding le is_nan
over_not_nan nan n = absurd (false≢true n)
over_not_nan (inf s) n = refl
over_not_nan (fin s m e) n = refl

abbrev cases : Bool → Bool → Bool → Float → Float
cases a b c y = cond a nan (cond b (inf false) (cond c (fin false 0 (pos 0)) y))

-- `exp_of`, with 709, -708 and 256 × a as the code has them
exp_is : (x : Float) → exp_of x ≡ cases (is_nan x) (le (fin false 709 (pos 0)) x) (le x (fin true 177 (pos 2))) (scaled_series x (nearest_whole (mul binary64 x scale)))
unfolding exp_of multiple_of of_int of_bits mul
exp_is x = refl

pub exp_nan : (x : Float) → is_nan x ≡ true → x ≡ exp_of x
unfolding exp_of is_nan
exp_nan nan n = refl
exp_nan (inf s) n = absurd (false≢true n)
exp_nan (fin s m e) n = absurd (false≢true n)

pub exp_over : (x : Float) → le (fin false 709 (pos 0)) x ≡ true → inf false ≡ exp_of x
exp_over x a = sym (exp_is x ∙ cc (over_not_nan x a, a))

module _ (x : Float) (n : is_nan x ≡ false) (a : le (fin false 709 (pos 0)) x ≡ false) where
  pub exp_under : le x (fin true 177 (pos 2)) ≡ true → fin false 0 (pos 0) ≡ exp_of x
  exp_under b = sym (exp_is x ∙ cc (n, a, b))

  pub exp_between : le x (fin true 177 (pos 2)) ≡ false → exp_of x ≡ scaled_series x (nearest_whole (mul binary64 x scale))
  exp_between b = exp_is x ∙ cc (n, a, b)

-- ---- between the limits: the bits of the sum, and the result from its parts
-- the code's SHIFT_BELOW
abbrev shift_bits : ℕ
shift_bits = 0x4337FFFFFFFC0000

module _ (y : Float) (S : Shifted y) where
  pub sum_no_nan : T (not (is_nan (add binary64 y shift)))
  sum_no_nan =
      let n = shift_below + S.i in
      let b = S.below in
      subst (λ (z : Float). T (not (is_nan z))) (sym S.sum_is) (value_no_nan (of_int binary64 (pos n)) false n 1 (whole_value n (omega arith)))

  pub bits_is : to_bits binary64 (add binary64 y shift) ≡ shift_bits + S.i
  bits_is =
      let n = shift_below + S.i in
      let b = S.below in
      let e : 1074 * 2 ^ 52 + n ≡ shift_bits + S.i = omega arith in
      ap (to_bits binary64) S.sum_is ∙ whole_bits n (omega arith) (omega arith) ∙ e

  pub offset_is : to_bits binary64 (add binary64 y shift) - shift_bits ≡ S.i
  offset_is = let e = bits_is in omega arith

  -- t and u are what `fraction` and `power_of_two` return
  pub result_is : (x t u : Float) (i : ℕ) → i ≡ S.i → t ≡ fraction_of (i % 256) → u ≡ fin false 1 (minus (i / 256) 1024)
      → mul binary64 (mul binary64 t (series (reduced_argument x (sub binary64 (add binary64 y shift) shift)))) u ≡ scaled_series x (nearest_whole y)
  unfolding scaled_series
  result_is x t u i e p q =
      let f : t ≡ fraction_of (remainder256 (nearest_whole y)) = p ∙ ap fraction_of (ap (λ (z : ℕ). z % 256) e ∙ S.remainder_is) in
      let g : u ≡ fin false 1 (quotient256 (nearest_whole y)) = q ∙ ap (fin false 1) (ap (λ (z : ℕ). minus (z / 256) 1024) e ∙ S.quotient_is) in
      let h = S.whole_is in
      cc
