-- Laws of `integral_of`: its values one after another, as a loop computes them.
use Rattle.std.specs.Prelude.{◌≡◌, ℕ, suc, ◌-◌, ◌%◌, ◌≤◌, cond, List, length, ◌==◌, Float}
use Rattle.std.proofs.Math.Path.{refl}
use Rattle.std.proofs.Common.{arith, eq-eqb, ne_eqb}
use Rattle.std.specs.Float.{binary64}
use Rattle.std.specs.Float.Ieee.{add, of_int, of_bits}
use Rattle.vectors.specs.Memory.{tab}
use Rattle.vectors.specs.MemoryLaws.{length_tab}
use Rattle.physics.specs.Integral.{quadratic_over, simpson_over, eighths_over, integral_at, integral_of}

module _ (h : Float) (v : List Float) where
  pub integral_zero : of_bits binary64 0 ≡ integral_at h v 0
  unfolding integral_at of_bits of_int
  integral_zero = refl

  pub integral_one : quadratic_over h v ≡ integral_at h v 1
  unfolding integral_at
  integral_one = refl

  pub integral_two : simpson_over h v 2 ≡ integral_at h v 2
  unfolding integral_at
  integral_two = refl

  integral_next_lem : (k : ℕ) → let i = suc (suc (suc k)) in
      cond (i % 2 == 0) (add binary64 (integral_at h v (suc k)) (simpson_over h v i)) (add binary64 (integral_at h v k) (eighths_over h v i)) ≡ integral_at h v i
  unfolding integral_at
  integral_next_lem k = refl

  pub integral_by : (i : ℕ) → 3 ≤ i
      → cond (i % 2 == 0) (add binary64 (integral_at h v (i - 2)) (simpson_over h v i)) (add binary64 (integral_at h v (i - 3)) (eighths_over h v i)) ≡ integral_at h v i
  integral_by i l =
      let e : suc (suc (suc (i - 3))) ≡ i = omega arith in
      let e' : suc (i - 3) ≡ i - 2 = omega arith in
      rw (e, e') at (integral_next_lem (i - 3))

  pub integral_odd : (i : ℕ) → 3 ≤ i → i % 2 ≡ 1 → add binary64 (integral_at h v (i - 3)) (eighths_over h v i) ≡ integral_at h v i
  integral_odd i l e = rw (ne_eqb (i % 2) 0 (λ q. omega arith)) at (integral_by i l)

  pub integral_even : (i : ℕ) → 3 ≤ i → i % 2 ≡ 0 → add binary64 (integral_at h v (i - 2)) (simpson_over h v i) ≡ integral_at h v i
  integral_even i l e = rw (eq-eqb (i % 2) 0 e) at (integral_by i l)

  pub length-integral_of : length (integral_of h v) ≡ length v
  unfolding integral_of
  length-integral_of = length_tab (length v) (integral_at h v)

  pub integral_tab : (n : ℕ) → length v ≡ n → tab n (integral_at h v) ≡ integral_of h v
  unfolding integral_of
  integral_tab n l = rw l
