-- Every entry of `integral_at` is a rule of Quadrature, of which `quadrature_exact` speaks, added to the entry where the rule begins.
use Rattle.std.specs.Prelude.{◌≡◌, ℕ, suc, ◌-◌, ◌%◌, ◌≤◌, Bool, true, false, cond, List, ◌==◌, Float}
use Rattle.std.proofs.Math.Path.{refl, sym, ap}
use Rattle.std.proofs.Common.{◌∙◌}
use native.Mathlib.Omega.{arith}
use Rattle.std.specs.Float.Ieee.{binary64, add, sub, mul, div}
use Rattle.vectors.specs.Constants.{whole}
use Rattle.vectors.specs.Stencil.{total}
use Rattle.physics.specs.Integral.{simpson_over, eighths_over, integral_at}
use Rattle.physics.specs.IntegralLaws.{integral_by}
use Rattle.physics.specs.Quadrature.{Quadrature, entry1_weights, simpson_weights, eighths_weights, entry1_rule, simpson_rule, eighths_rule}
use Rattle.physics.specs.Vector.{at}
use Rattle.physics.specs.WeighedSum.{multiple, weighed_from, weighed_sum}

-- a rule from point k on, from its weights, factor and divisor alone: ((factor × h) / divisor) × (weight 0 × value k + weight 1 × value k + 1 + ..)
unfoldable pub rule_from : Quadrature → Float → List Float → ℕ → Float
unfolding weighed_sum
rule_from rule h v k =
    mul binary64 (div binary64 (multiple rule.factor h) (whole rule.divisor)) (weighed_sum k rule.weights (at v))

-- the rule that ends at an entry from 3 on: Simpson's 1/3 rule where the entry is even, his 3/8 rule where it is odd
abbrev pub rule_at : ℕ → Quadrature
rule_at i = cond (i % 2 == 0) simpson_rule eighths_rule

module _ (h : Float) (v : List Float) where
  pub entry_0 : integral_at h v 0 ≡ whole 0
  unfolding integral_at
  entry_0 = refl

  -- entries 1 and 2, where the spans of their rules end, are those rules from point 0 on
  pub entry_1 : integral_at h v entry1_rule.span ≡ rule_from entry1_rule h v 0
  unfolding integral_at rule_from weighed_sum weighed_from total sub entry1_rule entry1_weights
  entry_1 = refl

  pub entry_2 : integral_at h v simpson_rule.span ≡ rule_from simpson_rule h v 0
  unfolding integral_at rule_from weighed_sum weighed_from total simpson_rule simpson_weights
  entry_2 = refl

  simpson_from : (i : ℕ) → 2 ≤ i → simpson_over h v i ≡ rule_from simpson_rule h v (i - 2)
  unfolding rule_from weighed_sum weighed_from total simpson_rule simpson_weights
  simpson_from i l =
      let p : suc (i - 2) ≡ i - 1 = omega arith in
      let q : suc (suc (i - 2)) ≡ i = omega arith in
      rw (q, p)

  eighths_from : (i : ℕ) → 3 ≤ i → eighths_over h v i ≡ rule_from eighths_rule h v (i - 3)
  unfolding rule_from weighed_sum weighed_from total eighths_rule eighths_weights
  eighths_from i l =
      let p : suc (i - 3) ≡ i - 2 = omega arith in
      let q : suc (suc (i - 3)) ≡ i - 1 = omega arith in
      let r : suc (suc (suc (i - 3))) ≡ i = omega arith in
      rw (r, q, p)

  -- from entry 3 on: the rule that ends there, added to the entry its span before
  pub entry_more : (i : ℕ) → 3 ≤ i → let from = i - (rule_at i).span in integral_at h v i ≡ add binary64 (integral_at h v from) (rule_from (rule_at i) h v from)
  unfolding simpson_rule eighths_rule
  entry_more i l = sym (integral_by h v i l) ∙ by (i % 2 == 0)
    where
      by : (even : Bool) → let rule = cond even simpson_rule eighths_rule in let from = i - rule.span in
          cond even (add binary64 (integral_at h v (i - 2)) (simpson_over h v i)) (add binary64 (integral_at h v (i - 3)) (eighths_over h v i))
          ≡ add binary64 (integral_at h v from) (rule_from rule h v from)
      by true = ap (add binary64 (integral_at h v (i - 2))) (simpson_from i (omega arith))
      by false = ap (add binary64 (integral_at h v (i - 3))) (eighths_from i l)
