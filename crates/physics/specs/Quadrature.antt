-- The rules of `integrate` (01): "Simpson 1/3 and 3/8, and for entry 1 of `integrate` the quadratic rule 5, 8, -1 over 12".
-- One list holds the rules, one computed test goes over it, and `quadrature_exact` turns the test into what it says of each rule.
use Rattle.std.specs.Prelude.{◌≡◌, ℕ, suc, ◌+◌, ◌*◌, ◌^◌, ◌≤◌, List, [], ◌∷◌, map, ℤ, pos, ◌+ℤ◌, ◌*ℤ◌, slice_index_or, refl}
use Rattle.std.proofs.Common.{sym, ap, ◌∙◌, arith}
use mathlib.Core.List.{Memᴰ}
use Rattle.std.proofs.Math.IntN.{one, pow}
use Rattle.vectors.specs.Constants.{less}
use Rattle.vectors.specs.Memory.{tab_from, tab}
use Rattle.vectors.specs.MemoryLaws.{get_d_tab, same_at}

-- At spacing h: h × factor / divisor × (the sum of weight j × f(j × h)), for the integral of f from 0 to span × h.
pub record Quadrature : Type 0 where
  pub weights : List ℤ
  pub factor : ℕ
  pub divisor : ℕ
  pub span : ℕ
  -- it is exact on the powers of x up to this one
  pub degree : ℕ

-- the quadratic rule: the parabola through three points, integrated over the first interval (the weights of two-step Adams-Moulton)
unfoldable pub entry1_weights : List ℤ
entry1_weights = pos 5 ∷ pos 8 ∷ less 1 ∷ []

-- Simpson's 1/3 rule: the parabola through three points, over both intervals
unfoldable pub simpson_weights : List ℤ
simpson_weights = pos 1 ∷ pos 4 ∷ pos 1 ∷ []

-- Simpson's 3/8 rule: the cubic through four points, over all three intervals; the 3 of 3/8 is the factor
unfoldable pub eighths_weights : List ℤ
eighths_weights = pos 1 ∷ pos 3 ∷ pos 3 ∷ pos 1 ∷ []

unfoldable pub entry1_rule : Quadrature
entry1_rule = record { weights = entry1_weights; factor = 1; divisor = 12; span = 1; degree = 2 }

unfoldable pub simpson_rule : Quadrature
simpson_rule = record { weights = simpson_weights; factor = 1; divisor = 3; span = 2; degree = 3 }

unfoldable pub eighths_rule : Quadrature
eighths_rule = record { weights = eighths_weights; factor = 3; divisor = 8; span = 3; degree = 3 }

unfoldable pub quadratures : List Quadrature
quadratures = entry1_rule ∷ simpson_rule ∷ eighths_rule ∷ []

-- the sum of w × j^q over the weights from weight j on
unfoldable pub power_sum_from : ℕ → ℕ → List ℤ → ℤ
power_sum_from q j [] = pos 0
power_sum_from q j (w ∷ ws) = (w *ℤ pow (pos j) q) +ℤ power_sum_from q (suc j) ws

-- The rule's value for x^q and the integral, span^(q + 1) / (q + 1), both times divisor × (q + 1), at spacing 1.
unfoldable pub rule_value : Quadrature → ℕ → ℤ
rule_value rule q = pos (rule.factor * (q + 1)) *ℤ power_sum_from q 0 rule.weights

unfoldable pub integral_value : Quadrature → ℕ → ℤ
integral_value rule q = pos (rule.divisor * rule.span ^ (q + 1))

-- ---- the test
up_to : (Quadrature → ℕ → ℤ) → Quadrature → List ℤ
up_to values rule = tab (rule.degree + 1) (values rule)

values_agree : map (up_to rule_value) quadratures ≡ map (up_to integral_value) quadratures
unfolding up_to tab tab_from rule_value integral_value power_sum_from pow one quadratures entry1_rule simpson_rule eighths_rule entry1_weights simpson_weights eighths_weights
values_agree = refl

-- ---- what it says
-- every rule of the list is exact on the powers up to its degree
pub quadrature_exact : (rule : Quadrature) → Memᴰ rule quadratures → (q : ℕ) → q ≤ rule.degree → rule_value rule q ≡ integral_value rule q
unfolding up_to
quadrature_exact rule m q h =
    sym (get_d_tab (rule.degree + 1) (rule_value rule) q (pos 0) (omega arith))
    ∙ ap (λ (list : List ℤ). slice_index_or list q (pos 0)) (same_at (up_to rule_value) (up_to integral_value) quadratures rule values_agree m)
    ∙ get_d_tab (rule.degree + 1) (integral_value rule) q (pos 0) (omega arith)
