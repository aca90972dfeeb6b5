-- The tableau of classical RK4 (01: "classical RK4"), in whole numbers, and the conditions of order four that it meets.
use Rattle.std.specs.Prelude.{◌≡◌, ℕ, ◌+◌, ◌*◌, ◌^◌, List, [], ◌∷◌, map, refl}

-- c, in halves: 0, 1/2, 1/2, 1. Stage i is taken at time c_i × step.
unfoldable pub stage_offsets : List ℕ
stage_offsets = 0 ∷ 1 ∷ 1 ∷ 2 ∷ []

-- a, in halves, a row for each stage: a21 = 1/2, a32 = 1/2, a43 = 1, all others 0. Stage i starts from the state and adds step × a_ij × u_j.
unfoldable pub stage_couplings : List (List ℕ)
stage_couplings = (0 ∷ 0 ∷ 0 ∷ 0 ∷ []) ∷ (1 ∷ 0 ∷ 0 ∷ 0 ∷ []) ∷ (0 ∷ 1 ∷ 0 ∷ 0 ∷ []) ∷ (0 ∷ 0 ∷ 2 ∷ 0 ∷ []) ∷ []

-- b, in sixths: 1/6, 2/6, 2/6, 1/6. The step adds step × b_i × u_i.
unfoldable pub stage_weights : List ℕ
stage_weights = 1 ∷ 2 ∷ 2 ∷ 1 ∷ []

-- ---- sums over stages
unfoldable pub sum : List ℕ → ℕ
sum [] = 0
sum (x ∷ xs) = x + sum xs

-- stage by stage
unfoldable pub times : List ℕ → List ℕ → List ℕ
times [] ys = []
times (x ∷ xs) [] = []
times (x ∷ xs) (y ∷ ys) = x * y ∷ times xs ys

-- the sum of b_i × x_i
abbrev pub weighted : List ℕ → ℕ
weighted xs = sum (times stage_weights xs)

-- for each stage i the sum of a_ij × x_j
abbrev pub coupled : List ℕ → List ℕ
coupled xs = map (λ row. sum (times row xs)) stage_couplings

abbrev pub c¹ : List ℕ
c¹ = stage_offsets

abbrev pub c² : List ℕ
c² = times c¹ c¹

abbrev pub c³ : List ℕ
c³ = times c² c¹

-- Each c_i is the sum of its row, and the eight conditions of order four hold: the sums of b, b c, b c², b a c, b c³, b c a c, b a c² and b a a c
-- are 1, 1/2, 1/3, 1/6, 1/4, 1/8, 1/12 and 1/24. A sum with b and k factors of a or c is here 6 × 2^k times as large.
pub rk4_order_four :
    (map sum stage_couplings ≡ stage_offsets)
    × (sum stage_weights ≡ 6)
    × (2 * weighted c¹ ≡ 6 * 2 ^ 1)
    × (3 * weighted c² ≡ 6 * 2 ^ 2)
    × (6 * weighted (coupled c¹) ≡ 6 * 2 ^ 2)
    × (4 * weighted c³ ≡ 6 * 2 ^ 3)
    × (8 * weighted (times c¹ (coupled c¹)) ≡ 6 * 2 ^ 3)
    × (12 * weighted (coupled c²) ≡ 6 * 2 ^ 3)
    × (24 * weighted (coupled (coupled c¹)) ≡ 6 * 2 ^ 3)
unfolding stage_offsets stage_couplings stage_weights sum times
rk4_order_four = (refl, refl, refl, refl, refl, refl, refl, refl, refl)
