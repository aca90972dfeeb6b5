-- The stencils of diff.rs (01, "Stencils"): "the weights kept as constant rows". Each sum is taken in the file's order. Definitions only.
use Rattle.std.specs.Prelude.{Bool, true, false, cond, List, [], ◌∷◌, ℕ, zero, suc, ◌+◌, ◌-◌, ℤ, pos, negsuc, neg_ℤ, eqb, ltb, length, get_or, drop, set, unwrap_or, Float}
use Rattle.std.specs.List.{reduce}
use Rattle.std.specs.Float.{nan, binary64}
use Rattle.std.specs.Float.Ieee.{add, mul, div, of_int, minus}
use Rattle.vectors.specs.Constants.{whole, less}
use Rattle.vectors.specs.Memory.{tab}

-- A row of weights. Weight 0 stands `lead` points to the left of the row's point and the weights go right; or, where the row descends,
-- weight 0 stands `lead` points to the right of it and the weights go left.
pub record Row : Type 0 where
  pub descends : Bool
  pub lead : ℕ
  pub weights : List ℤ

-- o, "the offset from the row's point" of weight j
abbrev pub offset_of : Row → ℕ → ℤ
offset_of row j = cond row.descends (minus row.lead j) (minus j row.lead)

-- i + o, where weight j of the row of point i stands
abbrev pub place_of : Row → ℕ → ℕ → ℕ
place_of row i j = cond row.descends (i + row.lead - j) (i + j - row.lead)

-- `diff` at point 0
unfoldable pub diff_left0 : Row
diff_left0 = record { descends = false; lead = 0; weights = less 25 ∷ pos 48 ∷ less 36 ∷ pos 16 ∷ less 3 ∷ [] }

-- at point 1
unfoldable pub diff_left1 : Row
diff_left1 = record { descends = false; lead = 1; weights = less 3 ∷ less 10 ∷ pos 18 ∷ less 6 ∷ pos 1 ∷ [] }

-- inside
unfoldable pub diff_inner : Row
diff_inner = record { descends = false; lead = 2; weights = pos 1 ∷ less 8 ∷ pos 0 ∷ pos 8 ∷ less 1 ∷ [] }

-- at point n - 2
unfoldable pub diff_right1 : Row
diff_right1 = record { descends = false; lead = 3; weights = less 1 ∷ pos 6 ∷ less 18 ∷ pos 10 ∷ pos 3 ∷ [] }

-- at point n - 1
unfoldable pub diff_right0 : Row
diff_right0 = record { descends = false; lead = 4; weights = pos 3 ∷ less 16 ∷ pos 36 ∷ less 48 ∷ pos 25 ∷ [] }

-- `diff2` at point 0
unfoldable pub diff2_left0 : Row
diff2_left0 = record { descends = false; lead = 0; weights = pos 45 ∷ less 154 ∷ pos 214 ∷ less 156 ∷ pos 61 ∷ less 10 ∷ [] }

-- at point 1
unfoldable pub diff2_left1 : Row
diff2_left1 = record { descends = false; lead = 1; weights = pos 10 ∷ less 15 ∷ less 4 ∷ pos 14 ∷ less 6 ∷ pos 1 ∷ [] }

-- inside
unfoldable pub diff2_inner : Row
diff2_inner = record { descends = false; lead = 2; weights = less 1 ∷ pos 16 ∷ less 30 ∷ pos 16 ∷ less 1 ∷ [] }

-- at point n - 2, from n - 1 to the left
unfoldable pub diff2_right1 : Row
diff2_right1 = record { descends = true; lead = 1; weights = pos 10 ∷ less 15 ∷ less 4 ∷ pos 14 ∷ less 6 ∷ pos 1 ∷ [] }

-- at point n - 1, to the left
unfoldable pub diff2_right0 : Row
diff2_right0 = record { descends = true; lead = 0; weights = pos 45 ∷ less 154 ∷ pos 214 ∷ less 156 ∷ pos 61 ∷ less 10 ∷ [] }

-- `diff3_unnormalized`, about the centre of its seven points
unfoldable pub diff3_row : Row
diff3_row = record { descends = false; lead = 3; weights = pos 1 ∷ less 8 ∷ pos 13 ∷ pos 0 ∷ less 13 ∷ pos 8 ∷ less 1 ∷ [] }

-- ---- a row at a point

-- The products w × v of the weights from weight j on, in the row's order; a weight 0 has none. The file writes v for 1 × v, and a - w × v for
-- a + (-w) × v: a product with 1 or -1 does not round, and a difference is the sum with the number of the other sign.
unfoldable pub products_from : Row → List Float → ℕ → ℕ → List ℤ → List Float
products_from row xs i j [] = []
products_from row xs i j (pos zero ∷ ws) = products_from row xs i (suc j) ws
products_from row xs i j (pos (suc w) ∷ ws) = mul binary64 (of_int binary64 (pos (suc w))) (get_or xs (place_of row i j) nan) ∷ products_from row xs i (suc j) ws
products_from row xs i j (negsuc w ∷ ws) = mul binary64 (of_int binary64 (negsuc w)) (get_or xs (place_of row i j) nan) ∷ products_from row xs i (suc j) ws

-- t₀ + t₁ + .., from the left: nothing is added to the first
unfoldable pub total : List Float → Float
total ts = unwrap_or (reduce (add binary64) ts) nan

-- the row's sum at point i
unfoldable pub sum_at : Row → List Float → ℕ → Float
unfolding total products_from
sum_at row xs i = total (products_from row xs i 0 row.weights)

-- ---- the differences

-- the rows of a difference: at points 0 and 1, at every point between, at n - 2 and n - 1
pub record Rows : Type 0 where
  pub left0 : Row
  pub left1 : Row
  pub inner : Row
  pub right1 : Row
  pub right0 : Row

-- those of `diff`
unfoldable pub diff_rows : Rows
unfolding diff_left0 diff_left1 diff_inner diff_right1 diff_right0
diff_rows = record { left0 = diff_left0; left1 = diff_left1; inner = diff_inner; right1 = diff_right1; right0 = diff_right0 }

-- those of `diff2`
unfoldable pub diff2_rows : Rows
unfolding diff2_left0 diff2_left1 diff2_inner diff2_right1 diff2_right0
diff2_rows = record { left0 = diff2_left0; left1 = diff2_left1; inner = diff2_inner; right1 = diff2_right1; right0 = diff2_right0 }

-- the row of point i of n points
unfoldable pub row_at : Rows → ℕ → ℕ → Row
row_at rows n i =
    cond (eqb i 0) rows.left0 (cond (eqb i 1) rows.left1 (cond (ltb i (n - 2)) rows.inner (cond (ltb i (n - 1)) rows.right1 rows.right0)))

-- `diff` at point i: the sum over 12 × h
unfoldable pub diff_at : Float → List Float → ℕ → Float
unfolding sum_at row_at diff_rows
diff_at h xs i = div binary64 (sum_at (row_at diff_rows (length xs) i) xs i) (mul binary64 (whole 12) h)

-- `diff` at every point
unfoldable pub diff_of : Float → List Float → List Float
unfolding diff_at tab
diff_of h xs = tab (length xs) (diff_at h xs)

-- `diff2` at point i: the sum over 12 × (h × h)
unfoldable pub diff2_at : Float → List Float → ℕ → Float
unfolding sum_at row_at diff2_rows
diff2_at h xs i = div binary64 (sum_at (row_at diff2_rows (length xs) i) xs i) (mul binary64 (whole 12) (mul binary64 h h))

-- `diff2` at every point
unfoldable pub diff2_of : Float → List Float → List Float
unfolding diff2_at tab
diff2_of h xs = tab (length xs) (diff2_at h xs)

-- "Its first three and last three entries repeat the entry three points inward."
abbrev pub inward : ℕ → ℕ → ℕ
inward n i = cond (ltb i 3) (i + 3) (cond (ltb i (n - 3)) i (i - 3))

-- `diff3_unnormalized` at point i: the sum over 8
unfoldable pub diff3_at : List Float → ℕ → Float
unfolding sum_at diff3_row
diff3_at xs i = div binary64 (sum_at diff3_row xs (inward (length xs) i)) (whole 8)

-- `diff3_unnormalized` at every point
unfoldable pub diff3_of : List Float → List Float
unfolding diff3_at tab
diff3_of xs = tab (length xs) (diff3_at xs)

-- `set_left_neumann_bc`: entry 0 becomes the value at which the row of `diff` at point 0 sums to zero: the sum of its other products over minus
-- weight 0, which is 25
unfoldable pub neumann_of : List Float → Float
unfolding total products_from diff_left0
neumann_of xs =
    div binary64 (total (products_from diff_left0 xs 0 1 (drop 1 diff_left0.weights))) (of_int binary64 (neg_ℤ (get_or diff_left0.weights 0 (pos 0))))

-- the vector with that entry 0
abbrev pub with_left_neumann : List Float → List Float
with_left_neumann xs = set xs 0 (neumann_of xs)
