-- Laws of the stencils: a row's sum at a point in the shape in which code takes it, by where the row's first weight stands.
use Rattle.std.specs.Prelude.{◌≡◌, true, false, ℤ, pos, negsuc, length, get_or, drop, Float}
use Rattle.std.proofs.Math.Path.{refl, sym, ap}
use Rattle.std.proofs.Common.{◌∙◌}
use Rattle.std.proofs.Math.Bool.{cond}
use mathlib.Core.List.{List, [], ◌∷◌}
use Prim.Native.Nat.{ℕ, zero, suc, ◌+◌, ◌-◌, ◌≤◌, ◌<◌}
use Rattle.std.proofs.Math.Nat.{add-zero}
use native.Mathlib.Omega.{arith}
use borrow.Author.Tests.{ne_eqb, lt-ltb, le-ltb}
use Rattle.std.specs.Float.{nan, binary64}
use Rattle.std.specs.Float.Ieee.{mul, div, of_int, of_bits}
use Rattle.vectors.specs.Constants.{whole}
use Rattle.vectors.specs.MemoryLaws.{length_tab}
use Rattle.vectors.specs.RowSums.{row_sum, hollow_sum, descending_sum}
use Rattle.vectors.specs.RowLaws.{sum4_is, sum5_is, sum5hollow_is, sum6_is, sum6descending_is, sum7hollow_is}
use Rattle.vectors.specs.Stencil.{Row, place_of, products_from, total, sum_at, Rows, diff_rows, diff2_rows, row_at, inward, diff_left0, diff_left1, diff_inner, diff_right1, diff_right0, diff2_left0, diff2_left1, diff2_inner, diff2_right1, diff2_right0, diff3_row, diff_at, diff_of, diff2_at, diff2_of, diff3_at, diff3_of, neumann_of}

-- products of weights with the numbers from place k + j on, to the right
unfoldable rightward : List ℤ → List Float → ℕ → ℕ → List Float
rightward [] xs k j = []
rightward (pos zero ∷ ws) xs k j = rightward ws xs k (suc j)
rightward (pos (suc w) ∷ ws) xs k j = mul binary64 (of_int binary64 (pos (suc w))) (get_or xs (k + j) nan) ∷ rightward ws xs k (suc j)
rightward (negsuc w ∷ ws) xs k j = mul binary64 (of_int binary64 (negsuc w)) (get_or xs (k + j) nan) ∷ rightward ws xs k (suc j)

-- and from place k - j on, to the left
unfoldable leftward : List ℤ → List Float → ℕ → ℕ → List Float
leftward [] xs k j = []
leftward (pos zero ∷ ws) xs k j = leftward ws xs k (suc j)
leftward (pos (suc w) ∷ ws) xs k j = mul binary64 (of_int binary64 (pos (suc w))) (get_or xs (k - j) nan) ∷ leftward ws xs k (suc j)
leftward (negsuc w ∷ ws) xs k j = mul binary64 (of_int binary64 (negsuc w)) (get_or xs (k - j) nan) ∷ leftward ws xs k (suc j)

module _ (row : Row) (xs : List Float) (i k : ℕ) where
  goes_right : row.descends ≡ false → k + row.lead ≡ i → (j : ℕ) (ws : List ℤ) → products_from row xs i j ws ≡ rightward ws xs k j
  unfolding products_from rightward
  goes_right d e j [] = refl
  goes_right d e j (pos zero ∷ ws) = goes_right d e (suc j) ws
  goes_right d e j (pos (suc w) ∷ ws) =
      let p : place_of row i j ≡ k + j = ap (λ b. cond b (i + row.lead - j) (i + j - row.lead)) d ∙ omega arith in
      cc (goes_right d e (suc j) ws)
  goes_right d e j (negsuc w ∷ ws) =
      let p : place_of row i j ≡ k + j = ap (λ b. cond b (i + row.lead - j) (i + j - row.lead)) d ∙ omega arith in
      cc (goes_right d e (suc j) ws)

  goes_left : row.descends ≡ true → i + row.lead ≡ k → (j : ℕ) (ws : List ℤ) → products_from row xs i j ws ≡ leftward ws xs k j
  unfolding products_from leftward
  goes_left d e j [] = refl
  goes_left d e j (pos zero ∷ ws) = goes_left d e (suc j) ws
  goes_left d e j (pos (suc w) ∷ ws) =
      let p : place_of row i j ≡ k - j = ap (λ b. cond b (i + row.lead - j) (i + j - row.lead)) d ∙ omega arith in
      cc (goes_left d e (suc j) ws)
  goes_left d e j (negsuc w ∷ ws) =
      let p : place_of row i j ≡ k - j = ap (λ b. cond b (i + row.lead - j) (i + j - row.lead)) d ∙ omega arith in
      cc (goes_left d e (suc j) ws)

  sum_right : row.descends ≡ false → k + row.lead ≡ i → sum_at row xs i ≡ total (rightward row.weights xs k 0)
  unfolding sum_at
  sum_right d e = ap total (goes_right d e 0 row.weights)

  sum_left : row.descends ≡ true → i + row.lead ≡ k → sum_at row xs i ≡ total (leftward row.weights xs k 0)
  unfolding sum_at
  sum_left d e = ap total (goes_left d e 0 row.weights)

-- ---- each row's sum, where its first number stands at k
module _ (xs : List Float) (i k : ℕ) where
  diff_left0_sum : k + 0 ≡ i → sum_at diff_left0 xs i ≡ row_sum diff_left0.weights xs k
  unfolding diff_left0 rightward total
  diff_left0_sum e = sum_right diff_left0 xs i k refl e ∙ simp add-zero (sym (sum5_is _ _ _ _ _ xs k))

  diff_left1_sum : k + 1 ≡ i → sum_at diff_left1 xs i ≡ row_sum diff_left1.weights xs k
  unfolding diff_left1 rightward total
  diff_left1_sum e = sum_right diff_left1 xs i k refl e ∙ simp add-zero (sym (sum5_is _ _ _ _ _ xs k))

  diff_inner_sum : k + 2 ≡ i → sum_at diff_inner xs i ≡ hollow_sum diff_inner.weights xs k
  unfolding diff_inner rightward total
  diff_inner_sum e = sum_right diff_inner xs i k refl e ∙ simp add-zero (sym (sum5hollow_is _ _ _ _ _ xs k))

  diff_right1_sum : k + 3 ≡ i → sum_at diff_right1 xs i ≡ row_sum diff_right1.weights xs k
  unfolding diff_right1 rightward total
  diff_right1_sum e = sum_right diff_right1 xs i k refl e ∙ simp add-zero (sym (sum5_is _ _ _ _ _ xs k))

  diff_right0_sum : k + 4 ≡ i → sum_at diff_right0 xs i ≡ row_sum diff_right0.weights xs k
  unfolding diff_right0 rightward total
  diff_right0_sum e = sum_right diff_right0 xs i k refl e ∙ simp add-zero (sym (sum5_is _ _ _ _ _ xs k))

  diff2_left0_sum : k + 0 ≡ i → sum_at diff2_left0 xs i ≡ row_sum diff2_left0.weights xs k
  unfolding diff2_left0 rightward total
  diff2_left0_sum e = sum_right diff2_left0 xs i k refl e ∙ simp add-zero (sym (sum6_is _ _ _ _ _ _ xs k))

  diff2_left1_sum : k + 1 ≡ i → sum_at diff2_left1 xs i ≡ row_sum diff2_left1.weights xs k
  unfolding diff2_left1 rightward total
  diff2_left1_sum e = sum_right diff2_left1 xs i k refl e ∙ simp add-zero (sym (sum6_is _ _ _ _ _ _ xs k))

  diff2_inner_sum : k + 2 ≡ i → sum_at diff2_inner xs i ≡ row_sum diff2_inner.weights xs k
  unfolding diff2_inner rightward total
  diff2_inner_sum e = sum_right diff2_inner xs i k refl e ∙ simp add-zero (sym (sum5_is _ _ _ _ _ xs k))

  diff3_row_sum : k + 3 ≡ i → sum_at diff3_row xs i ≡ hollow_sum diff3_row.weights xs k
  unfolding diff3_row rightward total
  diff3_row_sum e = sum_right diff3_row xs i k refl e ∙ simp add-zero (sym (sum7hollow_is _ _ _ _ _ _ _ xs k))

  diff2_right1_sum : i + 1 ≡ k + 5 → sum_at diff2_right1 xs i ≡ descending_sum diff2_right1.weights xs k
  unfolding diff2_right1 leftward total
  diff2_right1_sum e =
      let z : k + 5 - 0 ≡ k + 5 = omega arith in
      let a : k + 5 - 1 ≡ k + 4 = omega arith in
      let b : k + 5 - 2 ≡ k + 3 = omega arith in
      let c : k + 5 - 3 ≡ k + 2 = omega arith in
      let d : k + 5 - 4 ≡ k + 1 = omega arith in
      let f : k + 5 - 5 ≡ k = omega arith in
      sum_left diff2_right1 xs i (k + 5) refl e ∙ simp (z, a, b, c, d, f) (sym (sum6descending_is _ _ _ _ _ _ xs k))

  diff2_right0_sum : i + 0 ≡ k + 5 → sum_at diff2_right0 xs i ≡ descending_sum diff2_right0.weights xs k
  unfolding diff2_right0 leftward total
  diff2_right0_sum e =
      let z : k + 5 - 0 ≡ k + 5 = omega arith in
      let a : k + 5 - 1 ≡ k + 4 = omega arith in
      let b : k + 5 - 2 ≡ k + 3 = omega arith in
      let c : k + 5 - 3 ≡ k + 2 = omega arith in
      let d : k + 5 - 4 ≡ k + 1 = omega arith in
      let f : k + 5 - 5 ≡ k = omega arith in
      sum_left diff2_right0 xs i (k + 5) refl e ∙ simp (z, a, b, c, d, f) (sym (sum6descending_is _ _ _ _ _ _ xs k))

-- ---- the row of a point
module _ (rows : Rows) (n i : ℕ) where
  pub row_left0 : i ≡ 0 → row_at rows n i ≡ rows.left0
  unfolding row_at
  row_left0 e = rw e

  pub row_left1 : i ≡ 1 → row_at rows n i ≡ rows.left1
  unfolding row_at
  row_left1 e = rw e

  pub row_inner : 2 ≤ i → i < n - 2 → row_at rows n i ≡ rows.inner
  unfolding row_at
  row_inner l h = simp (ne_eqb i 0 (λ e. omega arith), ne_eqb i 1 (λ e. omega arith), lt-ltb i (n - 2) h)

  pub row_right1 : 4 ≤ n → i + 2 ≡ n → row_at rows n i ≡ rows.right1
  unfolding row_at
  row_right1 l h =
      simp (ne_eqb i 0 (λ e. omega arith), ne_eqb i 1 (λ e. omega arith), le-ltb i (n - 2) (omega arith), lt-ltb i (n - 1) (omega arith))

  pub row_right0 : 4 ≤ n → i + 1 ≡ n → row_at rows n i ≡ rows.right0
  unfolding row_at
  row_right0 l h =
      simp (ne_eqb i 0 (λ e. omega arith), ne_eqb i 1 (λ e. omega arith), le-ltb i (n - 2) (omega arith), le-ltb i (n - 1) (omega arith))

-- ---- the whole divisors, by their bits
abbrev pub twelve : Float
twelve = of_bits binary64 0x4028000000000000

abbrev pub eight : Float
eight = of_bits binary64 0x4020000000000000

abbrev pub twenty_five : Float
twenty_five = of_bits binary64 0x4039000000000000

twelve_is : twelve ≡ whole 12
unfolding of_bits of_int
twelve_is = refl

eight_is : eight ≡ whole 8
unfolding of_bits of_int
eight_is = refl

twenty_five_is : twenty_five ≡ whole 25
unfolding of_bits of_int
twenty_five_is = refl

-- ---- the value that code computes at a point, from a row's sum r over the numbers ys, which are xs, is the definition's
module _ (h : Float) (n : ℕ) (xs ys : List Float) (long : length xs ≡ n) (is : ys ≡ xs) {r : Float} where
  diff_by : (row : Row) (i : ℕ) → row_at diff_rows n i ≡ row → r ≡ sum_at row ys i → div binary64 r (mul binary64 twelve h) ≡ diff_at h xs i
  unfolding diff_at
  diff_by row i p e = rw (long, p, e, is, twelve_is)

  pub diff_left0_lem : r ≡ row_sum diff_left0.weights ys 0 → div binary64 r (mul binary64 twelve h) ≡ diff_at h xs 0
  unfolding diff_rows
  diff_left0_lem e = diff_by diff_left0 0 (row_left0 diff_rows n 0 refl) (e ∙ sym (diff_left0_sum ys 0 0 refl))

  pub diff_left1_lem : r ≡ row_sum diff_left1.weights ys 0 → div binary64 r (mul binary64 twelve h) ≡ diff_at h xs 1
  unfolding diff_rows
  diff_left1_lem e = diff_by diff_left1 1 (row_left1 diff_rows n 1 refl) (e ∙ sym (diff_left1_sum ys 1 0 refl))

  pub diff_inner_lem : (i : ℕ) → 2 ≤ i → i < n - 2 → r ≡ hollow_sum diff_inner.weights ys (i - 2) → div binary64 r (mul binary64 twelve h) ≡ diff_at h xs i
  unfolding diff_rows
  diff_inner_lem i a b e = diff_by diff_inner i (row_inner diff_rows n i a b) (e ∙ sym (diff_inner_sum ys i (i - 2) (omega arith)))

  pub diff_right1_lem : 5 ≤ n → r ≡ row_sum diff_right1.weights ys (n - 5) → div binary64 r (mul binary64 twelve h) ≡ diff_at h xs (n - 2)
  unfolding diff_rows
  diff_right1_lem a e = diff_by diff_right1 (n - 2) (row_right1 diff_rows n (n - 2) (omega arith) (omega arith)) (e ∙ sym (diff_right1_sum ys (n - 2) (n - 5) (omega arith)))

  pub diff_right0_lem : 5 ≤ n → r ≡ row_sum diff_right0.weights ys (n - 5) → div binary64 r (mul binary64 twelve h) ≡ diff_at h xs (n - 1)
  unfolding diff_rows
  diff_right0_lem a e = diff_by diff_right0 (n - 1) (row_right0 diff_rows n (n - 1) (omega arith) (omega arith)) (e ∙ sym (diff_right0_sum ys (n - 1) (n - 5) (omega arith)))

  diff2_by : (row : Row) (i : ℕ) → row_at diff2_rows n i ≡ row → r ≡ sum_at row ys i → div binary64 r (mul binary64 twelve (mul binary64 h h)) ≡ diff2_at h xs i
  unfolding diff2_at
  diff2_by row i p e = rw (long, p, e, is, twelve_is)

  pub diff2_left0_lem : r ≡ row_sum diff2_left0.weights ys 0 → div binary64 r (mul binary64 twelve (mul binary64 h h)) ≡ diff2_at h xs 0
  unfolding diff2_rows
  diff2_left0_lem e = diff2_by diff2_left0 0 (row_left0 diff2_rows n 0 refl) (e ∙ sym (diff2_left0_sum ys 0 0 refl))

  pub diff2_left1_lem : r ≡ row_sum diff2_left1.weights ys 0 → div binary64 r (mul binary64 twelve (mul binary64 h h)) ≡ diff2_at h xs 1
  unfolding diff2_rows
  diff2_left1_lem e = diff2_by diff2_left1 1 (row_left1 diff2_rows n 1 refl) (e ∙ sym (diff2_left1_sum ys 1 0 refl))

  pub diff2_inner_lem : (i : ℕ) → 2 ≤ i → i < n - 2 → r ≡ row_sum diff2_inner.weights ys (i - 2) → div binary64 r (mul binary64 twelve (mul binary64 h h)) ≡ diff2_at h xs i
  unfolding diff2_rows
  diff2_inner_lem i a b e = diff2_by diff2_inner i (row_inner diff2_rows n i a b) (e ∙ sym (diff2_inner_sum ys i (i - 2) (omega arith)))

  pub diff2_right1_lem : 6 ≤ n → r ≡ descending_sum diff2_right1.weights ys (n - 6) → div binary64 r (mul binary64 twelve (mul binary64 h h)) ≡ diff2_at h xs (n - 2)
  unfolding diff2_rows
  diff2_right1_lem a e = diff2_by diff2_right1 (n - 2) (row_right1 diff2_rows n (n - 2) (omega arith) (omega arith)) (e ∙ sym (diff2_right1_sum ys (n - 2) (n - 6) (omega arith)))

  pub diff2_right0_lem : 6 ≤ n → r ≡ descending_sum diff2_right0.weights ys (n - 6) → div binary64 r (mul binary64 twelve (mul binary64 h h)) ≡ diff2_at h xs (n - 1)
  unfolding diff2_rows
  diff2_right0_lem a e = diff2_by diff2_right0 (n - 1) (row_right0 diff2_rows n (n - 1) (omega arith) (omega arith)) (e ∙ sym (diff2_right0_sum ys (n - 1) (n - 6) (omega arith)))

-- the third difference at point i, whose seven numbers begin back before it
pub record Window (n i back : ℕ) : Type 0 where
  pub begins : back ≤ i
  pub centred : inward n i ≡ i - back + 3

module _ (xs ys : List Float) (is : ys ≡ xs) {r : Float} where
  pub diff3_by : (i back : ℕ) → Window (length xs) i back → r ≡ hollow_sum diff3_row.weights ys (i - back) → div binary64 r eight ≡ diff3_at xs i
  unfolding diff3_at
  diff3_by i back w e = rw (w.centred, e, is, sym (diff3_row_sum xs (i - back + 3) (i - back) refl), eight_is)

pub window_left : (n i : ℕ) → i < 3 → Window n i 0
window_left n i h =
    let e : i + 3 ≡ i - 0 + 3 = omega arith in
    record { begins = omega arith; centred = simp (lt-ltb i 3 h) e }

pub window_inner : (n i : ℕ) → 3 ≤ i → i < n - 3 → Window n i 3
window_inner n i a b =
    let e : i ≡ i - 3 + 3 = omega arith in
    record { begins = a; centred = simp (le-ltb i 3 a, lt-ltb i (n - 3) b) e }

pub window_right : (n i : ℕ) → 9 ≤ n → n - 3 ≤ i → i < n → Window n i 6
window_right n i a b c =
    let e : i - 3 ≡ i - 6 + 3 = omega arith in
    record { begins = omega arith; centred = simp (le-ltb i 3 (omega arith), le-ltb i (n - 3) b) e }

-- the points from lo to below hi, whose seven numbers begin back before them
pub record Windows (n lo hi back : ℕ) : Type 0 where
  pub ordered : lo ≤ hi
  pub inside : hi ≤ n
  pub each : (i : ℕ) → lo ≤ i → i < hi → Window n i back

pub windows_left : (n : ℕ) → 9 ≤ n → Windows n 0 3 0
windows_left n h = record { ordered = omega arith; inside = omega arith; each = λ i a b. window_left n i b }

pub windows_inner : (n : ℕ) → 9 ≤ n → Windows n 3 (n - 3) 3
windows_inner n h = record { ordered = omega arith; inside = omega arith; each = λ i a b. window_inner n i a b }

pub windows_right : (n : ℕ) → 9 ≤ n → Windows n (n - 3) n 6
windows_right n h = record { ordered = omega arith; inside = omega arith; each = λ i a b. window_right n i h a b }

-- the value that `set_left_neumann_bc` computes from the sum r of the row of four
pub neumann_is : (xs : List Float) {r : Float} → r ≡ row_sum (drop 1 diff_left0.weights) xs 1 → div binary64 r twenty_five ≡ neumann_of xs
unfolding neumann_of total products_from diff_left0
neumann_is xs e = rw (e, sum4_is _ _ _ _ xs 1, twenty_five_is)

-- a difference has one number for each point
pub length-diff_of : (h : Float) (xs : List Float) → length (diff_of h xs) ≡ length xs
unfolding diff_of
length-diff_of h xs = length_tab (length xs) (diff_at h xs)

pub length-diff2_of : (h : Float) (xs : List Float) → length (diff2_of h xs) ≡ length xs
unfolding diff2_of
length-diff2_of h xs = length_tab (length xs) (diff2_at h xs)

pub length-diff3_of : (xs : List Float) → length (diff3_of xs) ≡ length xs
unfolding diff3_of
length-diff3_of xs = length_tab (length xs) (diff3_at xs)
