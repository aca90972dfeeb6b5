-- Each weight of the row that `diff_at`, `diff2_at` or `diff3_at` uses at a point stands at i + o, "o the offset from the row's point" (01, "Stencils"),
-- inside the vector. That the row has the moments that 01 asks is proved in proofs/Moments.antt.
use Rattle.std.specs.Prelude.{◌≡◌, refl, Bool, true, false, cond, ◌&&◌, List, ℕ, suc, ◌+◌, ◌-◌, ◌≤◌, ◌<◌, T, eqb, leb, ltb, Float, ℤ, pos, ◌+ℤ◌, length}
use Rattle.std.proofs.Common.{inl, inr, arith, leb→le}
use borrow.Author.Tests.{eqb-true, eqb-false, ltb-true, ltb-false, le-leb, lt-leb, lt-ltb, le-ltb}
use Rattle.std.specs.Float.Ieee.{minus}
use Rattle.std.specs.Float.Ieee.Fits.{and_l, and_r}
use Rattle.vectors.specs.MemoryLaws.{side}
use Rattle.vectors.specs.Stencil.{Row, offset_of, place_of, Rows, row_at, diff_rows, diff2_rows, inward, diff_left0, diff_left1, diff_inner, diff_right1, diff_right0, diff2_left0, diff2_left1, diff2_inner, diff2_right1, diff2_right0, diff3_row, diff3_at}

-- ---- the row of a point

either : {A : Type 0} (P : A → Type 0) (b : Bool) {x y : A} → (b ≡ true → P x) → (b ≡ false → P y) → P (cond b x y)
either P true p q = p refl
either P false p q = q refl

-- what holds of each row at the points that it is for holds of the row of every point
pub at_each : (given : Rows) (n i : ℕ) (P : Row → Type 0)
    → (i ≡ 0 → P given.left0)
    → (i ≡ 1 → P given.left1)
    → (2 ≤ i → i < n - 2 → P given.inner)
    → (n ≤ i + 2 → i < n - 1 → P given.right1)
    → (n ≤ i + 1 → P given.right0)
    → P (row_at given n i)
unfolding row_at
at_each given n i P left0 left1 inner right1 right0 =
    either P (eqb i 0) (λ e. left0 (eqb-true i 0 e)) (λ a.
    either P (eqb i 1) (λ e. left1 (eqb-true i 1 e)) (λ b.
    let a' = eqb-false i 0 a in
    let b' = eqb-false i 1 b in
    either P (ltb i (n - 2)) (λ e. inner (omega arith) (ltb-true i (n - 2) e)) (λ c.
    let c' = ltb-false i (n - 2) c in
    either P (ltb i (n - 1)) (λ e. right1 (omega arith) (ltb-true i (n - 1) e)) (λ d.
    let d' = ltb-false i (n - 1) d in
    right0 (omega arith)))))

-- ---- places

-- each weight of the row of point i stands at i + o, below n
pub record Placed (n i : ℕ) (row : Row) : Type 0 where
  pub offset : (j : ℕ) → j < length row.weights → pos i +ℤ offset_of row j ≡ pos (place_of row i j)
  pub inside : (j : ℕ) → j < length row.weights → place_of row i j < n

plus_minus : (i a b : ℕ) → b ≤ i + a → pos i +ℤ minus a b ≡ pos (i + a - b)
plus_minus i a b h = elim (side a b) [
  | inl l ↦
      let e : i - suc (b - suc a) ≡ i + a - b = omega arith in
      simp (lt-leb b a l, le-ltb i (suc (b - suc a)) (omega arith), e)
  | inr l ↦
      let e : i + (a - b) ≡ i + a - b = omega arith in
      simp (le-leb b a l, e)
]

-- the row goes at most a points to the left of its point and at most b to the right
within : ℕ → ℕ → Row → Bool
within a b row =
    let other = length row.weights - 1 - row.lead in
    leb (cond row.descends other row.lead) a && leb (cond row.descends row.lead other) b

placed : (a b n i : ℕ) (row : Row) → T (within a b row) → a ≤ i → i + b < n → Placed n i row
unfolding within
placed a b n i row t l r = go row.descends row.lead row.weights t
  where
    go : (descends : Bool) (lead : ℕ) (ws : List ℤ) → T (within a b (record { descends = descends; lead = lead; weights = ws }))
        → Placed n i (record { descends = descends; lead = lead; weights = ws })
    go true lead ws t =
        let left = leb→le (length ws - 1 - lead) a (and_l (leb (length ws - 1 - lead) a) (leb lead b) t) in
        let right = leb→le lead b (and_r (leb (length ws - 1 - lead) a) (leb lead b) t) in
        record { offset = λ j h. plus_minus i lead j (omega arith); inside = λ j h. omega arith }
    go false lead ws t =
        let left = leb→le lead a (and_l (leb lead a) (leb (length ws - 1 - lead) b) t) in
        let right = leb→le (length ws - 1 - lead) b (and_r (leb lead a) (leb (length ws - 1 - lead) b) t) in
        record { offset = λ j h. plus_minus i j lead (omega arith); inside = λ j h. omega arith }

-- the rows of a difference over at least m points
rows_placed : (m : ℕ) (given : Rows)
    → T (within 0 (m - 1) given.left0)
    → T (within 1 (m - 2) given.left1)
    → T (within 2 2 given.inner)
    → T (within (m - 2) 1 given.right1)
    → T (within (m - 1) 0 given.right0)
    → (n i : ℕ) → m ≤ n → i < n → Placed n i (row_at given n i)
rows_placed m given left0 left1 inner right1 right0 n i enough below =
    at_each given n i (Placed n i)
    (λ e. placed 0 (m - 1) n i given.left0 left0 (omega arith) (omega arith))
    (λ e. placed 1 (m - 2) n i given.left1 left1 (omega arith) (omega arith))
    (λ a b. placed 2 2 n i given.inner inner (omega arith) (omega arith))
    (λ a b. placed (m - 2) 1 n i given.right1 right1 (omega arith) (omega arith))
    (λ a. placed (m - 1) 0 n i given.right0 right0 (omega arith) (omega arith))

-- `diff` needs five points
pub diff_placed : (n i : ℕ) → 5 ≤ n → i < n → Placed n i (row_at diff_rows n i)
unfolding within diff_rows diff_left0 diff_left1 diff_inner diff_right1 diff_right0
diff_placed = rows_placed 5 diff_rows tt tt tt tt tt

-- `diff2` six
pub diff2_placed : (n i : ℕ) → 6 ≤ n → i < n → Placed n i (row_at diff2_rows n i)
unfolding within diff2_rows diff2_left0 diff2_left1 diff2_inner diff2_right1 diff2_right0
diff2_placed = rows_placed 6 diff2_rows tt tt tt tt tt

-- and the third difference nine, its row standing about the point itself or "three points inward"
pub diff3_placed : (n i : ℕ) → 9 ≤ n → i < n → Placed n (inward n i) diff3_row
unfolding within diff3_row
diff3_placed n i enough below =
    let at : (k : ℕ) → 3 ≤ k → k + 3 < n → Placed n k diff3_row = λ k. placed 3 3 n k diff3_row tt in
    either (λ (k : ℕ). Placed n k diff3_row) (ltb i 3) (λ e. let e' = ltb-true i 3 e in at (i + 3) (omega arith) (omega arith)) (λ a.
    let a' = ltb-false i 3 a in
    either (λ (k : ℕ). Placed n k diff3_row) (ltb i (n - 3)) (λ e. let e' = ltb-true i (n - 3) e in at i (omega arith) (omega arith)) (λ b.
    let b' = ltb-false i (n - 3) b in
    at (i - 3) (omega arith) (omega arith)))

-- ---- "Its first three and last three entries repeat the entry three points inward."

module _ (xs : List Float) (i : ℕ) (enough : 9 ≤ length xs) where
  pub diff3_repeats_left : i < 3 → diff3_at xs i ≡ diff3_at xs (i + 3)
  unfolding diff3_at
  diff3_repeats_left h = rw (lt-ltb i 3 h, le-ltb (i + 3) 3 (omega arith), lt-ltb (i + 3) (length xs - 3) (omega arith))

  pub diff3_repeats_right : length xs - 3 ≤ i → i < length xs → diff3_at xs i ≡ diff3_at xs (i - 3)
  unfolding diff3_at
  diff3_repeats_right h below =
      rw (le-ltb i 3 (omega arith), le-ltb i (length xs - 3) h, le-ltb (i - 3) 3 (omega arith), lt-ltb (i - 3) (length xs - 3) (omega arith))
