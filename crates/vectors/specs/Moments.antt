-- The moment conditions of the stencil rows (01, "Stencils"): "Rows satisfy, with o the offset from the row's point and w its weight: sum of w × o^q ..".
-- One list holds all rows; `moment_conditions` of proofs/Moments.antt says that each meets them.
use Rattle.std.specs.Prelude.{◌≡◌, ℕ, suc, ◌<◌, ℤ, pos, ◌+ℤ◌, ◌*ℤ◌, length, get_or}
use mathlib.Core.List.{List, [], ◌∷◌, ◌++◌, map}
use Rattle.std.proofs.Math.IntN.{pow}
use Rattle.vectors.specs.Stencil.{Row, offset_of, Rows, diff_rows, diff2_rows, diff3_row}

-- the sum of w × o^q over the weights from weight j on
unfoldable pub moment_from : Row → ℕ → ℕ → List ℤ → ℤ
unfolding pow
moment_from row q j [] = pos 0
moment_from row q j (w ∷ ws) = (w *ℤ pow (offset_of row j) q) +ℤ moment_from row q (suc j) ws

-- "sum of w × o^q"
unfoldable pub moment_of : Row → ℕ → ℤ
unfolding moment_from
moment_of row q = moment_from row q 0 row.weights

-- "for q = 0 to 4 is zero, except 12 at q = 1 (`diff`)": from q = 0 on
abbrev pub diff_moments : List ℤ
diff_moments = pos 0 ∷ pos 12 ∷ pos 0 ∷ pos 0 ∷ pos 0 ∷ []

-- "and 24 at q = 2 (`diff2`, where q = 5 also gives zero)"
abbrev pub diff2_moments : List ℤ
diff2_moments = pos 0 ∷ pos 0 ∷ pos 24 ∷ pos 0 ∷ pos 0 ∷ pos 0 ∷ []

-- "`diff3_unnormalized`, before its division by 8: zero for q = 0 to 5 except 48 at q = 3, offsets taken from the centre of its seven points"
abbrev pub diff3_moments : List ℤ
diff3_moments = pos 0 ∷ pos 0 ∷ pos 0 ∷ pos 48 ∷ pos 0 ∷ pos 0 ∷ []

-- the row has these moments, from q = 0 on
pub record Meets (moments : List ℤ) (row : Row) : Type 0 where
  pub moment : (q : ℕ) → q < length moments → moment_of row q ≡ get_or moments q (pos 0)

-- ---- all rows together

-- a row, and the moments that 01 asks of the difference that uses it
pub record Asked : Type 0 where
  pub moments : List ℤ
  pub row : Row

-- the rows of a difference
abbrev pub asked_of : List ℤ → Rows → List Asked
asked_of moments rows = map (λ row. record { moments = moments; row = row }) (rows.left0 ∷ rows.left1 ∷ rows.inner ∷ rows.right1 ∷ rows.right0 ∷ [])

-- the rows of `diff`, `diff2` and `diff3_unnormalized`
unfoldable pub rows : List Asked
unfolding diff_rows diff2_rows diff3_row
rows = asked_of diff_moments diff_rows ++ (asked_of diff2_moments diff2_rows ++ (record { moments = diff3_moments; row = diff3_row } ∷ []))
