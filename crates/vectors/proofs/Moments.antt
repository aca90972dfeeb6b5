-- The rows have the moments that 01 asks (01, "Stencils": "Rows satisfy .."): one computed test goes over the list of all rows, `moment_conditions` turns
-- the test into the conditions of each row, and the row that `diff_at`, `diff2_at` or `diff3_at` uses at a point is one of the list.
use Rattle.std.specs.Prelude.{◌≡◌, refl, ℕ, ℤ, pos, length, get_or}
use Rattle.std.proofs.Common.{sym, ap, ◌∙◌}
use mathlib.Core.List.Memᴰ
use mathlib.Core.List.Memᴰ.{head as here}
use mathlib.Core.List.Memᴰ.{tail as later}
use mathlib.Core.List.{List, map, Memᴰ}
use Rattle.std.proofs.Math.IntN.{one, pow}
use Rattle.vectors.specs.Memory.{tab_from, tab}
use Rattle.vectors.specs.MemoryLaws.{get_d_tab, same_at}
use Rattle.vectors.specs.Moments.{moment_from, moment_of, Meets, Asked, asked_of, rows, diff_moments, diff2_moments, diff3_moments}
use Rattle.vectors.specs.RowsUsed.{at_each}
use Rattle.vectors.specs.Stencil.{Rows, row_at, diff_rows, diff2_rows, diff3_row, diff_left0, diff_left1, diff_inner, diff_right1, diff_right0, diff2_left0, diff2_left1, diff2_inner, diff2_right1, diff2_right0}

-- as many moments of the row as are asked
moments_of : Asked → List ℤ
moments_of a = tab (length a.moments) (moment_of a.row)

-- the test
rows_meet : map moments_of rows ≡ map (λ (a : Asked). a.moments) rows
unfolding rows moments_of tab tab_from moment_of moment_from pow one diff_left0 diff_left1 diff_inner diff_right1 diff_right0 diff2_left0 diff2_left1 diff2_inner diff2_right1 diff2_right0
rows_meet = refl

-- every row of the list has the moments asked
pub moment_conditions : (a : Asked) → Memᴰ a rows → Meets a.moments a.row
unfolding moments_of
moment_conditions a m =
    record {
      moment = λ q h.
          sym (get_d_tab (length a.moments) (moment_of a.row) q (pos 0) h)
          ∙ ap (λ (list : List ℤ). get_or list q (pos 0)) (same_at moments_of (λ (a : Asked). a.moments) rows a rows_meet m);
    }

-- ---- the row of a point

-- the row of a point is one of the rows
in_asked : (moments : List ℤ) (given : Rows) (n i : ℕ) → Memᴰ (record { moments = moments; row = row_at given n i }) (asked_of moments given)
in_asked moments given n i =
    at_each given n i (λ row. Memᴰ {A = Asked} (record { moments = moments; row = row }) (asked_of moments given))
    (λ e. here refl)
    (λ e. later (here refl))
    (λ a b. later (later (here refl)))
    (λ a b. later (later (later (here refl))))
    (λ a. later (later (later (later (here refl)))))

-- `diff` at every point
pub diff_meets : (n i : ℕ) → Meets diff_moments (row_at diff_rows n i)
unfolding rows
diff_meets n i = moment_conditions _ (Memᴰ.append_left _ (in_asked diff_moments diff_rows n i))

-- `diff2` at every point
pub diff2_meets : (n i : ℕ) → Meets diff2_moments (row_at diff2_rows n i)
unfolding rows
diff2_meets n i = moment_conditions _ (Memᴰ.append_right (asked_of diff_moments diff_rows) (Memᴰ.append_left _ (in_asked diff2_moments diff2_rows n i)))

-- the third difference has one row, about "the centre of its seven points"
pub diff3_meets : Meets diff3_moments diff3_row
unfolding rows
diff3_meets =
    moment_conditions _ (Memᴰ.append_right (asked_of diff_moments diff_rows) (Memᴰ.append_right (asked_of diff2_moments diff2_rows) (here refl)))
