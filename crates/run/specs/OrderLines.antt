-- 01, "Orders (added)": what an order prints, as a list of lines. Definitions only; OrderLinesLaws.antt has the theorems.
use Rattle.std.specs.Prelude.{ℕ, zero, suc, ◌+◌, ◌-◌, ◌*◌, cond, List, [], ◌∷◌, ◌++◌, map, length, drop, nat_lt, Float}
use Rattle.vectors.specs.Grid.{points_of}
use Rattle.run.specs.declared.settings.Settings.{Settings}
use Rattle.run.specs.Order.{Read, Refused, Order}
use Rattle.run.specs.PlainRun.{option, start, plain_run}
use Rattle.run.specs.Tally.{Reply, refused, full, ran, Fed, Told, told}
use Rattle.run.specs.Calls.{begin_refusal}
use Rattle.run.specs.Order.{read_order, budget_at}
use Rattle.run.specs.Lines.{Line, frame, refusal, refusal_at, reply_lines}

-- "lends for level 7 and 8,192 frame numbers": state memory of 8n and work memory of 40n numbers
unfoldable pub lent_state : ℕ
lent_state = 8 * points_of 7

unfoldable pub lent_work : ℕ
lent_work = 40 * points_of 7

abbrev pub lent_frames : ℕ
lent_frames = 8192

-- an advance with this budget
abbrev pub asked : (budget : ℕ) → Fed
asked budget = record { budget = budget; state = lent_state; work = lent_work; frames = lent_frames }

-- lines, and the attempts made when they are printed
pub record Printed : Type 0 where
  pub lines : List Line
  pub attempts : ℕ

module _ (s : Settings) where
  -- the frames that the plain run appends in the attempts after the first S, up to S + made
  unfoldable pub frames_over : (S made : ℕ) → List (List Float)
  frames_over S made = drop (length (plain_run s S).frames) (plain_run s (S + made)).frames

  -- what a call prints that the tally told so after S attempts
  unfoldable pub told_lines : (S : ℕ) → Told → List Line
  told_lines S t =
      reply_lines (frames_over S t.made) (plain_run s (S + t.made)).steps (plain_run s (S + t.made)).state.time t.reply

  -- "after full calls again with the rest of the budget": what was told of a call with `rest` left, and what `again`, the calls after it, print
  unfoldable pub after_told : (again : (S rest : ℕ) → Printed) → (S rest : ℕ) → Told → Reply → Printed
  after_told again S rest t (refused n) = record { lines = told_lines S t; attempts = S + t.made }
  after_told again S rest t (full a k) =
      record { lines = told_lines S t ++ (again (S + t.made) (rest - a)).lines; attempts = (again (S + t.made) (rest - a)).attempts }
  after_told again S rest t (ran o k) = record { lines = told_lines S t; attempts = S + t.made }

  -- an 08 with `rest` of its budget left, after S attempts, in n calls at the most
  unfoldable pub advance_lines : (n S rest : ℕ) → Printed
  advance_lines zero S rest = record { lines = []; attempts = S }
  advance_lines (suc n) S rest = after_told (advance_lines n) S rest (told s S (asked rest)) (told s S (asked rest)).reply

  -- "any number of 08", one after another; full has made an attempt, so a budget has no more calls than numbers up to it
  unfoldable pub advances_lines : (S : ℕ) → (budgets : List ℕ) → List Line
  advances_lines S [] = []
  advances_lines S (b ∷ bs) = (advance_lines (suc b) S b).lines ++ advances_lines (advance_lines (suc b) S b).attempts bs

  -- 07 and the advances after it: "After a refused begin nothing more prints; after a refused advance the next command follows."
  unfoldable pub run_lines : (budgets : List ℕ) → List Line
  run_lines bs =
      option (begin_refusal s lent_state lent_work lent_frames) (λ n. refusal n ∷ []) (map frame (start s).frames ++ advances_lines 0 bs)

-- the budgets of n advances from the k-th on
unfoldable pub budgets_from : (order : List ℕ) (advances k n : ℕ) → List ℕ
budgets_from order advances k zero = []
budgets_from order advances k (suc n) = budget_at order advances k ∷ budgets_from order advances (k + 1) n

-- "a refusal `refused N`, and for 1 to 4 the byte position after it"
unfoldable pub read_lines : (order : List ℕ) → Read → List Line
read_lines order (Refused n at) = refusal_at n at ∷ []
read_lines order (Order s p) = run_lines s (budgets_from order p.advances 0 p.count)

-- "8: the program's input is above 4,096 bytes; before all else, no position."; "checks the whole order"
unfoldable pub lines_of : (order : List ℕ) → List Line
lines_of order = cond (nat_lt 4096 (length order)) (refusal 8 ∷ []) (read_lines order (read_order order))
