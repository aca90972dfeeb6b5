-- What a whole output has (01, "Orders (added)"), so that one that was cut is told from it. Definitions only.
use Rattle.std.specs.Prelude.{ℕ, suc, ◌≤◌, Bool, true, false, cond, ◌&&◌, List, [], ◌∷◌, ◌++◌, map, ◌≡◌, eqb, leb, Float, length}
use Rattle.std.specs.Prelude.{None}
use Rattle.run.specs.declared.settings.Settings.{Settings}
use Rattle.run.specs.declared.order.Places.{Places}
use Rattle.run.specs.Order.{Order}
use Rattle.run.specs.Calls.{begin_refusal}
use Rattle.run.specs.FrameLaws.{Each}
use Rattle.run.specs.Lines.{Line, frame, outcome, refusal, refusal_at}
use Rattle.run.specs.Model.{first_state, frame_of, frame_count}
use Rattle.run.specs.Order.{read_order}
use Rattle.run.specs.OrderLines.{lent_state, lent_work, lent_frames, budgets_from, lines_of}
use Rattle.claims.specs.RefusalNumbers.{among, program_refusals}

-- "per 08, after its frames, `OUTCOME STEPS TIME MASS`", or `refused 14` in its place
abbrev pub ends_advance : Line → Bool
ends_advance (frame xs) = false
ends_advance (outcome o steps time) = true
ends_advance (refusal n) = eqb n 14
ends_advance (refusal_at n at) = false

-- what so many advances print: each its frames of F numbers, none where output is skipped, and then exactly one line that is no frame
pub data Advances (s : Settings) : ℕ → List Line → Type 0 where
  no_advance : Advances s 0 []
  advance : {n : ℕ} {lines : List Line} (frames : List (List Float)) (end : Line) →
      Each (frame_count s) frames → (s.skip ≡ true → frames ≡ []) → ends_advance end ≡ true → Advances s n lines →
      Advances s (suc n) (map frame frames ++ (end ∷ lines))

-- begin's frame, unless output is skipped
abbrev pub first_frames : Settings → List (List Float)
first_frames s = cond s.skip [] (frame_of s (first_state s) ∷ [])

-- these lines are whole, for settings and a number of advances
pub record Whole (s : Settings) (advances : ℕ) (lines : List Line) : Type 0 where
  pub rest : List Line
  pub are : lines ≡ map frame (first_frames s) ++ rest
  pub told : Advances s advances rest

-- the refusal of an order as a whole: 1 to 4 with a position, 8, or one of begin's; never 14
abbrev pub refuses_order : Line → Bool
refuses_order (frame xs) = false
refuses_order (outcome o steps time) = false
refuses_order (refusal n) = among (8 ∷ program_refusals) n
refuses_order (refusal_at n at) = leb 1 n && leb n 4

-- what any order prints: it is carried out, or refused in one line
pub data Output (order : List ℕ) : Type 0 where
  carried_out : (s : Settings) (p : Places) → length order ≤ 4096 → read_order order ≡ Order s p →
      begin_refusal s lent_state lent_work lent_frames ≡ None →
      Whole s (length (budgets_from order p.advances 0 p.count)) (lines_of order) → Output order
  refused : (line : Line) → lines_of order ≡ line ∷ [] → refuses_order line ≡ true → Output order

-- the lines that are no frame
unfoldable pub not_frames : List Line → List Line
not_frames [] = []
not_frames (frame xs ∷ ls) = not_frames ls
not_frames (outcome o steps time ∷ ls) = outcome o steps time ∷ not_frames ls
not_frames (refusal n ∷ ls) = refusal n ∷ not_frames ls
not_frames (refusal_at n at ∷ ls) = refusal_at n at ∷ not_frames ls

-- the lines end with one that is no frame
pub record Ending (lines : List Line) : Type 0 where
  pub front : List Line
  pub end : Line
  pub are : lines ≡ front ++ (end ∷ [])
  pub ends : ends_advance end ≡ true
