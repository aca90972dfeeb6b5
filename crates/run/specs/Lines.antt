-- 01, "Orders (added)": the lines that the program prints, and which of them an advance prints. Definitions only.
use Rattle.std.specs.Prelude.{ℕ, List, [], ◌∷◌, ◌++◌, map, Float}
use Rattle.run.specs.Outcome.{Outcome}
use Rattle.run.specs.Tally.{Reply, refused, full, ran}
use Rattle.run.specs.Report.{frame_line, outcome_line, refusal_line, refusal_at_line}

-- "`frame` and F numbers"; "`OUTCOME STEPS TIME MASS`"; "a refusal `refused N`, and for 1 to 4 the byte position after it"
pub data Line : Type 0 where
  frame : List Float → Line
  outcome : Outcome → ℕ → Float → Line
  refusal : ℕ → Line
  refusal_at : ℕ → ℕ → Line

unfoldable pub text_of : Line → List ℕ
text_of (frame xs) = frame_line xs
text_of (outcome o steps time) = outcome_line o steps time
text_of (refusal n) = refusal_line n
text_of (refusal_at n at) = refusal_at_line n at

-- one line after another
unfoldable pub texts_of : List Line → List ℕ
texts_of [] = []
texts_of (l ∷ ls) = text_of l ++ texts_of ls

-- what an advance prints that answered so, with these frames, and left the run at these steps and this time: "prints each call's frames";
-- "per 08, after its frames, `OUTCOME STEPS TIME MASS`": with full it is not at its end
unfoldable pub reply_lines : List (List Float) → (steps : ℕ) (time : Float) → Reply → List Line
reply_lines fs steps time (refused n) = refusal n ∷ []
reply_lines fs steps time (full a k) = map frame fs
reply_lines fs steps time (ran o k) = map frame fs ++ outcome o steps time ∷ []
