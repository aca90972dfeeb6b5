-- 01, "Plain run", "Tally, for demand 3": what every advance answers, from the settings of an accepted begin, the budgets and the lengths of
-- the memories alone. Definitions only.
use Rattle.std.specs.Prelude.{ℕ, zero, suc, ◌+◌, ◌-◌, ◌*◌, Bool, cond, not, ◌&&◌, ◌||◌, List, [], ◌∷◌, length, nat_lt}
use Rattle.run.specs.declared.settings.Settings.{Settings}
use Rattle.run.specs.Model.{cell_count, work_count, frame_count, frames_next}
use Rattle.run.specs.Outcome.{Outcome}
use Rattle.run.specs.PlainRun.{has_ended, outcome_of, plain_run}

-- what an advance answers beside the record: a refusal's number; full with the attempts made and how many frames; or the outcome and how
-- many frames
pub data Reply : Type 0 where
  refused : ℕ → Reply
  full : ℕ → ℕ → Reply
  ran : Outcome → ℕ → Reply

-- "for each advance, the budget and the lengths of the three memories; nothing from the record"
pub record Fed : Type 0 where
  pub budget : ℕ
  pub state : ℕ
  pub work : ℕ
  pub frames : ℕ

-- the attempts made, and the answer
pub record Told : Type 0 where
  pub made : ℕ
  pub reply : Reply

-- "11 if state or work memory is too short"
abbrev pub too_short : Settings → (state work : ℕ) → Bool
too_short s state work = nat_lt state (cell_count s) || nat_lt work (work_count s)

-- "14 if the plain run hasn't ended and its steps + budget are above 2,147,483,647"
abbrev pub too_many : (has_ended : Bool) (steps budget : ℕ) → Bool
too_many has_ended steps budget = not has_ended && nat_lt 2147483647 (steps + budget)

module _ (s : Settings) where
  -- "how many frames the plain run appended in this call": in the attempts after the first S, up to S + made
  unfoldable pub appended : (S made : ℕ) → ℕ
  appended S made = length (plain_run s (S + made)).frames - length (plain_run s S).frames

  -- "if the run hasn't ended, the attempt's step is a frame step and this call's frames leave fewer than F numbers of its frame memory"
  unfoldable pub no_room : (S frames made : ℕ) → Bool
  no_room S frames made =
      not (has_ended s (plain_run s (S + made)))
      && (frames_next s (plain_run s (S + made)).state
      && nat_lt (frames - appended S made * frame_count s) (frame_count s))

  -- "attempts are made one by one up to the budget. Before each, if .. the call answers full with the attempts made so far. When the budget is
  -- used up, it answers the outcome.": `left` of the budget are left, `made` are made
  unfoldable pub attempts : (S frames left made : ℕ) → Told
  attempts S frames zero made =
      record { made = made; reply = ran (outcome_of s (plain_run s (S + made))) (appended S made) }
  attempts S frames (suc left) made =
      cond (no_room S frames made)
      (record { made = made; reply = full made (appended S made) })
      (attempts S frames left (made + 1))

  -- an advance after S attempts: "A refusal changes nothing. Otherwise attempts are made"
  unfoldable pub told : (S : ℕ) → Fed → Told
  told S c =
      cond (too_short s c.state c.work)
      (record { made = 0; reply = refused 11 })
      (cond (too_many (has_ended s (plain_run s S)) (plain_run s S).steps c.budget)
      (record { made = 0; reply = refused 14 })
      (attempts S c.frames c.budget 0))

  -- every advance of a list: "S rises by the attempts made"
  unfoldable pub tally : (S : ℕ) → List Fed → List Reply
  tally S [] = []
  tally S (c ∷ cs) = (told S c).reply ∷ tally (S + (told S c).made) cs
