-- 02, request 1, "Searches are skip runs": a run with skip, by one begin and one advance with no frame memory. What it answers, by the plain
-- run alone, and how much of state and work memory it may leave changed. Definitions only.
use Rattle.std.specs.Prelude.{◌≡◌, ℕ, true, cond, List, length, drop, Float}
use Rattle.run.specs.declared.settings.Settings.{Settings}
use Rattle.run.specs.declared.settings.Record.{Record}
use Rattle.run.specs.Model.{cell_count, work_count}
use Rattle.run.specs.Outcome.{Outcome, spent}
use Rattle.run.specs.PlainRun.{option, has_ended, outcome_of, start, plain_run}
use Rattle.run.specs.Tally.{Reply, refused, full, ran, too_many}
use Rattle.run.specs.Calls.{lent_refusal, begin_refusal}

-- these settings with this amplitude and skip; their own amplitude and skip are not looked at
abbrev pub skipping : Settings → Float → Settings
skipping s a =
    record { amplitude = a; level = s.level; max_time = s.max_time; interval = s.interval; dx_level = s.dx_level; skip = true }

-- what a run answers: the number that begin refused with, the number that advance refused with, or the outcome with steps and time
pub data Ran : Type 0 where
  not_begun : ℕ → Ran
  not_run : ℕ → Ran
  ran_to : Outcome → (steps : ℕ) → (time : Float) → Ran

-- the run at this amplitude, with memories of so many numbers: begin's refusal, else 14, else the plain run after `budget` attempts
unfoldable pub ran_at : Settings → Float → (state work budget : ℕ) → Ran
ran_at s a state work budget =
    let t = skipping s a in
    option (begin_refusal t state work 0) not_begun
    (cond (too_many (has_ended t (start t)) 0 budget) (not_run 14)
    (ran_to (outcome_of t (plain_run t budget)) (plain_run t budget).steps (plain_run t budget).state.time))

-- how many numbers of a memory may be changed, `count` of which a run uses: none where begin refuses before the initial state is made (5, 6, 7,
-- 11), else `count`; the same for every amplitude
unfoldable pub touched : Settings → (state work count : ℕ) → ℕ
touched s state work count = option (lent_refusal (skipping s s.amplitude) state work 0) (λ n. 0) count

-- what an advance's reply says, with the record that it answered; with skip it is never full
abbrev pub ran_by : Reply → Record → Ran
ran_by (refused n) r = not_run n
ran_by (full a k) r = ran_to spent r.steps r.time
ran_by (ran o k) r = ran_to o r.steps r.time

-- the numbers of state and work memory behind those that a run uses are those from before
pub record Untouched (s : Settings) (state work state' work' : List Float) : Type 0 where
  pub state_is :
      drop (touched s (length state) (length work) (cell_count s)) state'
      ≡ drop (touched s (length state) (length work) (cell_count s)) state
  pub work_is :
      drop (touched s (length state) (length work) (work_count s)) work'
      ≡ drop (touched s (length state) (length work) (work_count s)) work

-- a run that answered so, and left the memories so
pub record SkipRan (s : Settings) (a : Float) (budget : ℕ) (state work : List Float) (r : Ran) (state' work' : List Float) : Type 0 where
  pub answer : r ≡ ran_at s a (length state) (length work) budget
  pub untouched : Untouched s state work state' work'
