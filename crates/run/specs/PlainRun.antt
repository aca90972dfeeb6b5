-- 01, "Plain run": the machine, its start, an attempt, and the run after so many attempts. Definitions only.
use Rattle.std.specs.Prelude.{ℕ, zero, suc, ◌+◌, Bool, true, false, cond, ◌&&◌, ◌||◌, List, [], ◌∷◌, ◌++◌, nat_le, Float}
use Rattle.std.specs.Prelude.{Option, None, Some}
use Rattle.physics.specs.State.{State}
use Rattle.run.specs.declared.settings.Settings.{Settings}
use Rattle.run.specs.Outcome.{Outcome, collapse, broke, timeout, spent}
use Rattle.run.specs.Model.{first_state, next_state, holds_nan, frames_next, frame_of, mass_at, is_late}

-- "Machine: state, steps, broken mark, frames."
pub record Machine : Type 0 where
  pub state : State
  pub steps : ℕ
  pub broken : Bool
  pub frames : List (List Float)

-- whether there is one
abbrev pub is_some : {A : Type 0} → Option A → Bool
is_some None = false
is_some (Some a) = true

-- f of what there is, else b
abbrev pub option : {A B : Type 0} → Option A → (A → B) → B → B
option None f b = b
option (Some a) f b = f a

module _ (s : Settings) where
  -- "a radial factor <= 0.01, or steps >= 1 with time > max time, or broken"
  unfoldable pub ended : State → ℕ → Bool → Bool
  ended a steps broken = is_some (mass_at a) || (nat_le 1 steps && is_late s a) || broken

  -- "Outcome: collapse with mass, else broken, else timeout, else spent."
  unfoldable pub outcome : State → ℕ → Bool → Outcome
  outcome a steps broken =
      option (mass_at a) collapse (cond broken broke (cond (nat_le 1 steps && is_late s a) timeout spent))

  abbrev pub has_ended : Machine → Bool
  has_ended m = ended m.state m.steps m.broken

  abbrev pub outcome_of : Machine → Outcome
  outcome_of m = outcome m.state m.steps m.broken

  -- "Start: the initial state, steps 0, its frame unless skipped."
  unfoldable pub start : Machine
  start =
      record {
        state = first_state s;
        steps = 0;
        broken = false;
        frames = cond s.skip [] (frame_of s (first_state s) ∷ []);
      }

  -- "An attempt does nothing if the run has ended .. Else the next state is computed; with a NaN in its time or any of its eight vectors
  -- only the broken mark is set .. Otherwise it replaces the state, steps rises by 1, and a frame step appends a frame."
  unfoldable pub attempt : Machine → Machine
  attempt m =
      let n = next_state s m.state in
      cond (has_ended m) m
      (cond (holds_nan n)
      (record { state = m.state; steps = m.steps; broken = true; frames = m.frames })
      (record {
        state = n;
        steps = m.steps + 1;
        broken = m.broken;
        frames = cond (frames_next s m.state) (m.frames ++ frame_of s n ∷ []) m.frames;
      }))

  -- the plain run after so many attempts
  unfoldable pub plain_run : ℕ → Machine
  plain_run zero = start
  plain_run (suc k) = attempt (plain_run k)
