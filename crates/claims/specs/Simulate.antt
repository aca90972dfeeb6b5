-- simulate.rs, lines 17 to 50, transcribed; as long as no attempt has broken the run, 01's plain run is that loop: `simulate_is`,
-- in proofs/Simulate.antt.
-- Left out: lines 15, 33 to 41 and 47 (wall clock and logger), and 52 to 61, which hand the variables on. The count is an i32 in the file and a
-- whole number here. Where 01 breaks the run, the file panics for a NaN in the field (state_builder.rs, line 36) and goes on for any other.
use Prim.Native.Nat.{ℕ, zero, suc, ◌+◌}
use Rattle.std.specs.Prelude.{Bool, ◌&&◌, List, [], ◌∷◌, ◌++◌, leb, Float}
use Rattle.std.proofs.Math.Bool.{false, cond, not}
use Rattle.std.specs.Prelude.{Option}
use Rattle.std.specs.Float.Ieee.{lt}
use Rattle.physics.specs.State.{State}
use Rattle.run.specs.declared.settings.Settings.{Settings}
use Rattle.run.specs.Model.{first_state, delta_next, frames_next, step_of, frame_of, mass_at, is_late}
use Rattle.run.specs.PlainRun.{Machine, is_some}

-- ---- the file
-- its variables, what `save_state` was given so far, and whether `break` was reached
pub record Variables : Type 0 where
  pub num_steps : ℕ
  pub black_hole_mass : Option Float
  pub state : State
  pub saved : List (List Float)
  pub left_by_break : Bool

module _ (s : Settings) where
  -- lines 17 to 24: `num_steps = 0`, the initial state and its mass, `if !skip_state_output { save_state }`
  unfoldable pub before_loop : Variables
  before_loop =
      record {
        num_steps = 0;
        black_hole_mass = mass_at (first_state s);
        state = first_state s;
        saved = cond (not s.skip) (frame_of s (first_state s) ∷ []) [];
        left_by_break = false;
      }

  -- lines 27 to 49: `num_steps += 1` (27), `TimeStep::next` of the state so far (28), `rk4_step` by its delta (30), the new state's mass (31),
  -- `if is_frame_boundary && !skip_state_output { save_state }` of the new state (43 to 45), `if state.time > max_time { break }` (46 to 49)
  unfoldable pub loop_body : Variables → Variables
  loop_body v =
      let delta = delta_next s v.state in
      let is_frame_boundary = frames_next s v.state in
      let state = step_of s delta v.state in
      record {
        num_steps = v.num_steps + 1;
        black_hole_mass = mass_at state;
        state = state;
        saved = cond (is_frame_boundary && not s.skip) (v.saved ++ frame_of s state ∷ []) v.saved;
        left_by_break = lt s.max_time state.time;
      }

  -- line 26: `while black_hole_mass.is_none()`, where no `break` was reached
  abbrev pub goes_on : Variables → Bool
  goes_on v = not (is_some v.black_hole_mass) && not v.left_by_break

  -- the variables after k turns of the loop, or as it left them
  unfoldable pub simulated : ℕ → Variables
  simulated zero = before_loop
  simulated (suc k) = cond (goes_on (simulated k)) (loop_body (simulated k)) (simulated k)

  -- ---- the plain run
  -- the variables that a machine of the plain run stands for
  unfoldable pub variables_of : Machine → Variables
  variables_of m =
      record {
        num_steps = m.steps;
        black_hole_mass = mass_at m.state;
        state = m.state;
        saved = m.frames;
        left_by_break = leb 1 m.steps && is_late s m.state;
      }
