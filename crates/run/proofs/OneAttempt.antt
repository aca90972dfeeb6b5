-- One attempt, from what the functions ensure that it calls.
use Rattle.std.proofs.Common.{◌≡◌, ℕ, ◌+◌, ◌*◌, ◌^◌, ◌<◌, ◌≤◌, Bool, true, false, cond, List, [], ◌∷◌, ◌++◌, length, drop, sym, ap, ◌∙◌, ap₂, append-nil, add-zero, le-mul_of_pos_right, arith}
use mathlib.Core.List.{flatten}
use lib.Ieee.{Float}
use Rattle.vectors.specs.Grid.{points_of}
use Rattle.vectors.specs.Memory.{part, put}
use Rattle.vectors.specs.MemoryLaws.{length_part}
use Rattle.physics.specs.State.{State}
use Rattle.physics.specs.StateLaws.{Sized, lay_out-state_in, sized_state_in, state_in-put}
use Rattle.run.specs.declared.settings.Settings.{Settings}
use Rattle.run.specs.declared.settings.Record.{Record}
use Rattle.run.specs.declared.adaptive_time_step.TimeStep.{TimeStep}
use Rattle.run.specs.declared.live.Live.{Live}
use Rattle.run.specs.Model.{cell_count, work_count, frame_count, state_in, step_of, next_state, holds_nan, frames_next, frame_of}
use Rattle.run.specs.PlainRun.{Machine}
use Rattle.run.specs.PlainRunLaws.{attempt_breaks, attempt_steps}
use Rattle.run.specs.Calls.{record_of, machine_of, with_state}
use Rattle.run.specs.FrameLaws.{put_nothing, put_self}
use Rattle.run.specs.Answers.{next_in, CanAttempt, SameMemories, attempted, Attempted}
use Rattle.run.proofs.Leaves.{time_in, lay_out_next}

-- a state memory keeps its numbers where its own state is put
pub keeps_state : (s : Settings) (time : Float) (memory : List Float) → memory ≡ with_state (state_in s time memory) memory
keeps_state s time memory =
    sym
    (ap (λ (xs : List Float). put 0 xs memory) (lay_out-state_in (points_of s.level) time memory) ∙ put_self (cell_count s) memory)

-- a state that was made in work memory, and stored
module _ (s : Settings) (time : Float) (work memory : List Float) (wide : work_count s ≤ length work) where
  next_sized : Sized (points_of s.level) (next_in s time work)
  next_sized =
      sized_state_in (points_of s.level) time (part (cell_count s) (cell_count s) work)
      (omega (arith, length_part (cell_count s) (cell_count s) work (omega arith)))

  pub stored_is : put 0 (part (cell_count s) (cell_count s) work) memory ≡ with_state (next_in s time work) memory
  stored_is = ap (λ (xs : List Float). put 0 xs memory) (sym (lay_out_next s work time))

  pub stored_state : state_in s time (put 0 (part (cell_count s) (cell_count s) work) memory) ≡ next_in s time work
  stored_state =
      ap (state_in s time) stored_is
      ∙ ap (λ (t : Float). state_in s t (with_state (next_in s time work) memory)) (sym (time_in s time (part (cell_count s) (cell_count s) work)))
      ∙ state_in-put next_sized memory

-- the places of frames fit a usize
pub count_fits : (count : ℕ) {F : ℕ} (l : ℕ) → 0 < F → (count + 1) * F ≤ l → l < 2 ^ 64 → count + 1 < 2 ^ 64
count_fits count l p h g = omega (arith, le-mul_of_pos_right (count + 1) p)

module _ (a : Live) (clock : TimeStep) (can : CanAttempt a clock) where
  abbrev run : Record
  run = a.run

  abbrev s : Settings
  s = run.settings

  abbrev memory : List Float
  memory = a.state.now

  abbrev work : List Float
  work = a.work.now

  abbrev frames : List Float
  frames = a.frames.now

  abbrev before : Machine
  before = machine_of run memory

  -- what is left, by the machine after the attempt
  left_by :
      {m : Machine} → attempted a ≡ m → {b : Live} → SameMemories a b → b.run ≡ record_of s m →
      b.count ≡ a.count + length m.frames → b.state.now ≡ with_state m.state memory →
      b.frames.now ≡ put (a.count * frame_count s) (flatten m.frames) frames → drop (work_count s) b.work.now ≡ drop (work_count s) work →
      Attempted a b
  left_by e same hr hc hm hf hw =
      record {
        memories = same;
        record_is = hr ∙ ap (record_of s) (sym e);
        count_is = hc ∙ ap (λ (m : Machine). a.count + length m.frames) (sym e);
        memory_is = hm ∙ ap (λ (m : Machine). with_state m.state memory) (sym e);
        frames_is = hf ∙ ap (λ (m : Machine). put (a.count * frame_count s) (flatten m.frames) frames) (sym e);
        work_is = hw;
      }

  no_frame : (at : ℕ) → frames ≡ put at (flatten []) frames
  unfolding flatten
  no_frame at = sym (put_nothing at frames)

  one_frame : (at : ℕ) (f : List Float) → put at f frames ≡ put at (flatten ([] ++ f ∷ [])) frames
  unfolding flatten
  one_frame at f = ap (λ (g : List Float). put at g frames) (sym (append-nil f))

  -- the next state is in work memory
  module _ (t : Float) (w : List Float)
      (made : next_in s t w ≡ step_of s clock.delta (state_in s run.time memory)) (kept : drop (work_count s) w ≡ drop (work_count s) work)
      (wide : work_count s ≤ length w) where
    next_is : next_in s t w ≡ next_state s before.state
    unfolding next_state
    next_is = made ∙ ap (λ (d : Float). step_of s d (state_in s run.time memory)) can.timed.delta

    -- `b` is what an attempt leaves: of a state that holds a NaN, the broken mark
    module _ {b : Live} (same : SameMemories a b) where
      pub attempted_broken :
          holds_nan (next_in s t w) ≡ true → b.run ≡ record { settings = s; time = run.time; steps = run.steps; broken = true } →
          b.state.now ≡ memory → b.count ≡ a.count → b.work.now ≡ w → b.frames.now ≡ frames → Attempted a b
      attempted_broken h hr hm hc hw hf =
          left_by (attempt_breaks s before can.going (ap holds_nan (sym next_is) ∙ h)) same
          (hr ∙ ap (λ (x : Float). record { settings = s; time = x; steps = run.steps; broken = true }) (sym (time_in s run.time memory)))
          (hc ∙ sym (add-zero a.count))
          (hm ∙ keeps_state s run.time memory)
          (hf ∙ no_frame (a.count * frame_count s))
          (ap (drop (work_count s)) hw ∙ kept)

      -- and of one that holds none, that state in state memory, its time, and one step more
      module _ (h : holds_nan (next_in s t w) ≡ false) (hr : b.run ≡ record { settings = s; time = t; steps = run.steps + 1; broken = run.broken })
          (hm : b.state.now ≡ put 0 (part (cell_count s) (cell_count s) w) memory) where
        steps_to : (x : Bool) → x ≡ frames_next s before.state →
            attempted a
            ≡ record {
              state = next_state s before.state;
              steps = run.steps + 1;
              broken = run.broken;
              frames = cond x ([] ++ frame_of s (next_state s before.state) ∷ []) [];
            }
        steps_to x f =
            attempt_steps s before can.going (ap holds_nan (sym next_is) ∙ h)
            ∙ ap
            (λ (x : Bool).
            record {
              state = next_state s before.state;
              steps = run.steps + 1;
              broken = run.broken;
              frames = cond x ([] ++ frame_of s (next_state s before.state) ∷ []) [];
            })
            (sym f)

        record_to : b.run ≡ record_of s (record { state = next_state s before.state; steps = run.steps + 1; broken = run.broken; frames = [] })
        record_to =
            hr
            ∙ ap (λ (x : Float). record { settings = s; time = x; steps = run.steps + 1; broken = run.broken })
            (sym (time_in s t (part (cell_count s) (cell_count s) w)) ∙ ap (λ (a : State). a.time) next_is)

        memory_to : b.state.now ≡ with_state (next_state s before.state) memory
        memory_to = hm ∙ stored_is s t w memory wide ∙ ap (λ (a : State). with_state a memory) next_is

        pub attempted_plain : clock.framed ≡ false → b.count ≡ a.count → b.work.now ≡ w → b.frames.now ≡ frames → Attempted a b
        attempted_plain f hc hw hf =
            left_by (steps_to false (sym f ∙ can.timed.framed)) same record_to (hc ∙ sym (add-zero a.count)) memory_to
            (hf ∙ no_frame (a.count * frame_count s)) (ap (drop (work_count s)) hw ∙ kept)

        pub attempted_framed :
            clock.framed ≡ true → b.count ≡ a.count + 1 → drop (work_count s) b.work.now ≡ drop (work_count s) w → {at : ℕ} → at ≡ a.count * frame_count s →
            b.frames.now ≡ put at (frame_of s (state_in s t b.state.now)) frames → Attempted a b
        attempted_framed f hc hw ha hf =
            left_by (steps_to true (sym f ∙ can.timed.framed)) same record_to hc memory_to
            (hf
            ∙ ap₂ (λ (k : ℕ) (a : State). put k (frame_of s a) frames) ha (ap (state_in s t) hm ∙ stored_state s t w memory wide ∙ next_is)
            ∙ one_frame (a.count * frame_count s) (frame_of s (next_state s before.state)))
            (hw ∙ kept)
