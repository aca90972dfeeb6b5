-- A begin from what the functions ensure that it calls, and what a call says of its work memory.
use Rattle.std.proofs.Common.{le_trans, le_of_eq, ◌≡◌, ℕ, ◌≤◌, Bool, true, false, cond, List, [], ◌∷◌, length, sym, refl, ap, ◌∙◌, append-nil}
use mathlib.Core.List.{flatten}
use Rattle.std.specs.Prelude.{Option, None, Some}
use lib.Ieee.{Float}
use Rattle.vectors.specs.Memory.{part, put}
use Rattle.physics.specs.State.{State}
use Rattle.run.specs.declared.settings.Settings.{Settings}
use Rattle.run.specs.declared.settings.Record.{Record}
use Rattle.run.specs.Model.{cell_count, work_count, state_in, first_state, holds_nan, frame_of}
use Rattle.run.specs.PlainRun.{Machine, option, start}
use Rattle.run.specs.Calls.{record_of, with_state, with_frames, refused_begin, accepted, AfterBegin, lent_refusal, begin_refusal, begin_of, begin_uses, is_idle, advance_refusal, advance_uses}
use Rattle.run.specs.DemandProof.{begin_some, begin_none}
use Rattle.run.specs.FrameLaws.{put_nothing}
use Rattle.run.specs.Answers.{next_in}
use Rattle.run.proofs.Leaves.{time_in}
use Rattle.run.proofs.Refusals.{lent_all}
use Rattle.run.proofs.OneAttempt.{stored_is, stored_state}

-- ---- work memory
pub advance_uses_lem :
    (run : Record) (memory : List Float) (work budget : ℕ) → advance_refusal run memory work budget ≡ None →
    advance_uses run memory work budget ≡ cond (is_idle run memory budget) 0 (work_count run.settings)
unfolding advance_uses
advance_uses_lem run memory work budget e = rw e

pub begin_uses_lem : (s : Settings) (state work frames : ℕ) → lent_refusal s state work frames ≡ None → begin_uses s state work frames ≡ work_count s
unfolding begin_uses
begin_uses_lem s state work frames e = rw e

-- ---- the initial state
module _ (s : Settings) (memory work frames : List Float) where
  module _ (given : lent_refusal s (length memory) (length work) (length frames) ≡ None)
      (t : Float) (w : List Float) (made : next_in s t w ≡ first_state s) (long : length w ≡ length work) where
    wide : work_count s ≤ length w
    wide = le_trans (lent_all s (length memory) (length work) (length frames) given).lent.work_fits (le_of_eq (sym long))

    refusal_is : (b : Bool) → b ≡ holds_nan (next_in s t w) → begin_refusal s (length memory) (length work) (length frames) ≡ cond b (Some 13) None
    unfolding begin_refusal
    refusal_is b h =
        ap (λ (o : Option ℕ). option o Some (cond (holds_nan (first_state s)) (Some 13) None)) given
        ∙ ap (λ (x : Bool). cond x (Some 13) None) (ap holds_nan (sym made) ∙ sym h)

    -- an initial state that holds a NaN
    pub begin_nan :
        holds_nan (next_in s t w) ≡ true →
        ◌≡◌ {A = AfterBegin} (record { answer = refused_begin 13; memory = memory; frames = frames }) (begin_of s memory work frames)
    begin_nan h = sym (begin_some s memory work frames 13 (refusal_is true (sym h)))

    -- and one that holds none, stored in state memory
    module _ (fine : holds_nan (next_in s t w) ≡ false) (memory' : List Float) (stored : memory' ≡ put 0 (part (cell_count s) (cell_count s) w) memory) where
      memory_is : memory' ≡ with_state (first_state s) memory
      memory_is = stored ∙ stored_is s t w memory wide ∙ ap (λ (a : State). with_state a memory) made

      time_is : t ≡ (first_state s).time
      time_is = sym (time_in s t (part (cell_count s) (cell_count s) w)) ∙ ap (λ (a : State). a.time) made

      -- the machine at the start, by whether frames are skipped
      abbrev started : Bool → Machine
      started skip = record { state = first_state s; steps = 0; broken = false; frames = cond skip [] (frame_of s (first_state s) ∷ []) }

      start_is : started s.skip ≡ start s
      unfolding start
      start_is = refl

      begins :
          (skip : Bool) → s.skip ≡ skip → (frames' : List Float) → frames' ≡ with_frames (started skip).frames frames →
          ◌≡◌ {A = AfterBegin}
          (record {
            answer = accepted (record { settings = s; time = t; steps = 0; broken = false }) (length (started skip).frames);
            memory = memory';
            frames = frames';
          })
          (begin_of s memory work frames)
      begins skip k frames' hf =
          (λ i.
          record {
            answer = accepted (record { settings = s; time = time_is i; steps = 0; broken = false }) (length (started skip).frames);
            memory = memory_is i;
            frames = hf i;
          })
          ∙ ap
          (λ (m : Machine).
          record {
            answer = accepted (record_of s m) (length m.frames);
            memory = with_state m.state memory;
            frames = with_frames m.frames frames;
          })
          (ap started (sym k) ∙ start_is)
          ∙ sym (begin_none s memory work frames (refusal_is false (sym fine)))

      pub begin_skipped :
          s.skip ≡ true →
          ◌≡◌ {A = AfterBegin}
          (record { answer = accepted (record { settings = s; time = t; steps = 0; broken = false }) 0; memory = memory'; frames = frames })
          (begin_of s memory work frames)
      unfolding flatten
      begin_skipped k = begins true k frames (sym (put_nothing 0 frames))

      pub begin_framed :
          s.skip ≡ false → (frames' : List Float) → frames' ≡ put 0 (frame_of s (state_in s t memory')) frames →
          ◌≡◌ {A = AfterBegin}
          (record { answer = accepted (record { settings = s; time = t; steps = 0; broken = false }) 1; memory = memory'; frames = frames' })
          (begin_of s memory work frames)
      unfolding flatten
      begin_framed k frames' hf =
          begins false k frames'
          (hf
          ∙ ap (λ (a : State). put 0 (frame_of s a) frames) (ap (state_in s t) stored ∙ stored_state s t w memory wide ∙ made)
          ∙ ap (λ (f : List Float). put 0 f frames) (sym (append-nil (frame_of s (first_state s)))))
