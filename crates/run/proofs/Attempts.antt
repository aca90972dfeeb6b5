-- The loop of an advance: its invariant, and its three ends.
use Rattle.std.proofs.Common.{◌≡◌, ℕ, suc, ◌+◌, ◌-◌, ◌*◌, ◌^◌, ◌<◌, ◌≤◌, Bool, true, false, cond, ◌&&◌, ◌||◌, eqb, ltb, List, [], ◌∷◌, ◌++◌, length, drop, sym, refl, ap, ◌∙◌, ap₂, append-nil, suc-mul, add-one, arith, length-append, ltb-false, ne_eqb}
use mathlib.Core.Bool.{false≢true}
use mathlib.Core.List.{flatten}
use Rattle.std.specs.Prelude.{None, Result, Ok}
use lib.Ieee.{Float}
use Rattle.vectors.specs.Grid.{points_of}
use Rattle.vectors.specs.Memory.{put}
use Rattle.physics.specs.State.{State, lay_out}
use Rattle.physics.specs.StateLaws.{Sized, sized_state_in, length-lay_out, state_in-put}
use Rattle.run.specs.declared.settings.Settings.{Settings}
use Rattle.run.specs.declared.settings.Record.{Record}
use Rattle.run.specs.declared.adaptive_time_step.TimeStep.{TimeStep}
use Rattle.run.specs.declared.live.Live.{Live}
use Rattle.run.specs.declared.outcome.Outcome.{Outcome}
use Rattle.run.specs.declared.refusal.Refusal.{Refusal}
use Rattle.run.specs.declared.simulate.Answer.{Answer}
use Rattle.run.specs.declared.simulate.Answer.TheVariants as answer
use Rattle.run.specs.Outcome as run-outcome
use Rattle.run.specs.Outcome.{meant_by}
use Rattle.run.specs.Model.{work_count, frame_count, next_state, holds_nan, frames_next, frame_of}
use Rattle.run.specs.PlainRun.{Machine, has_ended, outcome_of, attempt}
use Rattle.run.specs.PlainRunLaws.{after, attempt_after, Formed, attempt_formed}
use Rattle.run.specs.Tally.{Reply, full, ran}
use Rattle.run.specs.Calls.{record_of, machine_of, with_state, with_frames, is_full, Stop, attempts_from, AfterAdvance, left_by, is_idle, advance_refusal, advance_of, advance_uses}
use Rattle.run.specs.CallsLaws.{from_full, from_more, from_ended}
use Rattle.run.specs.FrameLaws.{none, put_nothing, put_again, put_frames, length-put_front, length_frames}
use Rattle.run.specs.Answers.{ClockOf, state_now, machine_in, lacks_room, CanAttempt, SameMemories, Attempted, AdvanceLeaves, reply_of}
use Rattle.run.proofs.Leaves.{time_in}
use Rattle.run.proofs.Refusals.{taken}
use Rattle.run.proofs.OneAttempt.{keeps_state}

-- ---- one attempt of a machine
module _ (s : Settings) (room : ℕ) (m : Machine) where
  attempt_steps_most : (attempt s m).steps ≤ m.steps + 1
  unfolding attempt
  attempt_steps_most = go (has_ended s m) (holds_nan (next_state s m.state)) (frames_next s m.state)
    where
      n : State
      n = next_state s m.state

      go :
          (e h f : Bool) →
          (cond e m
          (cond h
          (record { state = m.state; steps = m.steps; broken = true; frames = m.frames })
          (record { state = n; steps = m.steps + 1; broken = m.broken; frames = cond f (m.frames ++ frame_of s n ∷ []) m.frames }))
          ).steps
          ≤ m.steps + 1
      go true h f = omega arith
      go false true f = omega arith
      go false false f = omega arith

  -- a run that has not ended is full by its next frame alone
  full_test :
      has_ended s m ≡ false → is_full s room m ≡ (frames_next s m.state && ltb (room - length m.frames * frame_count s) (frame_count s))
  unfolding is_full
  full_test e = rw e

  -- a frame that is due has room
  due_room :
      (f : Bool) → (f && ltb (room - length m.frames * frame_count s) (frame_count s)) ≡ false → length m.frames * frame_count s ≤ room → f ≡ true →
      length m.frames * frame_count s + frame_count s ≤ room
  due_room f e h t =
      let g : ltb (room - length m.frames * frame_count s) (frame_count s) ≡ false = rw t at e in
      omega (arith, ltb-false (room - length m.frames * frame_count s) (frame_count s) g)

  attempt_fits :
      has_ended s m ≡ false → is_full s room m ≡ false → length m.frames * frame_count s ≤ room →
      length (attempt s m).frames * frame_count s ≤ room
  unfolding attempt
  attempt_fits e g h = rw e (go (holds_nan n) (frames_next s m.state) (due_room (frames_next s m.state) (sym (full_test e) ∙ g) h))
    where
      n : State
      n = next_state s m.state

      go :
          (b f : Bool) → (f ≡ true → length m.frames * frame_count s + frame_count s ≤ room) →
          length
          (cond {A = Machine} b
          (record { state = m.state; steps = m.steps; broken = true; frames = m.frames })
          (record { state = n; steps = m.steps + 1; broken = m.broken; frames = cond f (m.frames ++ frame_of s n ∷ []) m.frames })
          ).frames
          * frame_count s
          ≤ room
      go true f k = h
      go false false k = h
      go false true k =
          let l : length (m.frames ++ frame_of s n ∷ []) ≡ suc (length m.frames) =
          length-append m.frames (frame_of s n ∷ []) ∙ add-one (length m.frames) in
          rw (l, suc-mul) (k refl)

-- the count of attempts fits 32 bits
pub made_fits : (made budget : ℕ) → made < budget → budget < 2 ^ 32 → made + 1 < 2 ^ 32
made_fits made budget h g = omega arith

-- the machine without its frames
abbrev fresh : Machine → Machine
fresh m = record { state = m.state; steps = m.steps; broken = m.broken; frames = [] }

-- its attempt, with the frames before it
attempt_fresh : (s : Settings) (m : Machine) → attempt s m ≡ after s (attempt s (fresh m)) m.frames
attempt_fresh s m =
    ap (attempt s)
    (ap (λ (fs : List (List Float)). record { state = m.state; steps = m.steps; broken = m.broken; frames = fs }) (sym (append-nil m.frames)))
    ∙ attempt_after s (fresh m) m.frames

module _ (a : Live) (budget : ℕ) where
  abbrev run : Record
  run = a.run

  abbrev state₀ : List Float
  state₀ = a.state.now

  abbrev work₀ : List Float
  work₀ = a.work.now

  abbrev frames₀ : List Float
  frames₀ = a.frames.now

  abbrev s : Settings
  s = run.settings

  abbrev F : ℕ
  F = frame_count s

  abbrev from : ℕ → ℕ → Machine → Stop
  from left made m = attempts_from s (length frames₀) left made m

  -- the code holds the machine: its record, its count of frames, state memory and frame memory
  pub record Holds (m : Machine) (live : Live) : Type 0 where
    pub formed : Formed s m
    pub run_is : live.run ≡ record_of s m
    pub count_is : live.count ≡ length m.frames
    pub state_is : live.state.now ≡ with_state m.state state₀
    pub frames_is : live.frames.now ≡ with_frames m.frames frames₀
    pub fits : length m.frames * F ≤ length frames₀

  -- the invariant: the attempts from here on end as those from the start
  pub record GoesOn (live : Live) (made : ℕ) : Type 0 where
    pub memories : SameMemories a live
    pub machine : Machine
    pub same : from (budget - made) made machine ≡ from budget 0 (machine_of run state₀)
    pub holds : Holds machine live
    pub few : made ≤ budget
    pub steps : has_ended s machine ≡ false → machine.steps + budget ≤ 2147483647 + made
    pub rest : drop (work_count s) live.work.now ≡ drop (work_count s) work₀
    -- where nothing is attempted, work memory is as it was
    pub quiet : is_idle run state₀ budget ≡ true → (live.work.now ≡ work₀) × ((eqb budget 0 || has_ended s machine) ≡ true)

  module _ (given : (a.count ≡ 0) × (advance_refusal run state₀ (length work₀) budget ≡ None)) where
    start_run : run ≡ record_of s (machine_of run state₀)
    start_run =
        ap (λ (t : Float). record { settings = s; time = t; steps = run.steps; broken = run.broken }) (sym (time_in s run.time state₀))

    no_frames : frames₀ ≡ with_frames [] frames₀
    unfolding flatten
    no_frames = sym (put_nothing 0 frames₀)

    pub starts : GoesOn a 0
    starts =
        record {
          memories = record { state = refl; work = refl; frames = refl };
          machine = machine_of run state₀;
          same = ap (λ (k : ℕ). from k 0 (machine_of run state₀)) (let z : budget - 0 ≡ budget = omega arith in z);
          holds =
              record {
                formed = record { sized = sized_state_in (points_of s.level) run.time state₀ a.state_fits; framed = none };
                run_is = start_run;
                count_is = given.0;
                state_is = keeps_state s run.time state₀;
                frames_is = no_frames;
                fits = omega arith;
              };
          few = omega arith;
          steps = λ e. let few = (taken run state₀ (length work₀) budget given.1).few e in omega arith;
          rest = refl;
          quiet = λ e. (refl, e);
        }

    -- ---- what the machine says of the code's variables
    module _ {m : Machine} {live : Live} (h : Holds m live) where
      sized : Sized (points_of s.level) m.state
      sized = h.formed.sized

      pub state_long : length live.state.now ≡ length state₀
      state_long = ap length h.state_is ∙ length-put_front (lay_out m.state) state₀ (omega (arith, length-lay_out sized, a.state_fits))

      pub frames_long : length live.frames.now ≡ length frames₀
      frames_long = ap length h.frames_is ∙ length_frames h.formed.framed frames₀ h.fits

      pub settings_are : live.run.settings ≡ s
      settings_are = ap (λ (r : Record). r.settings) h.run_is

      -- anything that the code learns of its record and its state memory
      by_machine : {A : Type 0} (f : Settings → Machine → A) → f live.run.settings (machine_in live) ≡ f s (fresh m)
      by_machine f =
          ap₂ (λ (r : Record) (l : List Float). f r.settings (machine_of r l)) h.run_is h.state_is
          ∙ ap (λ (a : State). f s (record { state = a; steps = m.steps; broken = m.broken; frames = [] })) (state_in-put sized state₀)

      pub ended_is : has_ended live.run.settings (machine_in live) ≡ has_ended s m
      ended_is = by_machine (λ (q : Settings) (p : Machine). has_ended q p)

      pub outcome_is : ran (outcome_of live.run.settings (machine_in live)) live.count ≡ ran (outcome_of s m) (length m.frames)
      outcome_is = ap₂ ran (by_machine (λ (q : Settings) (p : Machine). outcome_of q p)) h.count_is

      frames_next_lem : frames_next live.run.settings (state_now live) ≡ frames_next s m.state
      frames_next_lem = by_machine (λ (q : Settings) (p : Machine). frames_next q p.state)

      tested_is : (framed : Bool) → (framed && lacks_room live) ≡ (framed && ltb (length frames₀ - length m.frames * F) F)
      tested_is framed = rw (settings_are, h.count_is, frames_long)

      pub full_is :
          (clock : TimeStep) → ClockOf live.run.settings (state_now live) clock →
          has_ended s m ≡ false → (clock.framed && lacks_room live) ≡ is_full s (length frames₀) m
      full_is clock c e =
          tested_is clock.framed
          ∙ ap (λ (b : Bool). b && ltb (length frames₀ - length m.frames * F) F) (c.framed ∙ frames_next_lem)
          ∙ sym (full_test s (length frames₀) m e)

      pub live_room :
          (framed : Bool) → (framed && lacks_room live) ≡ false → framed ≡ true →
          (live.count + 1) * frame_count live.run.settings ≤ length live.frames.now
      live_room framed e t =
          rw (settings_are, h.count_is, frames_long) (let k = due_room s (length frames₀) m framed (sym (tested_is framed) ∙ e) h.fits t in omega arith)

      -- an attempt of the code is an attempt of the machine
      pub holds_on : {b : Live} → Attempted live b → has_ended s m ≡ false → is_full s (length frames₀) m ≡ false → Holds (attempt s m) b
      holds_on {b} d e g =
          record {
            formed = attempt_formed s a.sound m h.formed;
            run_is =
                d.record_is
                ∙ by_machine (λ (q : Settings) (p : Machine). record_of q (attempt q p))
                ∙ ap (record_of s) (sym after_fresh);
            count_is =
                d.count_is
                ∙ ap₂ ◌+◌ h.count_is (by_machine (λ (q : Settings) (p : Machine). length (attempt q p).frames))
                ∙ sym (length-append m.frames (attempt s (fresh m)).frames)
                ∙ ap (λ (p : Machine). length p.frames) (sym after_fresh);
            state_is =
                d.memory_is
                ∙ ap₂ (λ (x : State) (l : List Float). with_state x l) (by_machine (λ (q : Settings) (p : Machine). (attempt q p).state)) h.state_is
                ∙ put_again (lay_out m.state) state₀ (lay_out (attempt s (fresh m)).state)
                (length-lay_out fresh_formed.sized ∙ sym (length-lay_out sized))
                ∙ ap (λ (p : Machine). with_state p.state state₀) (sym after_fresh);
            frames_is =
                d.frames_is
                ∙ (λ i. put (h.count_is i * frame_count (settings_are i)) (flatten (by_machine (λ (q : Settings) (p : Machine). (attempt q p).frames) i)) (h.frames_is i))
                ∙ put_frames h.formed.framed (attempt s (fresh m)).frames frames₀
                ∙ ap (λ (p : Machine). with_frames p.frames frames₀) (sym after_fresh);
            fits = attempt_fits s (length frames₀) m e g h.fits;
          }
        where
          after_fresh : attempt s m ≡ after s (attempt s (fresh m)) m.frames
          after_fresh = attempt_fresh s m

          fresh_formed : Formed s (attempt s (fresh m))
          fresh_formed = attempt_formed s a.sound (fresh m) (record { sized = h.formed.sized; framed = none })

      -- what is left where the attempts end with this machine
      pub ends_with : (q q' : Reply) → q ≡ q' →
          ◌≡◌ {A = AfterAdvance}
          (record { reply = q; record' = live.run; memory = live.state.now; frames = live.frames.now })
          (left_by s state₀ frames₀ (record { reply = q'; machine = m }))
      ends_with q q' e = λ i. record { reply = e i; record' = h.run_is i; memory = h.state_is i; frames = h.frames_is i }

    -- ---- the loop
    module _ {live : Live} {made : ℕ} (i : GoesOn live made) where
      abbrev m : Machine
      m = i.machine

      one_less : made < budget → budget - made ≡ suc (budget - (made + 1))
      one_less h = omega arith

      steps_fit : made < budget → has_ended s m ≡ false → live.run.steps + 1 < 2 ^ 32
      steps_fit h e = omega (arith, i.steps e, ap (λ (r : Record). r.steps) i.holds.run_is)

      pub can_attempt :
          made < budget → has_ended s m ≡ false → (clock : TimeStep) →
          ClockOf live.run.settings (state_now live) clock →
          (clock.framed && lacks_room live) ≡ false → CanAttempt live clock
      can_attempt h e clock c t =
          record { timed = c; going = ended_is i.holds ∙ e; counted = steps_fit h e; room = live_room i.holds clock.framed t }

      pub goes_on_lem :
          made < budget → has_ended s m ≡ false → is_full s (length frames₀) m ≡ false →
          {b : Live} → Attempted live b → GoesOn b (made + 1)
      goes_on_lem h e g {b} d =
          record {
            memories = record {
              state = d.memories.state ∙ i.memories.state;
              work = d.memories.work ∙ i.memories.work;
              frames = d.memories.frames ∙ i.memories.frames;
            };
            machine = attempt s m;
            same =
                sym (from_more s (length frames₀) (budget - (made + 1)) made m g)
                ∙ ap (λ (k : ℕ). from k made m) (sym (one_less h))
                ∙ i.same;
            holds = holds_on i.holds d e g;
            few = omega arith;
            steps = λ f. omega (arith, i.steps e, attempt_steps_most s (length frames₀) m);
            rest = rw (settings_are i.holds) at d.work_is ∙ i.rest;
            quiet = λ q. absurd (busy (i.quiet q).1);
          }
        where
          busy : (eqb budget 0 || has_ended s m) ≡ true → ⊥
          busy k =
              false≢true
              (sym (ap₂ ◌||◌ (ne_eqb budget 0 (λ (z : budget ≡ 0). omega arith)) e) ∙ k)

      -- the three ends
      ended_at : has_ended s m ≡ true → record { reply = ran (outcome_of s m) (length m.frames); machine = m } ≡ from budget 0 (machine_of run state₀)
      ended_at e = sym (from_ended s (length frames₀) (budget - made) made m e) ∙ i.same

      full_at :
          made < budget → is_full s (length frames₀) m ≡ true →
          record { reply = full made (length m.frames); machine = m } ≡ from budget 0 (machine_of run state₀)
      full_at h g =
          sym (from_full s (length frames₀) (budget - (made + 1)) made m g)
          ∙ ap (λ (k : ℕ). from k made m) (sym (one_less h))
          ∙ i.same

      spent_at :
          budget ≤ made → record { reply = ran (outcome_of s m) (length m.frames); machine = m } ≡ from budget 0 (machine_of run state₀)
      unfolding attempts_from
      spent_at h = ap (λ (k : ℕ). from k made m) (let z : 0 ≡ budget - made = omega (arith, i.few) in z) ∙ i.same

      abbrev leaves : Reply → AfterAdvance
      leaves q = record { reply = q; record' = live.run; memory = live.state.now; frames = live.frames.now }

      -- an advance that ends with this answer
      ends : (answer : Result Answer Refusal) → leaves (reply_of answer) ≡ left_by s state₀ frames₀ (from budget 0 (machine_of run state₀)) → AdvanceLeaves a budget answer live
      unfolding advance_of advance_uses
      ends answer e = record { memories = i.memories; left = rw given.1 e; work_is = rw given.1 work_left }
        where
          -- work memory, wherever the loop ends
          work_left :
              drop (cond (is_idle run state₀ budget) 0 (work_count s)) live.work.now ≡ drop (cond (is_idle run state₀ budget) 0 (work_count s)) work₀
          work_left = go (is_idle run state₀ budget) refl
            where
              go : (b : Bool) → is_idle run state₀ budget ≡ b → drop (cond b 0 (work_count s)) live.work.now ≡ drop (cond b 0 (work_count s)) work₀
              go true h = (i.quiet h).0
              go false h = i.rest

      pub ends_ended :
          true ≡ has_ended live.run.settings (machine_in live) → (o : Outcome) →
          meant_by o ≡ outcome_of live.run.settings (machine_in live) → AdvanceLeaves a budget (Ok (answer.Ran o live.count)) live
      ends_ended e o h =
          ends _ (ends_with i.holds _ _ (ap (λ (x : run-outcome.Outcome). ran x live.count) h ∙ outcome_is i.holds) ∙ ap (left_by s state₀ frames₀) (ended_at (sym (ended_is i.holds) ∙ sym e)))

      pub ends_full :
          made < budget → false ≡ has_ended live.run.settings (machine_in live) → (clock : TimeStep) →
          ClockOf live.run.settings (state_now live) clock →
          true ≡ (clock.framed && lacks_room live) → AdvanceLeaves a budget (Ok (answer.Full made live.count)) live
      ends_full h e clock c t =
          ends _ (ends_with i.holds _ _ (ap (full made) i.holds.count_is)
          ∙ ap (left_by s state₀ frames₀)
          (full_at h (sym (full_is i.holds clock c (sym (ended_is i.holds) ∙ sym e)) ∙ sym t)))

      pub ends_spent :
          budget ≤ made → (o : Outcome) → meant_by o ≡ outcome_of live.run.settings (machine_in live) → AdvanceLeaves a budget (Ok (answer.Ran o live.count)) live
      ends_spent h o e = ends _ (ends_with i.holds _ _ (ap (λ (x : run-outcome.Outcome). ran x live.count) e ∙ outcome_is i.holds) ∙ ap (left_by s state₀ frames₀) (spent_at h))
