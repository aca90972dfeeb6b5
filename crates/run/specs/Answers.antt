-- What the contracts of src/ cite beside the definitions of 01: its numbers and values for each case of an answer, and where the code keeps
-- what the definitions speak of. Definitions only.
use Rattle.std.specs.Prelude.{◌≡◌, ℕ, ◌+◌, ◌-◌, ◌*◌, ◌^◌, ◌<◌, ◌≤◌, Bool, true, false, List, length, drop, nat_lt, Float}
use mathlib.Core.List.{flatten}
use Rattle.std.specs.Prelude.{None, Result, Ok, Err}
use Rattle.vectors.specs.Memory.{part, put}
use Rattle.physics.specs.State.{State}
use Rattle.run.specs.declared.settings.Settings.{Settings}
use Rattle.run.specs.declared.refusal.Refusal.{Refusal}
use Rattle.run.specs.declared.adaptive_time_step.TimeStep.{TimeStep}
use Rattle.run.specs.declared.simulate.Answer.{Answer}
use Rattle.run.specs.declared.simulate.Answer.TheVariants as answer
use Rattle.run.specs.declared.simulate.Advanced.{Advanced}
use Rattle.run.specs.declared.simulate.Begun.{Begun}
use Rattle.run.specs.declared.live.Live.{Live}
use Rattle.run.specs.declared.skip_run.Ended.{Ended}
use Rattle.run.specs.declared.skip_run.NotRun.{NotRun}
use Rattle.run.specs.declared.skip_run.NotRun.TheVariants as not_run-case
use Rattle.run.specs.Model.{fault_at, cell_count, work_count, frame_count, state_in, delta_next, frames_next}
use Rattle.run.specs.Outcome.{meant_by}
use Rattle.run.specs.PlainRun.{Machine, has_ended, attempt}
use Rattle.run.specs.Tally.{Reply, refused, full, ran}
use Rattle.run.specs.Calls.{advance_of, advance_uses, Began, refused_begin, accepted, AfterBegin, AfterAdvance, record_of, machine_of, with_state}
use Rattle.run.specs.Refusal.{number_of}
use Rattle.run.specs.SkipRun.{Ran, not_begun, not_run, ran_to}

-- 01's number and values for each answer of an advance
abbrev pub reply_of : Result Answer Refusal → Reply
reply_of (Err r) = refused (number_of r)
reply_of (Ok (answer.Full a k)) = full a k
reply_of (Ok (answer.Ran o k)) = ran (meant_by o) k

-- and of a begin
abbrev pub began_of : Result Begun Refusal → Began
began_of (Err r) = refused_begin (number_of r)
began_of (Ok b) = accepted b.record b.count

-- the refusal, whichever call made it
abbrev pub refusal_by : NotRun → Refusal
refusal_by (not_run-case.Begin r) = r
refusal_by (not_run-case.Advance r) = r

-- and of a skip run by one begin and one advance
abbrev pub ran_of : Result Ended NotRun → Ran
ran_of (Err (not_run-case.Begin r)) = not_begun (number_of r)
ran_of (Err (not_run-case.Advance r)) = not_run (number_of r)
ran_of (Ok e) = ran_to (meant_by e.outcome) e.steps e.time

-- what a call answered, with state and frame memory as it left them
abbrev pub after_begin : Result Begun Refusal → (memory frames : List Float) → AfterBegin
after_begin b memory frames = record { answer = began_of b; memory = memory; frames = frames }

abbrev pub after_advance : Advanced → (memory frames : List Float) → AfterAdvance
after_advance a memory frames = record { reply = reply_of a.answer; record' = a.record; memory = memory; frames = frames }

-- the next state stands in work memory behind its first 8n numbers
abbrev pub next_in : Settings → Float → List Float → State
next_in s time work = state_in s time (part (cell_count s) (cell_count s) work)

-- the clock is the one of this state
pub record ClockOf (s : Settings) (a : State) (c : TimeStep) : Type 0 where
  pub delta : c.delta ≡ delta_next s a
  pub framed : c.framed ≡ frames_next s a

-- settings without fault, and memories of so many numbers that are long enough
pub record Lent (s : Settings) (state work : ℕ) : Type 0 where
  pub sound : fault_at s ≡ None
  pub state_fits : cell_count s ≤ state
  pub work_fits : work_count s ≤ work

-- the state of a run that a call goes on with, and its machine before this call's first frame
abbrev pub state_now : Live → State
state_now a = state_in a.run.settings a.run.time a.state.now

abbrev pub machine_in : Live → Machine
machine_in a = machine_of a.run a.state.now

-- fewer numbers of its frame memory are left than a frame has
abbrev pub lacks_room : Live → Bool
lacks_room a =
    let F = frame_count a.run.settings in nat_lt (length a.frames.now - a.count * F) F

-- it can make an attempt: it has not ended, the clock is its own, and a frame that is due has room
pub record CanAttempt (a : Live) (clock : TimeStep) : Type 0 where
  pub timed : ClockOf a.run.settings (state_now a) clock
  pub going : has_ended a.run.settings (machine_in a) ≡ false
  pub counted : a.run.steps + 1 < 2 ^ 32
  pub room : clock.framed ≡ true → (a.count + 1) * frame_count a.run.settings ≤ length a.frames.now

-- the same memories were lent
pub record SameMemories (a b : Live) : Type 0 where
  pub state : b.state.ghost_name ≡ a.state.ghost_name
  pub work : b.work.ghost_name ≡ a.work.ghost_name
  pub frames : b.frames.ghost_name ≡ a.frames.ghost_name

module _ (a : Live) where
  abbrev pub attempted : Machine
  attempted = attempt a.run.settings (machine_in a)

  -- what an attempt leaves: the machine after it, and a frame of its own behind those that the call wrote before
  pub record Attempted (b : Live) : Type 0 where
    pub memories : SameMemories a b
    pub record_is : b.run ≡ record_of a.run.settings attempted
    pub count_is : b.count ≡ a.count + length attempted.frames
    pub memory_is : b.state.now ≡ with_state attempted.state a.state.now
    pub frames_is : b.frames.now ≡ put (a.count * frame_count a.run.settings) (flatten attempted.frames) a.frames.now
    pub work_is : drop (work_count a.run.settings) b.work.now ≡ drop (work_count a.run.settings) a.work.now

  -- what an advance answers and leaves
  pub record AdvanceLeaves (budget : ℕ) (answer : Result Answer Refusal) (b : Live) : Type 0 where
    pub memories : SameMemories a b
    pub left :
        record { reply = reply_of answer; record' = b.run; memory = b.state.now; frames = b.frames.now }
        ≡ advance_of a.run a.state.now a.work.now a.frames.now budget
    pub work_is :
        let k = advance_uses a.run a.state.now (length a.work.now) budget in drop k b.work.now ≡ drop k a.work.now
