-- 01, "Plain run", from "Begin lends state memory" on, and "From the state": what begin and advance answer and leave in the memories that
-- they were lent, and lists of calls. Definitions only.
use Rattle.std.specs.Prelude.{ℕ, zero, suc, ◌+◌, ◌-◌, ◌*◌, Bool, cond, not, ◌&&◌, ◌||◌, List, [], ◌∷◌, ◌++◌, length, take, drop, ◌==◌, nat_lt, Float}
use mathlib.Core.List.{flatten}
use Rattle.std.specs.Prelude.{Option, None, Some}
use Rattle.vectors.specs.Memory.{put}
use Rattle.physics.specs.State.{State, lay_out}
use Rattle.run.specs.declared.settings.Settings.{Settings}
use Rattle.run.specs.declared.settings.Record.{Record}
use Rattle.run.specs.Model.{fault_at, work_count, frame_count, state_in, first_state, holds_nan, frames_next}
use Rattle.run.specs.PlainRun.{Machine, option, has_ended, outcome_of, start, attempt}
use Rattle.run.specs.Tally.{Reply, refused, full, ran, too_short, too_many}

-- ---- what a machine is between calls
-- "a record: settings .., time, steps, broken mark"
abbrev pub record_of : Settings → Machine → Record
record_of s m = record { settings = s; time = m.state.time; steps = m.steps; broken = m.broken }

-- the machine that a record and its state memory stand for, before this call's first frame
abbrev pub machine_of : Record → List Float → Machine
machine_of r memory =
    record { state = state_in r.settings r.time memory; steps = r.steps; broken = r.broken; frames = [] }

-- state memory with this state in front, and frame memory with these frames "from the first number" on; "Numbers outside the used parts
-- don't change."
abbrev pub with_state : State → List Float → List Float
with_state a memory = put 0 (lay_out a) memory

abbrev pub with_frames : List (List Float) → List Float → List Float
with_frames fs memory = put 0 (flatten fs) memory

-- ---- begin
-- "Begin: 5, 6, 7, 11, 12, 13": those that need no state, by the lengths of the memories
unfoldable pub lent_refusal : Settings → (state work frames : ℕ) → Option ℕ
lent_refusal s state work frames =
    option (fault_at s) Some
    (cond (too_short s state work) (Some 11)
    (cond (not s.skip && nat_lt frames (frame_count s)) (Some 12) None))

-- and "13: initial state holds a NaN."
unfoldable pub begin_refusal : Settings → (state work frames : ℕ) → Option ℕ
begin_refusal s state work frames =
    option (lent_refusal s state work frames) Some (cond (holds_nan (first_state s)) (Some 13) None)

-- "answering a number only", or the record and how many frames
pub data Began : Type 0 where
  refused_begin : ℕ → Began
  accepted : Record → ℕ → Began

-- what a begin answers and leaves in state and frame memory
pub record AfterBegin : Type 0 where
  pub answer : Began
  pub memory : List Float
  pub frames : List Float

unfoldable pub begin_of : Settings → (memory work frames : List Float) → AfterBegin
begin_of s memory work frames =
    option (begin_refusal s (length memory) (length work) (length frames))
    (λ n. record { answer = refused_begin n; memory = memory; frames = frames })
    (record {
      answer = accepted (record_of s (start s)) (length (start s).frames);
      memory = with_state (start s).state memory;
      frames = with_frames (start s).frames frames;
    })

-- how many numbers of work memory a begin may leave changed: none where it is refused before the initial state is made, else 40n
unfoldable pub begin_uses : Settings → (state work frames : ℕ) → ℕ
begin_uses s state work frames = option (lent_refusal s state work frames) (λ n. 0) (work_count s)

-- ---- advance
-- "Advance: 5, 6, 7, 11, 14"; "An ended run answers its end before 14 is tested"
unfoldable pub advance_refusal : Record → (memory : List Float) → (work budget : ℕ) → Option ℕ
advance_refusal r memory work budget =
    let s = r.settings in
    option (fault_at s) Some
    (cond (too_short s (length memory) work) (Some 11)
    (cond (too_many (has_ended s (machine_of r memory)) r.steps budget) (Some 14) None))

-- what an advance answers, and the machine when it returns
pub record Stop : Type 0 where
  pub reply : Reply
  pub machine : Machine

module _ (s : Settings) (room : ℕ) where
  -- "before a frame step with fewer than F numbers left", of a frame memory of `room` numbers
  unfoldable pub is_full : Machine → Bool
  is_full m =
      not (has_ended s m) && (frames_next s m.state && nat_lt (room - length m.frames * frame_count s) (frame_count s))

  -- "makes at most that many attempts, and stops before a frame step with fewer than F numbers left, answering full with the attempts made";
  -- "a budget used up answers spent before full": `left` of the budget are left, `made` are made
  unfoldable pub attempts_from : (left made : ℕ) → Machine → Stop
  attempts_from zero made m = record { reply = ran (outcome_of s m) (length m.frames); machine = m }
  attempts_from (suc left) made m =
      cond (is_full m)
      (record { reply = full made (length m.frames); machine = m })
      (attempts_from left (made + 1) (attempt s m))

-- what an advance answers and leaves in state and frame memory
pub record AfterAdvance : Type 0 where
  pub reply : Reply
  pub record' : Record
  pub memory : List Float
  pub frames : List Float

-- what is left where attempts were made from this state and frame memory
abbrev pub left_by : Settings → (memory frames : List Float) → Stop → AfterAdvance
left_by s memory frames e =
    record {
      reply = e.reply;
      record' = record_of s e.machine;
      memory = with_state e.machine.state memory;
      frames = with_frames e.machine.frames frames;
    }

-- a refusal: "answering number and the record received"
unfoldable pub advance_of : Record → (memory work frames : List Float) → (budget : ℕ) → AfterAdvance
advance_of r memory work frames budget =
    option (advance_refusal r memory (length work) budget)
    (λ n. record { reply = refused n; record' = r; memory = memory; frames = frames })
    (left_by r.settings memory frames (attempts_from r.settings (length frames) budget 0 (machine_of r memory)))

-- nothing is attempted: the budget is 0, or the run has ended
abbrev pub is_idle : Record → (memory : List Float) → (budget : ℕ) → Bool
is_idle r memory budget = budget == 0 || has_ended r.settings (machine_of r memory)

-- how many numbers of work memory an advance may leave changed: none where it is refused or attempts nothing, else 40n
unfoldable pub advance_uses : Record → (memory : List Float) → (work budget : ℕ) → ℕ
advance_uses r memory work budget =
    option (advance_refusal r memory work budget) (λ n. 0) (cond (is_idle r memory budget) 0 (work_count r.settings))

-- ---- lists of calls
-- an advance: any budget, how many numbers of the state memory it lends (from the first on; at most all), any work and frame memory
pub record Call : Type 0 where
  pub budget : ℕ
  pub lends : ℕ
  pub work : List Float
  pub frames : List Float

-- what stands between calls: the record last returned, state memory, and the frames joined so far
pub record Session : Type 0 where
  pub record' : Record
  pub memory : List Float
  pub joined : List (List Float)

-- how many frames an answer tells: "a refused one adds none"
unfoldable pub frames_told : Reply → ℕ
frames_told (refused n) = 0
frames_told (full a k) = k
frames_told (ran o k) = k

-- the first k frames of F numbers in a frame memory
unfoldable pub frames_in : (k F : ℕ) → List Float → List (List Float)
frames_in zero F memory = []
frames_in (suc k) F memory = take F memory ∷ frames_in k F (drop F memory)

abbrev pub advanced : Session → Call → AfterAdvance
advanced z c = advance_of z.record' (take c.lends z.memory) c.work c.frames c.budget

-- "Joined frames are begin's, then each advance's in list order, as many as it answers, read when it returns"; what was not lent stays
unfoldable pub call : Session → Call → Session
call z c =
    let d = advanced z c in
    record {
      record' = d.record';
      memory = d.memory ++ drop c.lends z.memory;
      joined = z.joined ++ frames_in (frames_told d.reply) (frame_count z.record'.settings) d.frames;
    }

unfoldable pub calls : Session → List Call → Session
calls z [] = z
calls z (c ∷ cs) = calls (call z c) cs

unfoldable pub replies : Session → List Call → List Reply
replies z [] = []
replies z (c ∷ cs) = (advanced z c).reply ∷ replies (call z c) cs

-- of each call's frame memory, the numbers beyond the frames that it answers: when it was lent, and when the call returns
abbrev pub unused_of : Session → Call → List Float → List Float
unused_of z c memory = drop (frames_told (advanced z c).reply * frame_count z.record'.settings) memory

unfoldable pub unused_before : Session → List Call → List (List Float)
unused_before z [] = []
unused_before z (c ∷ cs) = unused_of z c c.frames ∷ unused_before (call z c) cs

unfoldable pub unused_after : Session → List Call → List (List Float)
unused_after z [] = []
unused_after z (c ∷ cs) = unused_of z c (advanced z c).frames ∷ unused_after (call z c) cs

-- what a call counts for in S: its budget, "S rises by the attempts made, those after the end included"; full the attempts it reports; a
-- refusal 0
unfoldable pub counted : ℕ → Reply → ℕ
counted budget (refused n) = 0
counted budget (full a k) = a
counted budget (ran o k) = budget

-- S after a list of calls that answered so
unfoldable pub total : List Call → List Reply → ℕ
total [] rs = 0
total (c ∷ cs) [] = 0
total (c ∷ cs) (r ∷ rs) = counted c.budget r + total cs rs
