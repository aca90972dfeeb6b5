-- What `collapse_begin` and `collapse_advance` answer and leave in the record's slice, in state and frame memory: begin and advance of the
-- crate run, between reading the slice and laying it out again. Definitions only.
use Rattle.std.specs.Prelude.{ℕ, List, Float, None, Some}
use Rattle.vectors.specs.Memory.{put}
use Rattle.run.specs.Calls.{Began, refused_begin, accepted, AfterBegin, AfterAdvance, begin_of, begin_uses, advance_of, advance_uses}
use Rattle.run.specs.Outcome.{collapse, broke, timeout, spent}
use Rattle.run.specs.PlainRun.{option}
use Rattle.run.specs.Tally.{Reply, refused, full, ran}
use Rattle.run.specs.declared.settings.Record.{Record}
use Rattle.capi.specs.Numbers.{zero}
use Rattle.capi.specs.Layout.{settings_in, record_in, laid_out}
use Rattle.capi.specs.declared.layout.LastCall.{LastCall}
use Rattle.capi.specs.declared.told.Told.{Told}

-- Numbers of our own (docs/DECISIONS.md): below 100 every number is a document's, and 100 is run's, no room for a text.
-- A slice that holds no record:
abbrev pub no_record_number : ℕ
no_record_number = 101

-- how a run stands after an advance
abbrev pub full_number : ℕ
full_number = 110

abbrev pub collapse_number : ℕ
collapse_number = 111

abbrev pub broken_number : ℕ
broken_number = 112

abbrev pub timeout_number : ℕ
timeout_number = 113

abbrev pub spent_number : ℕ
spent_number = 114

-- the answer's number, and the three memories that a call may write and whose numbers are told
pub record AfterCall : Type 0 where
  pub number : ℕ
  pub slice : List Float
  pub memory : List Float
  pub frames : List Float

abbrev pub after_call : (number : ℕ) (slice memory frames : List Float) → AfterCall
after_call number slice memory frames = record { number = number; slice = slice; memory = memory; frames = frames }

-- a slice that holds no record: nothing changes
unfoldable pub no_record : (slice memory frames : List Float) → AfterCall
no_record slice memory frames = after_call no_record_number slice memory frames

abbrev last_call : (frames attempts : ℕ) (mass : Float) → LastCall
last_call frames attempts mass = record { frames = frames; attempts = attempts; mass = mass }

-- ---- begin
-- 0, or 01's number of a refusal
unfoldable pub began_number : Began → ℕ
began_number (refused_begin n) = n
began_number (accepted r k) = 0

-- the slice that held the settings: a refusal leaves it, else it holds the record and how many frames were written
unfoldable pub began_slice : Began → List Float → List Float
began_slice (refused_begin n) slice = slice
began_slice (accepted r k) slice = put 0 (laid_out r k 0 zero) slice

unfoldable pub began_call : List Float → AfterBegin → AfterCall
began_call slice b = after_call (began_number b.answer) (began_slice b.answer slice) b.memory b.frames

unfoldable pub begin_call : (slice memory work frames : List Float) → AfterCall
begin_call slice memory work frames =
    option (settings_in slice) (λ s. began_call slice (begin_of s memory work frames)) (no_record slice memory frames)

-- how many numbers of work memory the call may leave changed
unfoldable pub begin_call_uses : (slice : List Float) → (state work frames : ℕ) → ℕ
begin_call_uses slice state work frames = option (settings_in slice) (λ s. begin_uses s state work frames) 0

-- ---- advance
-- 01's number of a refusal, which leaves the slice; full, with its attempts, and the outcomes, collapse with its mass, have numbers of
-- our own and are laid out with how many frames were written
abbrev pub told : (number frames attempts : ℕ) (mass : Float) → Told
told number frames attempts mass = record { number = number; last = Some (last_call frames attempts mass) }

unfoldable pub told_of : Reply → Told
told_of (refused n) = record { number = n; last = None }
told_of (full a k) = told full_number k a zero
told_of (ran (collapse m) k) = told collapse_number k 0 m
told_of (ran broke k) = told broken_number k 0 zero
told_of (ran timeout k) = told timeout_number k 0 zero
told_of (ran spent k) = told spent_number k 0 zero

-- the slice that held the record
unfoldable pub told_slice : Told → Record → List Float → List Float
told_slice t r slice = option t.last (λ last. put 0 (laid_out r last.frames last.attempts last.mass) slice) slice

unfoldable pub advanced_call : List Float → AfterAdvance → AfterCall
advanced_call slice d = after_call (told_of d.reply).number (told_slice (told_of d.reply) d.record' slice) d.memory d.frames

unfoldable pub advance_call : (slice memory work frames : List Float) → (budget : ℕ) → AfterCall
advance_call slice memory work frames budget =
    option (record_in slice) (λ r. advanced_call slice (advance_of r memory work frames budget)) (no_record slice memory frames)

-- how many numbers of work memory the call may leave changed
unfoldable pub advance_call_uses : (slice memory : List Float) → (work budget : ℕ) → ℕ
advance_call_uses slice memory work budget = option (record_in slice) (λ r. advance_uses r memory work budget) 0
