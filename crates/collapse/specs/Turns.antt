-- 01, "Orders (added)": the program's calls, one after another, and what it has printed of them.
use Rattle.std.specs.Prelude.{ℕ, zero, suc, ◌≤◌, List, [], ◌++◌, ◌≡◌, Float, length, take, ⊤}
use Rattle.std.specs.Prelude.{Option, None, Some, Result, IsOk}
use Rattle.run.specs.declared.carry_out.Job.{Job}
use Rattle.run.specs.declared.carry_out.Lines.{Lines}
use Rattle.run.specs.declared.carry_out.NoRoom.{NoRoom}
use Rattle.run.specs.Lines.{texts_of}
use Rattle.run.specs.OrderLines.{lent_state, lent_work, lent_frames, lines_of}
use Rattle.run.specs.CarryOut.{Answered, refused_call, printed, AfterCall, answered_by, after_carried, room_for, stayed, go_on_of, begin_order_of}
use Rattle.run.specs.CarryOutEnds.{next_of}
use Rattle.std.specs.Io.KnownBytes.{Appends}
use Rattle.program_io.specs.declared.Failure.{Failure}
use Rattle.program_io.specs.Output.{Sent, CutAfter}

-- "lends for level 7 and 8,192 frame numbers", and room for the lines of any call
pub record Lent (memory work frames out : ℕ) : Type 0 where
  pub memory_lent : memory ≡ lent_state
  pub work_lent : work ≡ lent_work
  pub frames_lent : frames ≡ lent_frames
  pub room : room_for lent_frames ≤ out

-- ---- one call
-- what is left of the order
abbrev pub left_of : Result Lines NoRoom → Option Job
left_of c = next_of (answered_by c)

-- where the lines end in the lent bytes
abbrev pub end_in : Answered → ℕ
end_in (refused_call n) = 0
end_in (printed end next) = end

abbrev pub end_of : Result Lines NoRoom → ℕ
end_of c = end_in (answered_by c)

-- the lines, as the lent bytes hold them
abbrev pub text_in : AfterCall → List ℕ
text_in c = take (end_in c.answer) c.out

-- ---- the calls one after another, each with the memories that the one before left
abbrev pub then_called : Option Job → (order : List ℕ) → (memory work frames : List Float) → (out : List ℕ) → AfterCall
then_called None order memory work frames out = stayed memory frames out
then_called (Some j) order memory work frames out = go_on_of j order memory work frames out

module _ (order : List ℕ) (work : List Float) (begun : AfterCall) where
  -- the k-th call after begin
  unfoldable pub call_at : (k : ℕ) → AfterCall
  call_at zero = begun
  call_at (suc k) = let c = call_at k in then_called (next_of c.answer) order c.memory work c.frames c.out

  -- the lines of the first k calls, begin among them
  unfoldable pub texts_to : (k : ℕ) → List ℕ
  texts_to zero = []
  texts_to (suc k) = texts_to k ++ text_in (call_at k)

-- ---- the whole order
-- The memories are as the last of these calls left them. The output got the lines of the calls before it, and then its own to their end, or a
-- part of them where a write failed or took nothing, and the answer says how much of them. If to their end, no job is left, and the lines of the
-- calls are those of the order.
pub record CarriedOut
    (order : List ℕ) (memory work frames : List Float) (out : List ℕ) (memory' frames' : List Float) (out' : List ℕ)
    (held held' : Option (List ℕ)) (result : Result ⊤ Failure)
    : Type 0 where
  pub calls : ℕ
  pub last : Result Lines NoRoom
  pub is : after_carried last memory' frames' out' ≡ call_at order work (begin_order_of order memory work frames out) calls
  pub fits : end_of last ≤ length out'
  pub before : Option (List ℕ)
  pub earlier : Appends held before (texts_to order work (begin_order_of order memory work frames out) calls)
  pub sent : Sent before held' (take (end_of last) out') result
  pub cut : CutAfter before held' (take (end_of last) out') result
  pub ends : IsOk result → left_of last ≡ None
  pub prints : IsOk result → texts_to order work (begin_order_of order memory work frames out) (suc calls) ≡ texts_of (lines_of order)
  pub all : Sent held held' (texts_of (lines_of order)) result

-- the same, in memories that the caller does not see
pub record Answers (order : List ℕ) (held held' : Option (List ℕ)) (result : Result ⊤ Failure) : Type 0 where
  pub memory : List Float
  pub work : List Float
  pub frames : List Float
  pub out : List ℕ
  pub memory' : List Float
  pub frames' : List Float
  pub out' : List ℕ
  pub carried : CarriedOut order memory work frames out memory' frames' out' held held' result
