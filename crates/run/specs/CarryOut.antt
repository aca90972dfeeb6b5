-- 01, "Orders (added)": an order carried out a call at a time: what each call answers and leaves in the memories that it was lent, its lines
-- in lent bytes. Definitions only.
use Rattle.std.specs.Prelude.{ℕ, zero, suc, ◌+◌, ◌-◌, ◌*◌, ◌≤◌, Bool, cond, List, [], ◌∷◌, ◌++◌, map, length, take, nat_le, nat_lt, Float}
use Rattle.std.specs.Prelude.{Option, None, Some, Result, Ok, Err}
use Rattle.vectors.specs.Memory.{put}
use Rattle.run.specs.declared.settings.Record.{Record}
use Rattle.run.specs.declared.order.Places.{Places}
use Rattle.run.specs.Order.{Read, Refused, Order}
use Rattle.run.specs.declared.carry_out.Job.{Job}
use Rattle.run.specs.declared.carry_out.Lines.{Lines}
use Rattle.run.specs.declared.carry_out.NoRoom.{NoRoom}
use Rattle.run.specs.Model.{frame_count}
use Rattle.run.specs.Tally.{Reply, refused, full, ran}
use Rattle.run.specs.Calls.{Began, refused_begin, accepted, begin_of, begin_uses, AfterAdvance, advance_of, advance_uses, frames_told, frames_in}
use Rattle.run.specs.Order.{read_order, budget_at}
use Rattle.run.specs.OrderLines.{budgets_from}
use Rattle.run.specs.Report.{no_room_for_text}
use Rattle.run.specs.Lines.{Line, frame, refusal, refusal_at, texts_of, reply_lines}

-- ---- what is left of an order
-- a job: the run, what is left of the budget of the advance with this index, where the first advance stands, and how many there are
abbrev pub job_of : Record → (rest advances index count : ℕ) → Job
job_of r rest advances index count = record { run = r; rest = rest; advances = advances; index = index; count = count }

-- the advance with this index, if there is one
unfoldable pub advance_at : (order : List ℕ) → Record → (advances index count : ℕ) → Option Job
advance_at order r advances index count =
    cond (nat_lt index count) (Some (job_of r (budget_at order advances index) advances index count)) None

-- "after full calls again with the rest of the budget"; else, "after a refused advance" too, "the next command follows"
unfoldable pub left_after : (order : List ℕ) → Job → Record → Reply → Option Job
left_after order j r (refused n) = advance_at order r j.advances (j.index + 1) j.count
left_after order j r (full a k) = Some (job_of r (j.rest - a) j.advances j.index j.count)
left_after order j r (ran o k) = advance_at order r j.advances (j.index + 1) j.count

-- ---- one call
-- the lines of a call, and what is left of the order after it
pub record Turn : Type 0 where
  pub lines : List Line
  pub next : Option Job

-- the frames that a begin or an advance answers, as its frame memory holds them
abbrev pub advance_turn : (order : List ℕ) → Job → AfterAdvance → Turn
advance_turn order j d =
    record {
      lines =
          reply_lines (frames_in (frames_told d.reply) (frame_count d.record'.settings) d.frames) d.record'.steps
          d.record'.time d.reply;
      next = left_after order j d.record' d.reply;
    }

-- "After a refused begin nothing more prints"
unfoldable pub begin_turn : (order : List ℕ) → Places → Began → (frames : List Float) → Turn
begin_turn order p (refused_begin n) frames = record { lines = refusal n ∷ []; next = None }
begin_turn order p (accepted r k) frames =
    record {
      lines = map frame (frames_in k (frame_count r.settings) frames);
      next = advance_at order r p.advances 0 p.count;
    }

-- ---- what a call answers
-- refused with a number, or the lines' end, and what is left
pub data Answered : Type 0 where
  refused_call : ℕ → Answered
  printed : (end : ℕ) → (next : Option Job) → Answered

-- too little room for the lines
abbrev pub answered_by : Result Lines NoRoom → Answered
answered_by (Err e) = refused_call no_room_for_text
answered_by (Ok l) = printed l.end l.next

-- what a call answers and leaves in state memory, frame memory and the lent bytes
pub record AfterCall : Type 0 where
  pub answer : Answered
  pub memory : List Float
  pub frames : List Float
  pub out : List ℕ

-- a call that answered so, with the memories as it left them
abbrev pub after_carried : Result Lines NoRoom → (memory frames : List Float) → (out : List ℕ) → AfterCall
after_carried r memory frames out = record { answer = answered_by r; memory = memory; frames = frames; out = out }

-- room for the lines of any call: a frame's line has 6 bytes and 17 for each of its numbers, at least 20; another line has 64 at the most
abbrev pub room_for : (frames : ℕ) → ℕ
room_for frames = 18 * frames + 64

abbrev pub has_room : (frames out : ℕ) → Bool
has_room frames out = nat_le (room_for frames) out

-- a call that left these memories and prints these lines
abbrev pub after_turn : Turn → (memory frames : List Float) → (out : List ℕ) → AfterCall
after_turn t memory frames out =
    record {
      answer = printed (length (texts_of t.lines)) t.next;
      memory = memory;
      frames = frames;
      out = put 0 (texts_of t.lines) out;
    }

-- nothing is called and nothing written
abbrev pub stayed : (memory frames : List Float) → (out : List ℕ) → AfterCall
stayed memory frames out = record { answer = refused_call no_room_for_text; memory = memory; frames = frames; out = out }

-- an advance of an order
unfoldable pub go_on_of : Job → (order : List ℕ) → (memory work frames : List Float) → (out : List ℕ) → AfterCall
go_on_of j order memory work frames out =
    let d = advance_of j.run memory work frames j.rest in
    cond (has_room (length frames) (length out))
    (after_turn (advance_turn order j d) d.memory d.frames out)
    (stayed memory frames out)

unfoldable pub go_on_uses : Job → (memory : List Float) → (work frames out : ℕ) → ℕ
go_on_uses j memory work frames out = cond (has_room frames out) (advance_uses j.run memory work j.rest) 0

-- the front of an order up to its begin: 8 "before all else"; "checks the whole order"
module _ (order : List ℕ) (memory work frames : List Float) (out : List ℕ) where
  abbrev pub begin_read : Read → AfterCall
  begin_read (Refused n at) = after_turn (record { lines = refusal_at n at ∷ []; next = None }) memory frames out
  begin_read (Order s p) =
      let b = begin_of s memory work frames in
      after_turn (begin_turn order p b.answer b.frames) b.memory b.frames out

  unfoldable pub begin_order_of : AfterCall
  begin_order_of =
      cond (has_room (length frames) (length out))
      (cond (nat_lt 4096 (length order)) (after_turn (record { lines = refusal 8 ∷ []; next = None }) memory frames out) (begin_read (read_order order)))
      (stayed memory frames out)

abbrev pub read_uses : (state work frames : ℕ) → Read → ℕ
read_uses state work frames (Refused n at) = 0
read_uses state work frames (Order s p) = begin_uses s state work frames

unfoldable pub begin_order_uses : (order : List ℕ) → (state work frames out : ℕ) → ℕ
begin_order_uses order state work frames out =
    cond (has_room frames out) (cond (nat_lt 4096 (length order)) 0 (read_uses state work frames (read_order order))) 0

-- ---- what the parts of a call promise
-- full has made no more attempts than this job has left
abbrev pub Fits : Job → Reply → Type 0
Fits j (refused n) = Unit {0}
Fits j (full a k) = a ≤ j.rest
Fits j (ran o k) = Unit {0}

-- ---- calls until nothing is left
-- what is printed of a call, as many of the lent bytes as it answers, and then by those after it
abbrev pub then_printed : (again : Job → List ℕ) → Answered → (out : List ℕ) → List ℕ
then_printed again (refused_call n) out = []
then_printed again (printed end None) out = take end out
then_printed again (printed end (Some j)) out = take end out ++ again j

-- by a call that left this, and n calls after it at the most, each with the memories that the one before left
unfoldable pub printed_by : (n : ℕ) → (order : List ℕ) → (work : List Float) → AfterCall → List ℕ
printed_by zero order work c = then_printed (λ j. []) c.answer c.out
printed_by (suc n) order work c =
    then_printed (λ j. printed_by n order work (go_on_of j order c.memory work c.frames c.out)) c.answer c.out

-- how many calls of advance budgets want at the most: full has made an attempt
unfoldable pub calls_for : (budgets : List ℕ) → ℕ
calls_for [] = 0
calls_for (b ∷ bs) = suc b + calls_for bs

unfoldable pub calls_in : (order : List ℕ) → Read → ℕ
calls_in order (Refused n at) = 0
calls_in order (Order s p) = calls_for (budgets_from order p.advances 0 p.count)
