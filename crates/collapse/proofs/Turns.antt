-- A call after another, by what begin_order and next_call promise.
use Prim.Native.Nat.{ℕ, zero, suc, ◌+◌, ◌≤◌, ◌<◌}
use mathlib.Core.Bool.{Bool, true, false, cond, false≢true}
use mathlib.Core.List.{List, [], ◌∷◌, ◌++◌, append_assoc}
use Rattle.std.proofs.Common.{append-nil}
use Rattle.std.specs.Prelude.{Option, None, Some, Result, Ok, Err, IsErrAnd, is_some, ⊤}
use Rattle.std.specs.Io.KnownBytes.{Appends}
use Rattle.std.proofs.KnownBytes.{Appends-nil, Appends-trans}
use mathlib.Core.Path.{◌≡◌, refl, sym, ◌∙◌, ap, subst}
use native.Mathlib.Omega.{arith}
use lib.Dec.{ltb}
use lib.Ieee.{Float}
use lib.ListN.{length, take, drop, length-append}
use Rattle.vectors.specs.Memory.{put}
use Rattle.run.specs.declared.settings.Record.{Record}
use Rattle.run.specs.Order.{Read, Refused, Order}
use Rattle.run.specs.declared.carry_out.Job.{Job}
use Rattle.run.specs.declared.carry_out.Lines.{Lines}
use Rattle.run.specs.declared.carry_out.NoRoom.{NoRoom}
use Rattle.run.specs.PlainRun.{option}
use Rattle.run.specs.Tally.{refused}
use Rattle.run.specs.Calls.{machine_of, attempts_from, begin_of, AfterAdvance, left_by, advance_refusal, advance_of}
use Rattle.run.specs.Order.{read_order}
use Rattle.run.specs.Lines.{texts_of, refusal, refusal_at}
use Rattle.run.specs.OrderLines.{lines_of}
use Rattle.run.specs.CarryOut.{Answered, refused_call, printed, answered_by, Turn, advance_turn, begin_turn, AfterCall, after_carried, has_room, after_turn, stayed, go_on_of, begin_read, begin_order_of, then_printed, printed_by, calls_in}
use Rattle.run.specs.CarryOutLaws.{order_prints}
use Rattle.run.specs.CarryOutEnds.{calls_left, calls_of, next_of, FairNext, go_on_falls, go_on_fair, begin_fair}
use Rattle.program_io.specs.declared.Failure.{Failure}
use Rattle.program_io.specs.declared.Failure.TheVariants.{Input, Output}
use Rattle.program_io.specs.Output.{Sent, CutAfter}
use Rattle.collapse.specs.Turns.{Lent, left_of, end_in, end_of, text_in, then_called, call_at, texts_to, CarriedOut}

-- ---- of work memory a call uses only the length
advance_work :
    (r : Record) (memory work work' frames : List Float) (budget : ℕ) → length work ≡ length work' →
    advance_of r memory work frames budget ≡ advance_of r memory work' frames budget
unfolding advance_of
advance_work r memory work work' frames budget e =
    ap
    (λ (n : ℕ).
    option (advance_refusal r memory n budget)
    (λ n. record { reply = refused n; record' = r; memory = memory; frames = frames })
    (left_by r.settings memory frames (attempts_from r.settings (length frames) budget 0 (machine_of r memory))))
    e

go_on_work :
    (j : Job) (order : List ℕ) (memory work work' frames : List Float) (out : List ℕ) → length work ≡ length work' →
    go_on_of j order memory work frames out ≡ go_on_of j order memory work' frames out
unfolding go_on_of
go_on_work j order memory work work' frames out e =
    ap
    (λ (d : AfterAdvance).
    cond (has_room (length frames) (length out)) (after_turn (advance_turn order j d) d.memory d.frames out) (stayed memory frames out))
    (advance_work j.run memory work work' frames j.rest e)

-- ---- a call's lines end within the lent bytes
abbrev Ends : AfterCall → Type 0
Ends c = end_in c.answer ≤ length c.out

turn_ends : (t : Turn) (memory frames : List Float) (out : List ℕ) → Ends (after_turn t memory frames out)
unfolding put
turn_ends t memory frames out = omega (arith, length-append (texts_of t.lines) (drop (0 + length (texts_of t.lines)) out))

go_on_ends : (j : Job) (order : List ℕ) (memory work frames : List Float) (out : List ℕ) → Ends (go_on_of j order memory work frames out)
unfolding go_on_of
go_on_ends j order memory work frames out = go (has_room (length frames) (length out))
  where
    d : AfterAdvance
    d = advance_of j.run memory work frames j.rest

    go : (b : Bool) → Ends (cond b (after_turn (advance_turn order j d) d.memory d.frames out) (stayed memory frames out))
    go true = turn_ends (advance_turn order j d) d.memory d.frames out
    go false = omega arith

begin_ends : (order : List ℕ) (memory work frames : List Float) (out : List ℕ) → Ends (begin_order_of order memory work frames out)
unfolding begin_order_of
begin_ends order memory work frames out = go (has_room (length frames) (length out)) (ltb 4096 (length order)) (read_order order)
  where
    eight : AfterCall
    eight = after_turn (record { lines = refusal 8 ∷ []; next = None }) memory frames out

    read : (r : Read) → Ends (begin_read order memory work frames out r)
    read (Refused n at) = turn_ends (record { lines = refusal_at n at ∷ []; next = None }) memory frames out
    read (Order s p) = let b = begin_of s memory work frames in turn_ends (begin_turn order p b.answer b.frames) b.memory b.frames out

    go : (a b : Bool) (r : Read) → Ends (cond a (cond b eight (begin_read order memory work frames out r)) (stayed memory frames out))
    go false b r = omega arith
    go true true r = turn_ends (record { lines = refusal 8 ∷ []; next = None }) memory frames out
    go true false r = read r

-- ---- an order that is being carried out: what was printed of its calls, and what is still to be printed
module _ (order : List ℕ) (memory work frames : List Float) (out : List ℕ) where
  abbrev begun : AfterCall
  begun = begin_order_of order memory work frames out

  -- a call after so many is the last of those made, and `behind` more are enough
  pub record Going (calls : ℕ) (c : AfterCall) : Type 0 where
    pub behind : ℕ
    pub is : c ≡ call_at order work begun calls
    pub enough : calls_left order (next_of c.answer) ≤ behind
    pub owed : texts_to order work begun calls ++ printed_by behind order work c ≡ texts_of (lines_of order)
    pub fair : FairNext (length frames) (next_of c.answer)
    pub fits : Ends c

  going_begun : Lent (length memory) (length work) (length frames) (length out) → Going 0 begun
  unfolding call_at texts_to
  going_begun lent =
      let k = calls_in order (read_order order) in
      let l = calls_left order (next_of begun.answer) in
      record {
        behind = k + l;
        is = refl;
        enough = omega arith;
        owed = order_prints order memory work frames out lent.memory_lent lent.work_lent lent.frames_lent lent.room (k + l) (omega arith);
        fair = begin_fair order memory work frames out;
        fits = begin_ends order memory work frames out;
      }

  -- the call that begin_order answered
  pub going_begin :
      Lent (length memory) (length work) (length frames) (length out) → (r : Result Lines NoRoom) (m f : List Float) (o : List ℕ) →
      after_carried r m f o ≡ begun → Going 0 (after_carried r m f o)
  going_begin lent r m f o q = subst (Going 0) (sym q) (going_begun lent)

  -- where its lines were written to their end, so were those of the calls before it
  pub texts_more :
      (calls : ℕ) (c : AfterCall) → Going calls c → (held before held' : Option (List ℕ)) → Appends held before (texts_to order work begun calls) →
      Appends before held' (text_in c) → Appends held held' (texts_to order work begun (suc calls))
  unfolding texts_to
  texts_more calls c g held before held' earlier grown =
      subst (λ (b : AfterCall). Appends held held' (texts_to order work begun calls ++ text_in b)) g.is (Appends-trans held before held' _ _ earlier grown)

  pub nothing_yet : (held : Option (List ℕ)) → Appends held held (texts_to order work begun 0)
  unfolding texts_to
  nothing_yet held = Appends-nil held

  -- what is printed of a call, and of those after it, begins with its own lines
  then_begins :
      (again : Job → List ℕ) (a : Answered) (o : List ℕ) → (rest : List ℕ) × (then_printed again a o ≡ take (end_in a) o ++ rest)
  then_begins again (refused_call n) o = ([], refl)
  then_begins again (printed end None) o = ([], sym (append-nil (take end o)))
  then_begins again (printed end (Some j)) o = (again j, refl)

  printed_begins : (n : ℕ) (c : AfterCall) → (rest : List ℕ) × (printed_by n order work c ≡ text_in c ++ rest)
  unfolding printed_by
  printed_begins zero c = then_begins (λ j. []) c.answer c.out
  printed_begins (suc n) c = then_begins (λ j. printed_by n order work (go_on_of j order c.memory work c.frames c.out)) c.answer c.out

  -- of a call that left nothing, it is those alone
  printed_last :
      (n : ℕ) (a : Answered) (m f : List Float) (o : List ℕ) → next_of a ≡ None →
      printed_by n order work (record { answer = a; memory = m; frames = f; out = o }) ≡ take (end_in a) o
  unfolding printed_by
  printed_last zero (refused_call k) m f o h = refl
  printed_last (suc n) (refused_call k) m f o h = refl
  printed_last zero (printed end None) m f o h = refl
  printed_last (suc n) (printed end None) m f o h = refl
  printed_last zero (printed end (Some j)) m f o h = absurd (false≢true (sym (ap is_some h)))
  printed_last (suc n) (printed end (Some j)) m f o h = absurd (false≢true (sym (ap is_some h)))

  module _ (memory' work' frames' : List Float) (out' : List ℕ) where
    -- a call that answered so
    abbrev after : Answered → AfterCall
    after a = record { answer = a; memory = memory'; frames = frames'; out = out' }

    going_next :
        (calls : ℕ) (a : Answered) → is_some (next_of a) ≡ true → length work' ≡ length work → length frames' ≡ length frames →
        Going calls (after a) → Going (suc calls) (then_called (next_of a) order memory' work' frames' out')
    unfolding call_at texts_to printed_by calls_left calls_of
    going_next calls (refused_call n) h w f g = absurd (false≢true h)
    going_next calls (printed end None) h w f g = absurd (false≢true h)
    going_next calls (printed end (Some j)) h w f g = go g.behind g.enough g.owed
      where
        c : AfterCall
        c = after (printed end (Some j))

        next : AfterCall
        next = go_on_of j order memory' work' frames' out'

        same : next ≡ go_on_of j order memory' work frames' out'
        same = go_on_work j order memory' work' work frames' out' w

        go : (n : ℕ) → calls_of order j ≤ n → texts_to order work begun calls ++ printed_by n order work c ≡ texts_of (lines_of order) → Going (suc calls) next
        go zero m o = absurd (omega arith)
        go (suc n) m o =
            let roomy = subst (λ (k : ℕ). FairNext k (Some j)) (sym f) g.fair in
            let t = texts_to order work begun calls in
            record {
              behind = n;
              is = same ∙ ap (λ (b : AfterCall). then_called (next_of b.answer) order b.memory work b.frames b.out) g.is;
              enough = omega (arith, go_on_falls j order memory' work' frames' out' roomy);
              owed =
                  ap (λ (b : AfterCall). (t ++ text_in b) ++ printed_by n order work next) (sym g.is)
                  ∙ append_assoc t (take end out') (printed_by n order work next)
                  ∙ ap (λ (b : AfterCall). t ++ (take end out' ++ printed_by n order work b)) same
                  ∙ o;
              fair = subst (λ (k : ℕ). FairNext k (next_of next.answer)) f (go_on_fair j order memory' work' frames' out' roomy);
              fits = go_on_ends j order memory' work' frames' out';
            }

    -- each call leaves fewer to make
    falls :
        (calls : ℕ) (a : Answered) → is_some (next_of a) ≡ true → length frames' ≡ length frames → Going calls (after a) →
        (r : Result Lines NoRoom) (m f : List Float) (o : List ℕ) → after_carried r m f o ≡ then_called (next_of a) order memory' work' frames' out' →
        calls_left order (left_of r) < calls_left order (next_of a)
    unfolding calls_left
    falls calls (refused_call n) h l g r m f o q = absurd (false≢true h)
    falls calls (printed end None) h l g r m f o q = absurd (false≢true h)
    falls calls (printed end (Some j)) h l g r m f o q =
        subst (λ (c : AfterCall). calls_left order (next_of c.answer) < calls_of order j) (sym q)
        (go_on_falls j order memory' work' frames' out' (subst (λ (k : ℕ). FairNext k (Some j)) (sym l) g.fair))

    -- ---- after a call that left this job
    module _
        (calls : ℕ) (call : Result Lines NoRoom) (g : Going calls (after_carried call memory' frames' out')) (job : Job) (left : left_of call ≡ Some job)
        (lf : length frames' ≡ length frames) (r : Result Lines NoRoom) (m f : List Float) (o : List ℕ)
        (q : after_carried r m f o ≡ go_on_of job order memory' work' frames' out')
      where
        called : after_carried r m f o ≡ then_called (left_of call) order memory' work' frames' out'
        called = q ∙ ap (λ (x : Option Job). then_called x order memory' work' frames' out') (sym left)

        pub going_on : length work' ≡ length work → Going (suc calls) (after_carried r m f o)
        going_on lw = subst (Going (suc calls)) (sym called) (going_next calls (answered_by call) (ap is_some left) lw lf g)

        pub going_falls : calls_left order (left_of r) < calls_left order (left_of call)
        going_falls = falls calls (answered_by call) (ap is_some left) lf g r m f o called

  -- ---- the end: no job is left, or the lines of a call were cut
  module _
      (memory' frames' : List Float) (out' : List ℕ) (calls : ℕ) (call : Result Lines NoRoom)
      (g : Going calls (after_carried call memory' frames' out')) (held before held' : Option (List ℕ))
      (earlier : Appends held before (texts_to order work begun calls))
    where
      pub carried :
          left_of call ≡ None → Appends before held' (take (end_of call) out') →
          CarriedOut order memory work frames out memory' frames' out' held held' (Ok tt)
      unfolding texts_to
      carried none grown =
          let t = texts_to order work begun calls in
          let whole : texts_to order work begun (suc calls) ≡ texts_of (lines_of order) =
          ap (λ (b : AfterCall). t ++ text_in b) (sym g.is)
          ∙ ap (λ (l : List ℕ). t ++ l) (sym (printed_last g.behind (answered_by call) memory' frames' out' none))
          ∙ g.owed in
          record {
            calls = calls;
            last = call;
            is = g.is;
            fits = g.fits;
            before = before;
            earlier = earlier;
            sent = grown;
            cut = tt;
            ends = λ _. none;
            prints = λ _. whole;
            all = subst (Appends held held') whole (texts_more calls (after_carried call memory' frames' out') g held before held' earlier grown);
          }

      cut_by :
          (failure : Failure) → Sent before held' (take (end_of call) out') (Err failure) →
          CutAfter before held' (take (end_of call) out') (Err failure) →
          CarriedOut order memory work frames out memory' frames' out' held held' (Err failure)
      cut_by (Input error) sent cut = absurd cut
      cut_by (Output last) (part, rest, is, more, grown) cut =
          let c = after_carried call memory' frames' out' in
          let t = texts_to order work begun calls in
          let (later, lines) = printed_begins g.behind c in
          let all : texts_of (lines_of order) ≡ (t ++ part) ++ (rest ++ later) =
          sym g.owed ∙ ap (λ (l : List ℕ). t ++ l) (lines ∙ ap (λ (l : List ℕ). l ++ later) is ∙ append_assoc part rest later)
          ∙ sym (append_assoc t part (rest ++ later)) in
          record {
            calls = calls;
            last = call;
            is = g.is;
            fits = g.fits;
            before = before;
            earlier = earlier;
            sent = (part, rest, is, more, grown);
            cut = cut;
            ends = λ ok. absurd (false≢true ok);
            prints = λ ok. absurd (false≢true ok);
            all = (t ++ part, rest ++ later, all, omega (arith, length-append rest later, more), Appends-trans held before held' t part earlier grown);
          }

      pub carried_part :
          (failure : Failure) → Sent before held' (take (end_of call) out') (Err failure) →
          CutAfter before held' (take (end_of call) out') (Err failure) → (r : Result ⊤ Failure) → IsErrAnd r (λ e. e ≡ failure) →
          CarriedOut order memory work frames out memory' frames' out' held held' r
      carried_part failure sent cut (Ok x) e = absurd e
      carried_part failure sent cut (Err f) e =
          subst (λ (d : Failure). CarriedOut order memory work frames out memory' frames' out' held held' (Err d)) (sym e) (cut_by failure sent cut)
