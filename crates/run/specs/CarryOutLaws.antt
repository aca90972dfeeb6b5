-- An order carried out a call at a time prints what 01 says that it prints, whatever the lent memories held, and ends.
use Rattle.std.specs.Prelude.{◌≡◌, ℕ, zero, suc, ◌+◌, ◌-◌, ◌*◌, ◌<◌, ◌≤◌, Bool, true, false, cond, ◌||◌, List, [], ◌∷◌, ◌++◌, map, length, take, drop, nat_lt, Float}
use Rattle.std.proofs.Common.{true≢false, append_assoc, append-nil, ◌∙◌, ap₂, subst, le_of_eq, take_all, drop_at}
use Rattle.std.specs.Prelude.{Option, None, Some}
use Rattle.std.proofs.Math.Path.{refl, sym, ap}
use native.Mathlib.Omega.{arith}
use Rattle.std.proofs.Math.Seq.{drop-length, take-append_seam}
use borrow.Author.Tests.{le-leb, ltb-true, ltb-false}
use Rattle.vectors.specs.Grid.{points_of}
use Rattle.vectors.specs.Memory.{put}
use Rattle.vectors.specs.MemoryLaws.{length-put}
use Rattle.run.specs.declared.settings.Settings.{Settings}
use Rattle.run.specs.declared.settings.Record.{Record}
use Rattle.run.specs.declared.order.Places.{Places}
use Rattle.run.specs.declared.carry_out.Job.{Job}
use Rattle.run.specs.Model.{cell_count, work_count, frame_count}
use Rattle.run.specs.ModelLaws.{frame_large}
use Rattle.run.specs.PlainRun.{option, start, plain_run}
use Rattle.run.specs.PlainRunLaws.{start_formed}
use Rattle.run.specs.Tally.{Reply, refused, full, ran, Fed, Told, told}
use Rattle.run.specs.Calls.{record_of, with_state, with_frames, AfterBegin, begin_refusal, begin_of, AfterAdvance, advance_of, frames_told, frames_in, Call, Session, advanced, call}
use Rattle.run.specs.Demand.{fed}
use Rattle.run.specs.OneCall.{memory_at, session_at, length_memory_at, one_answer, one_session}
use Rattle.run.specs.AdvanceLaws.{advance_leaves}
use Rattle.run.specs.BeginLaws.{start_fits}
use Rattle.run.specs.DemandProof.{begin_some, begin_none}
use Rattle.run.specs.FrameLaws.{frames_in-put, length_frames}
use Rattle.run.specs.Order.{Read, Refused, Order}
use Rattle.run.specs.Order.{budget_at, read_order}
use Rattle.run.specs.Lines.{Line, frame, refusal, refusal_at, texts_of, reply_lines}
use Rattle.run.specs.LinesLaws.{Long, texts_of-append, frames_room, each_frames_in, length-frames_in, reply_room}
use Rattle.run.specs.OrderLines.{lent_state, lent_work, lent_frames, asked, Printed, frames_over, told_lines, after_told, advance_lines, advances_lines, budgets_from, run_lines, read_lines, lines_of}
use Rattle.run.specs.OrderLinesLaws.{Lendable, lendable, told_moves, advance_prints}
use Rattle.run.specs.CarryOut.{job_of, advance_at, left_after, advance_turn, begin_turn, printed, AfterCall, room_for, after_turn, go_on_of, begin_read, begin_order_of, then_printed, printed_by, calls_for, calls_in}

-- ---- what the program lends, in numbers and bytes
pub lent_lengths : (lent_state ≡ 1032) × (lent_work ≡ 5160) × (lent_frames ≡ 8192) × (room_for lent_frames ≡ 147520)
unfolding lent_state lent_work points_of
lent_lengths = (refl, refl, refl, refl)

-- ---- texts in front of lent bytes
take_front : (text out : List ℕ) → take (length text) (put 0 text out) ≡ text
unfolding put
take_front text out = take-append_seam text (drop (0 + length text) out)

-- ---- every call has the room that it asks for
module _ (order : List ℕ) (j : Job) (memory work frames : List Float) where
  abbrev done : AfterAdvance
  done = advance_of j.run memory work frames j.rest

  pub call_room : length (texts_of (advance_turn order j done).lines) ≤ room_for (length frames)
  call_room =
      let l = advance_leaves j.run memory work frames j.rest in
      let F = frame_count done.record'.settings in
      let e : frame_count j.run.settings ≡ F = ap frame_count (sym l.settings) in
      let f : frames_told done.reply * F ≤ length frames = subst (λ (i : ℕ). frames_told done.reply * i ≤ length frames) e l.fits in
      reply_room (each_frames_in (frames_told done.reply) F done.frames (omega (arith, l.long))) (length frames) done.record'.steps done.record'.time
      done.reply (subst (λ (i : ℕ). Long i done.reply) e l.large)
      (length-frames_in (frames_told done.reply) F done.frames) f

-- ---- an advance of the program
module _ (s : Settings) (memory₀ work : List Float) (lent : Lendable s lent_state lent_work lent_frames)
    (state-lent : length memory₀ ≡ lent_state) (work_lent : length work ≡ lent_work) where
  big : cell_count s ≤ length memory₀
  big = go (nat_lt lent_state (cell_count s)) refl lent.fits
    where
      go : (a : Bool) → nat_lt lent_state (cell_count s) ≡ a → (a || nat_lt lent_work (work_count s)) ≡ false → cell_count s ≤ length memory₀
      go true e h = absurd (true≢false h)
      go false e h = omega (arith, ltb-false lent_state (cell_count s) e, state-lent)

  -- an advance on the whole of the state memory, after S attempts
  module _ (S rest : ℕ) (frames : List Float) (frames_lent : length frames ≡ lent_frames) where
    abbrev one : Call
    one = record { budget = rest; lends = length memory₀; work = work; frames = frames }

    abbrev answer : Told
    answer = told s S (asked rest)

    abbrev left : AfterAdvance
    left = advance_of (record_of s (plain_run s S)) (memory_at s memory₀ S) work frames rest

    fed_one : fed memory₀ one ≡ asked rest
    fed_one =
        let all = ap length (take_all (length memory₀) memory₀ (le_of_eq refl)) ∙ state-lent in
        λ i. record { budget = rest; state = all i; work = work_lent i; frames = frames_lent i }

    left_one : left ≡ advanced (session_at s memory₀ S) one
    left_one =
        ap (λ (m : List Float). advance_of (record_of s (plain_run s S)) m work frames rest)
        (sym (take_all (length memory₀) (memory_at s memory₀ S) (le_of_eq (length_memory_at s memory₀ lent.sound big S))))

    session : call (session_at s memory₀ S) one ≡ session_at s memory₀ (S + answer.made)
    session =
        one_session s memory₀ lent.sound big S one ∙ ap (λ (f : Fed). session_at s memory₀ (S + (told s S f).made)) fed_one

    left_reply : left.reply ≡ answer.reply
    left_reply =
        ap (λ (d : AfterAdvance). d.reply) left_one
        ∙ one_answer s memory₀ lent.sound big S one
        ∙ ap (λ (f : Fed). (told s S f).reply) fed_one

    left_record : left.record' ≡ record_of s (plain_run s (S + answer.made))
    unfolding call
    left_record = ap (λ (d : AfterAdvance). d.record') left_one ∙ ap (λ (z : Session). z.record') session

    left_memory : left.memory ≡ memory_at s memory₀ (S + answer.made)
    unfolding call
    left_memory =
        let m = memory_at s memory₀ S in
        let l = length_memory_at s memory₀ lent.sound big S in
        ap (λ (d : AfterAdvance). d.memory) left_one
        ∙ sym (append-nil (advanced (session_at s memory₀ S) one).memory)
        ∙ ap (λ (r : List Float). (advanced (session_at s memory₀ S) one).memory ++ r) (sym (ap (λ (n : ℕ). drop n m) (sym l) ∙ drop-length m))
        ∙ ap (λ (z : Session). z.memory) session

    left_frames : frames_in (frames_told left.reply) (frame_count left.record'.settings) left.frames ≡ frames_over s S answer.made
    unfolding call frames_over
    left_frames =
        let fs = frames_in (frames_told left.reply) (frame_count s) left.frames in
        let old = (plain_run s S).frames in
        let e : old ++ fs ≡ (plain_run s (S + answer.made)).frames =
        ap (λ (d : AfterAdvance). old ++ frames_in (frames_told d.reply) (frame_count s) d.frames) left_one
        ∙ ap (λ (z : Session). z.joined) session in
        ap (λ (r : Record). frames_in (frames_told left.reply) (frame_count r.settings) left.frames) left_record
        ∙ sym (drop_at old fs (length old) refl)
        ∙ ap (drop (length old)) e

    -- its lines are those of the tally's answer
    left_lines : (order : List ℕ) (j : Job) → (advance_turn order j left).lines ≡ told_lines s S answer
    unfolding told_lines
    left_lines order j =
        ap (λ (fs : List (List Float)). reply_lines fs left.record'.steps left.record'.time left.reply) left_frames
        ∙ ap (λ (r : Record). reply_lines (frames_over s S answer.made) r.steps r.time left.reply) left_record
        ∙ ap (λ (r : Reply). reply_lines (frames_over s S answer.made) (plain_run s (S + answer.made)).steps (plain_run s (S + answer.made)).state.time r) left_reply

    left_next : (order : List ℕ) (j : Job) → (advance_turn order j left).next ≡ left_after order j (record_of s (plain_run s (S + answer.made))) answer.reply
    left_next order j = ap₂ (left_after order j) left_record left_reply

  -- ---- the calls of an order's advances
  module _ (order : List ℕ) (advances count : ℕ) where
    abbrev job_at : (S rest index : ℕ) → Job
    job_at S rest index = job_of (record_of s (plain_run s S)) rest advances index count

    -- the budgets of the advances from this index on
    abbrev from : (index : ℕ) → List ℕ
    from index = budgets_from order advances index (count - index)

    -- what is to be printed from this job on
    owed : (S rest index : ℕ) → List Line
    owed S rest index = (advance_lines s (suc rest) S rest).lines ++ advances_lines s (advance_lines s (suc rest) S rest).attempts (from (index + 1))

    from_more : (index : ℕ) → index < count → from index ≡ budget_at order advances index ∷ from (index + 1)
    unfolding budgets_from
    from_more index h =
        let e : count - index ≡ suc (count - (index + 1)) = omega arith in
        ap (budgets_from order advances index) e

    from_none : (index : ℕ) → count ≤ index → from index ≡ []
    unfolding budgets_from
    from_none index h = let e : count - index ≡ 0 = omega arith in ap (budgets_from order advances index) e

    -- the advance with this index, if there is one, and those behind it print the lines of their budgets
    next_prints :
        (S index end : ℕ) (out : List ℕ) (again : Job → List ℕ) →
        (index < count → again (job_at S (budget_at order advances index) index) ≡ texts_of (owed S (budget_at order advances index) index)) →
        then_printed again (printed end (advance_at order (record_of s (plain_run s S)) advances index count)) out
        ≡ take end out ++ texts_of (advances_lines s S (from index))
    unfolding advance_at advances_lines owed texts_of
    next_prints S index end out again h = go (nat_lt index count) refl
      where
        go :
            (b : Bool) → nat_lt index count ≡ b →
            then_printed again (printed end (cond b (Some (job_at S (budget_at order advances index) index)) None)) out
            ≡ take end out ++ texts_of (advances_lines s S (from index))
        go true e =
            let l = ltb-true index count e in
            ap (λ (t : List ℕ). take end out ++ t) (h l ∙ ap (λ (bs : List ℕ). texts_of (advances_lines s S bs)) (sym (from_more index l)))
        go false e =
            sym (append-nil (take end out))
            ∙ ap (λ (bs : List ℕ). take end out ++ texts_of (advances_lines s S bs)) (sym (from_none index (ltb-false index count e)))

    -- how many calls come behind this one at the most
    calls_behind : (rest index : ℕ) → ℕ
    calls_behind rest index = rest + calls_for (from (index + 1))

    -- one call, where `again` prints what it should of the job that is left
    call_prints :
        (S rest index : ℕ) (out : List ℕ) (again : Job → List ℕ) →
        let t = told s S (asked rest) in
        let text = texts_of (told_lines s S t) in
        (index + 1 < count →
        again (job_at (S + t.made) (budget_at order advances (index + 1)) (index + 1))
        ≡ texts_of (owed (S + t.made) (budget_at order advances (index + 1)) (index + 1))) →
        ((a k : ℕ) → t.reply ≡ full a k → again (job_at (S + t.made) (rest - a) index) ≡ texts_of (owed (S + t.made) (rest - a) index)) →
        then_printed again (printed (length text) (left_after order (job_at S rest index) (record_of s (plain_run s (S + t.made))) t.reply)) (put 0 text out)
        ≡ texts_of (owed S rest index)
    unfolding owed advance_lines after_told left_after
    call_prints S rest index out again h g = go (told s S (asked rest)).reply refl
      where
        t : Told
        t = told s S (asked rest)

        text : List ℕ
        text = texts_of (told_lines s S t)

        line : (l : List Line) → take (length text) (put 0 text out) ++ texts_of l ≡ texts_of (told_lines s S t ++ l)
        line l = ap (λ (x : List ℕ). x ++ texts_of l) (take_front text out) ∙ sym (texts_of-append (told_lines s S t) l)

        go :
            (r : Reply) → t.reply ≡ r →
            then_printed again (printed (length text) (left_after order (job_at S rest index) (record_of s (plain_run s (S + t.made))) r)) (put 0 text out)
            ≡ texts_of ((after_told s (advance_lines s rest) S rest t r).lines ++ advances_lines s (after_told s (advance_lines s rest) S rest t r).attempts (from (index + 1)))
        go (refused n) e = next_prints (S + t.made) (index + 1) (length text) (put 0 text out) again h ∙ line (advances_lines s (S + t.made) (from (index + 1)))
        go (ran o k) e = next_prints (S + t.made) (index + 1) (length text) (put 0 text out) again h ∙ line (advances_lines s (S + t.made) (from (index + 1)))
        go (full a k) e =
            let z = told_moves s lent S rest a k e in
            let S' = S + t.made in
            let same : advance_lines s (suc (rest - a)) S' (rest - a) ≡ advance_lines s rest S' (rest - a) =
            advance_prints s lent (suc (rest - a)) S' (rest - a) (omega arith) ∙ sym (advance_prints s lent rest S' (rest - a) (omega (arith, z.0.0, z.0.1))) in
            ap (λ (x : List ℕ). take (length text) (put 0 text out) ++ x) (g a k e)
            ∙ ap (λ (p : Printed). take (length text) (put 0 text out) ++ texts_of (p.lines ++ advances_lines s p.attempts (from (index + 1)))) same
            ∙ line ((advance_lines s rest S' (rest - a)).lines ++ advances_lines s (advance_lines s rest S' (rest - a)).attempts (from (index + 1)))
            ∙ ap texts_of
            (sym (append_assoc (told_lines s S t) (advance_lines s rest S' (rest - a)).lines (advances_lines s (advance_lines s rest S' (rest - a)).attempts (from (index + 1)))))

    -- what a call leaves, with room for its lines
    call_is :
        (S rest index : ℕ) (frames : List Float) (out : List ℕ) (l : length frames ≡ lent_frames) → room_for lent_frames ≤ length out →
        let t = told s S (asked rest) in
        go_on_of (job_at S rest index) order (memory_at s memory₀ S) work frames out
        ≡ record {
          answer = printed (length (texts_of (told_lines s S t))) (left_after order (job_at S rest index) (record_of s (plain_run s (S + t.made))) t.reply);
          memory = memory_at s memory₀ (S + t.made);
          frames = (left S rest frames l).frames;
          out = put 0 (texts_of (told_lines s S t)) out;
        }
    unfolding go_on_of
    call_is S rest index frames out l h =
        let j = job_at S rest index in
        let d = left S rest frames l in
        let a = left_lines S rest frames l order j in
        let b = left_next S rest frames l order j in
        let c = left_memory S rest frames l in
        let room : room_for (length frames) ≤ length out = omega arith in
        rw (le-leb (room_for (length frames)) (length out) room)
        (λ i. record { answer = printed (length (texts_of (a i))) (b i); memory = c i; frames = d.frames; out = put 0 (texts_of (a i)) out })

    -- the lengths stay
    call_room_lent :
        (S rest index : ℕ) (frames : List Float) → length frames ≡ lent_frames → length (texts_of (told_lines s S (told s S (asked rest)))) ≤ room_for lent_frames
    call_room_lent S rest index frames l =
        let j = job_at S rest index in
        let r = call_room order j (memory_at s memory₀ S) work frames in
        let a = ap (λ (ls : List Line). length (texts_of ls)) (left_lines S rest frames l order j) in
        omega arith

    frames_stay : (S rest : ℕ) (frames : List Float) (l : length frames ≡ lent_frames) → length (left S rest frames l).frames ≡ lent_frames
    frames_stay S rest frames l = (advance_leaves (record_of s (plain_run s S)) (memory_at s memory₀ S) work frames rest).long ∙ l

    going :
        (n S rest index : ℕ) (frames : List Float) (out : List ℕ) → length frames ≡ lent_frames → room_for lent_frames ≤ length out →
        calls_behind rest index ≤ n →
        printed_by n order work (go_on_of (job_at S rest index) order (memory_at s memory₀ S) work frames out) ≡ texts_of (owed S rest index)
    unfolding printed_by calls_behind calls_for
    going zero S rest index frames out l h m =
        ap (λ (c : AfterCall). then_printed (λ j. []) c.answer c.out) (call_is S rest index frames out l h)
        ∙ call_prints S rest index out (λ j. [])
        (λ more. let e = ap calls_for (from_more (index + 1) more) in absurd (omega arith))
        (λ a k e. let z = told_moves s lent S rest a k e in absurd (omega (arith, z.0.1)))
    going (suc n) S rest index frames out l h m =
        let t = told s S (asked rest) in
        let text = texts_of (told_lines s S t) in
        let frames' = (left S rest frames l).frames in
        let l' = frames_stay S rest frames l in
        let fits : room_for lent_frames ≤ length (put 0 text out) =
        omega (arith, length-put 0 text out (omega (arith, call_room_lent S rest index frames l))) in
        ap
        (λ (c : AfterCall). then_printed (λ j. printed_by n order work (go_on_of j order c.memory work c.frames c.out)) c.answer c.out)
        (call_is S rest index frames out l h)
        ∙ call_prints S rest index out (λ j. printed_by n order work (go_on_of j order (memory_at s memory₀ (S + t.made)) work frames' (put 0 text out)))
        (λ more. let e = ap calls_for (from_more (index + 1) more) in going n (S + t.made) (budget_at order advances (index + 1)) (index + 1) frames' (put 0 text out) l' fits (omega arith))
        (λ a k e. let z = told_moves s lent S rest a k e in going n (S + t.made) (rest - a) index frames' (put 0 text out) l' fits (omega (arith, z.0.0, z.0.1)))

-- ---- the whole order
-- a call after which nothing is left
last_prints :
    (n : ℕ) (order : List ℕ) (work : List Float) (lines : List Line) (memory frames : List Float) (out : List ℕ) →
    printed_by n order work (after_turn (record { lines = lines; next = None }) memory frames out) ≡ texts_of lines
unfolding printed_by
last_prints zero order work lines memory frames out = take_front (texts_of lines) out
last_prints (suc n) order work lines memory frames out = take_front (texts_of lines) out

module _ (order : List ℕ) (memory work frames : List Float) (out : List ℕ)
    (state-lent : length memory ≡ lent_state) (work_lent : length work ≡ lent_work) (frames_lent : length frames ≡ lent_frames)
    (room : room_for lent_frames ≤ length out) where
  same_refusal : (s : Settings) → begin_refusal s (length memory) (length work) (length frames) ≡ begin_refusal s lent_state lent_work lent_frames
  same_refusal s = rw (state-lent, work_lent, frames_lent)

  module _ (s : Settings) (p : Places) where
    begun_is :
        begin_refusal s lent_state lent_work lent_frames ≡ None →
        let b = begin_of s memory work frames in
        after_turn (begin_turn order p b.answer b.frames) b.memory b.frames out
        ≡ after_turn (record { lines = map frame (start s).frames; next = advance_at order (record_of s (plain_run s 0)) p.advances 0 p.count })
        (memory_at s memory 0) (with_frames (start s).frames frames) out
    unfolding begin_turn plain_run
    begun_is e =
        let l = lendable s lent_state lent_work lent_frames e in
        ap (λ (b : AfterBegin). after_turn (begin_turn order p b.answer b.frames) b.memory b.frames out) (begin_none s memory work frames (same_refusal s ∙ e))
        ∙ ap
        (λ (fs : List (List Float)). after_turn (record { lines = map frame fs; next = advance_at order (record_of s (start s)) p.advances 0 p.count }) (with_state (start s).state memory) (with_frames (start s).frames frames) out)
        (frames_in-put (start_formed s l.sound).framed frames)

    -- from an accepted begin on
    abbrev bs : List ℕ
    bs = budgets_from order p.advances 0 p.count

    abbrev text : List ℕ
    text = texts_of (map frame (start s).frames)

    module _ (l : Lendable s lent_state lent_work lent_frames) where
      abbrev frames' : List Float
      frames' = with_frames (start s).frames frames

      frames_stay' : length frames' ≡ lent_frames
      frames_stay' = length_frames (start_formed s l.sound).framed frames (omega (arith, start_fits s lent_frames l.roomy, frames_lent)) ∙ frames_lent

      room' : room_for lent_frames ≤ length (put 0 text out)
      room' =
          let f = start_fits s lent_frames l.roomy in
          omega (arith, length-put 0 text out (omega (arith, frames_room (start_formed s l.sound).framed (frame_large s l.sound))))

      all : p.count - 0 ≡ p.count
      all = omega arith

      first_more : 0 < p.count → calls_for bs ≡ calls_for (budget_at order p.advances 0 ∷ budgets_from order p.advances (0 + 1) (p.count - (0 + 1)))
      first_more more =
          ap (λ (n : ℕ). calls_for (budgets_from order p.advances 0 n)) (sym all)
          ∙ ap calls_for (from_more s memory work l state-lent work_lent order p.advances p.count 0 more)

      owed_first : (again : Job → List ℕ) →
          (0 < p.count →
          again (job_of (record_of s (plain_run s 0)) (budget_at order p.advances 0) p.advances 0 p.count)
          ≡ texts_of (owed s memory work l state-lent work_lent order p.advances p.count 0 (budget_at order p.advances 0) 0)) →
          then_printed again (printed (length text) (advance_at order (record_of s (plain_run s 0)) p.advances 0 p.count)) (put 0 text out)
          ≡ texts_of (map frame (start s).frames ++ advances_lines s 0 bs)
      owed_first again h =
          next_prints s memory work l state-lent work_lent order p.advances p.count 0 0 (length text) (put 0 text out) again h
          ∙ ap (λ (n : ℕ). take (length text) (put 0 text out) ++ texts_of (advances_lines s 0 (budgets_from order p.advances 0 n))) all
          ∙ ap (λ (t : List ℕ). t ++ texts_of (advances_lines s 0 bs)) (take_front text out)
          ∙ sym (texts_of-append (map frame (start s).frames) (advances_lines s 0 bs))

      started :
          (n : ℕ) → calls_for bs ≤ n →
          printed_by n order work
          (after_turn (record { lines = map frame (start s).frames; next = advance_at order (record_of s (plain_run s 0)) p.advances 0 p.count })
          (memory_at s memory 0) frames' out)
          ≡ texts_of (map frame (start s).frames ++ advances_lines s 0 bs)
      unfolding printed_by calls_for calls_behind
      started zero m =
          owed_first (λ j. [])
          (λ more. let e = first_more more in absurd (omega arith))
      started (suc n) m =
          owed_first (λ j. printed_by n order work (go_on_of j order (memory_at s memory 0) work frames' (put 0 text out)))
          (λ more.
          let e = first_more more in
          going s memory work l state-lent work_lent order p.advances p.count n 0 (budget_at order p.advances 0) 0 frames' (put 0 text out) frames_stay' room' (omega arith))

    -- whatever begin answers
    begun_prints :
        (n : ℕ) → calls_for bs ≤ n →
        let b = begin_of s memory work frames in
        printed_by n order work (after_turn (begin_turn order p b.answer b.frames) b.memory b.frames out) ≡ texts_of (run_lines s bs)
    unfolding run_lines begin_turn
    begun_prints n m = go (begin_refusal s lent_state lent_work lent_frames) refl
      where
        go :
            (o : Option ℕ) → begin_refusal s lent_state lent_work lent_frames ≡ o →
            let b = begin_of s memory work frames in
            printed_by n order work (after_turn (begin_turn order p b.answer b.frames) b.memory b.frames out)
            ≡ texts_of (option o (λ k. refusal k ∷ []) (map frame (start s).frames ++ advances_lines s 0 bs))
        go (Some k) e =
            ap (λ (b : AfterBegin). printed_by n order work (after_turn (begin_turn order p b.answer b.frames) b.memory b.frames out))
            (begin_some s memory work frames k (same_refusal s ∙ e))
            ∙ last_prints n order work (refusal k ∷ []) memory frames out
        go None e = ap (printed_by n order work) (begun_is e) ∙ started (lendable s lent_state lent_work lent_frames e) n m

  -- the order carried out to its end, in as many calls of advance as its budgets want at the most, prints its lines
  pub order_prints : (n : ℕ) → calls_in order (read_order order) ≤ n → printed_by n order work (begin_order_of order memory work frames out) ≡ texts_of (lines_of order)
  unfolding begin_order_of lines_of read_lines calls_in
  order_prints n m =
      rw (le-leb (room_for (length frames)) (length out) (omega (arith, frames_lent)))
      (go (nat_lt 4096 (length order)) (read_order order) m)
    where
      eight : AfterCall
      eight = after_turn (record { lines = refusal 8 ∷ []; next = None }) memory frames out

      read : (r : Read) → calls_in order r ≤ n → printed_by n order work (begin_read order memory work frames out r) ≡ texts_of (read_lines order r)
      read (Refused k at) m = last_prints n order work (refusal_at k at ∷ []) memory frames out
      read (Order s p) m = begun_prints s p n m

      go :
          (b : Bool) (r : Read) → calls_in order r ≤ n →
          printed_by n order work (cond b eight (begin_read order memory work frames out r)) ≡ texts_of (cond b (refusal 8 ∷ []) (read_lines order r))
      go true r m = last_prints n order work (refusal 8 ∷ []) memory frames out
      go false r m = read r m
