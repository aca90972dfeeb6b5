-- Demand 3: the theorem. The session after a list is the one that holds the plain run after S attempts, by induction over the list.
use Rattle.std.specs.Prelude.{◌≡◌, ℕ, ◌+◌, ◌*◌, ◌≤◌, Bool, true, false, cond, not, ◌&&◌, ◌||◌, List, [], ◌∷◌, ◌++◌, map, length, drop, ◌≢◌, nat_lt, Float}
use Rattle.std.proofs.lemmas.Bool.{false≢true}
use Rattle.std.specs.Prelude.{Option, None, Some}
use Rattle.std.proofs.Math.Path.{refl, sym, ap, ap₂}
use Rattle.std.proofs.Common.{◌∙◌, subst, add-zero, zero-add, arith, length-take}
use borrow.Author.Tests.{ltb-false}
use Rattle.physics.specs.State.{lay_out}
use Rattle.physics.specs.StateLaws.{length-lay_out, state_in-put}
use Rattle.run.specs.declared.settings.Settings.{Settings}
use Rattle.run.specs.declared.settings.Record.{Record}
use Rattle.run.specs.Model.{fault_at, cell_count, work_count, frame_count, first_state, holds_nan}
use Rattle.run.specs.ModelLaws.{some_not_none}
use Rattle.run.specs.PlainRun.{Machine, option, has_ended, start, plain_run}
use Rattle.run.specs.PlainRunLaws.{start_formed, plain_run_formed, plain_run_ended_stays}
use Rattle.run.specs.Tally.{told, tally}
use Rattle.run.specs.Calls.{record_of, with_state, with_frames, refused_begin, accepted, AfterBegin, lent_refusal, begin_refusal, begin_of, Call, Session, frames_in, advanced, call, calls, replies, unused_before, unused_after, counted, total}
use Rattle.run.specs.FrameLaws.{drop-put, frames_in-put, drop_frames}
use Rattle.run.specs.OneCall.{memory_at, session_at, length_memory_at, one_answer, one_session, one_unused, told_counted, told_end}
use Rattle.run.specs.Demand.{is_end, any_end, fed, Agrees, Same, begun, opened, Demand3}

-- ---- the list
module _ (s : Settings) (memory₀ : List Float) (sound : fault_at s ≡ None) (big : cell_count s ≤ length memory₀) where
  abbrev at : ℕ → Session
  at S = session_at s memory₀ S

  -- the attempts that the tally counts of a call
  abbrev more : ℕ → Call → ℕ
  more S c = (told s S (fed memory₀ c)).made

  one_total :
      (S : ℕ) (c : Call) (rest : ℕ) → S + more S c + rest ≡ S + (counted c.budget (advanced (at S) c).reply + rest)
  one_total S c rest =
      let h : more S c ≡ counted c.budget (advanced (at S) c).reply =
      told_counted s S (fed memory₀ c) ∙ ap (counted c.budget) (sym (one_answer s memory₀ sound big S c)) in
      omega arith

  list_session : (S : ℕ) (cs : List Call) → calls (at S) cs ≡ at (S + total cs (replies (at S) cs))
  unfolding calls replies total
  list_session S [] = ap at (sym (add-zero S))
  list_session S (c ∷ cs) =
      let z = one_session s memory₀ sound big S c in
      ap (λ (y : Session). calls y cs) z
      ∙ list_session (S + more S c) cs
      ∙ ap at (ap (λ (y : Session). S + more S c + total cs (replies y cs)) (sym z) ∙ one_total S c (total cs (replies (call (at S) c) cs)))

  list_answers : (S : ℕ) (cs : List Call) → replies (at S) cs ≡ tally s S (map (fed memory₀) cs)
  unfolding replies tally
  list_answers S [] = refl
  list_answers S (c ∷ cs) =
      ap₂ ◌∷◌ (one_answer s memory₀ sound big S c)
      (ap (λ (y : Session). replies y cs) (one_session s memory₀ sound big S c) ∙ list_answers (S + more S c) cs)

  list_unused : (S : ℕ) (cs : List Call) → unused_after (at S) cs ≡ unused_before (at S) cs
  unfolding unused_after unused_before
  list_unused S [] = refl
  list_unused S (c ∷ cs) =
      let z = one_session s memory₀ sound big S c in
      ap₂ ◌∷◌ (one_unused s memory₀ sound big S c)
      (ap (λ (y : Session). unused_after y cs) z ∙ list_unused (S + more S c) cs ∙ ap (λ (y : Session). unused_before y cs) (sym z))

  -- an answer of collapse, broken or timeout says that the run has ended
  list_end : (S : ℕ) (cs : List Call) → any_end (replies (at S) cs) ≡ true → has_ended s (plain_run s (S + total cs (replies (at S) cs))) ≡ true
  unfolding replies total any_end
  list_end S [] e = absurd (false≢true e)
  list_end S (c ∷ cs) e =
      let z = one_session s memory₀ sound big S c in
      ap (λ (k : ℕ). has_ended s (plain_run s k)) (sym (one_total S c (total cs (replies (call (at S) c) cs))))
      ∙ ap (λ (y : Session). has_ended s (plain_run s (S + more S c + total cs (replies y cs)))) z
      ∙ go (is_end (advanced (at S) c).reply) refl (ap (λ (y : Session). is_end (advanced (at S) c).reply || any_end (replies y cs)) (sym z) ∙ e)
      (list_end (S + more S c) cs)
    where
      rest : ℕ
      rest = total cs (replies (at (S + more S c)) cs)

      go :
          (x : Bool) → is_end (advanced (at S) c).reply ≡ x →
          (is_end (advanced (at S) c).reply || any_end (replies (at (S + more S c)) cs)) ≡ true →
          (any_end (replies (at (S + more S c)) cs) ≡ true → has_ended s (plain_run s (S + more S c + rest)) ≡ true) →
          has_ended s (plain_run s (S + more S c + rest)) ≡ true
      go true hx g again =
          let o : has_ended s (plain_run s (S + more S c)) ≡ true =
          told_end s S (fed memory₀ c) (ap is_end (sym (one_answer s memory₀ sound big S c)) ∙ hx) in
          ap (has_ended s) (plain_run_ended_stays s (S + more S c) rest o) ∙ o
      go false hx g again = again (rw hx at g)

  -- ---- what the session says
  fed_same : (S : ℕ) (c : Call) → fed memory₀ c ≡ fed (memory_at s memory₀ S) c
  fed_same S c =
      ap (λ (n : ℕ). record { budget = c.budget; state = n; work = length c.work; frames = length c.frames })
      (simp (length-take, length_memory_at s memory₀ sound big S))

  map_same : {A B : Type 0} (f g : A → B) → ((a : A) → f a ≡ g a) → (l : List A) → map f l ≡ map g l
  map_same f g h [] = refl
  map_same f g h (a ∷ l) = ap₂ ◌∷◌ (h a) (map_same f g h l)

  beyond_same : (S : ℕ) → drop (cell_count s) (memory_at s memory₀ S) ≡ drop (cell_count s) memory₀
  beyond_same S = drop-put (lay_out (plain_run s S).state) memory₀ (cell_count s) (length-lay_out (plain_run_formed s sound S).sized)

  agrees_at : (cs : List Call) → Agrees s (at 0) cs
  agrees_at cs =
      let S = total cs (replies (at 0) cs) in
      let z : calls (at 0) cs ≡ at S = list_session 0 cs ∙ ap at (zero-add S) in
      record {
        state = rw z (state_in-put (plain_run_formed s sound S).sized memory₀);
        steps = ap (λ (y : Session). y.record'.steps) z;
        broken = ap (λ (y : Session). y.record'.broken) z;
        joined = ap (λ (y : Session). y.joined) z;
        settings = ap (λ (y : Session). y.record'.settings) z;
        answers = list_answers 0 cs ∙ ap (tally s 0) (map_same (fed memory₀) (fed (memory_at s memory₀ 0)) (fed_same 0) cs);
        beyond = ap (λ (y : Session). drop (cell_count s) y.memory) z ∙ beyond_same S ∙ sym (beyond_same 0);
        unused = list_unused 0 cs;
      }

  calls-append : (z : Session) (cs ds : List Call) → calls z (cs ++ ds) ≡ calls (calls z cs) ds
  unfolding calls
  calls-append z [] ds = refl
  calls-append z (c ∷ cs) ds = calls-append (call z c) cs ds

  same_session : (y z : Session) → y ≡ z → Same s y z
  same_session y z e =
      rw e (record { state = refl; steps = refl; broken = refl; joined = refl })

  stays_at : (cs ds : List Call) → any_end (replies (at 0) cs) ≡ true → Same s (calls (at 0) (cs ++ ds)) (calls (at 0) cs)
  stays_at cs ds e =
      let S = 0 + total cs (replies (at 0) cs) in
      let z : calls (at 0) cs ≡ at S = list_session 0 cs in
      let later = total ds (replies (at S) ds) in
      same_session (calls (at 0) (cs ++ ds)) (calls (at 0) cs)
      (calls-append (at 0) cs ds
      ∙ ap (λ (y : Session). calls y ds) z
      ∙ list_session S ds
      ∙ ap (λ (m : Machine). record { record' = record_of s m; memory = with_state m.state memory₀; joined = m.frames })
      (plain_run_ended_stays s S later (list_end 0 cs e))
      ∙ sym z)

-- ---- begin
pub clash : (n : ℕ) (r : Record) (k : ℕ) → refused_begin n ≢ accepted r k
clash n r k e = let z : ◌≡◌ {A = ℕ} 0 1 = cc in omega arith

module _ (s : Settings) (memory work frames : List Float) where
  abbrev refusal : Option ℕ
  refusal = begin_refusal s (length memory) (length work) (length frames)

  pub begin_some : (n : ℕ) → refusal ≡ Some n → begun s memory work frames ≡ record { answer = refused_begin n; memory = memory; frames = frames }
  unfolding begin_of
  begin_some n e = rw e

  abbrev pub begun_accepted : AfterBegin
  begun_accepted =
      record {
        answer = accepted (record_of s (start s)) (length (start s).frames);
        memory = with_state (start s).state memory;
        frames = with_frames (start s).frames frames;
      }

  pub begin_none : refusal ≡ None → begun s memory work frames ≡ begun_accepted
  unfolding begin_of
  begin_none e = rw e

  -- what a begin that is not refused was given
  pub record Given : Type 0 where
    pub sound : fault_at s ≡ None
    pub big : cell_count s ≤ length memory

  given : refusal ≡ None → Given
  unfolding begin_refusal lent_refusal
  given e =
      go (fault_at s) refl (nat_lt (length memory) (cell_count s)) refl (nat_lt (length work) (work_count s))
      (not s.skip && nat_lt (length frames) (frame_count s)) (holds_nan (first_state s)) e
    where
      go :
          (o : Option ℕ) → fault_at s ≡ o → (a : Bool) → nat_lt (length memory) (cell_count s) ≡ a → (b c d : Bool) →
          ◌≡◌ {A = Option ℕ} (option (option o Some (cond (a || b) (Some 11) (cond c (Some 12) None))) Some (cond d (Some 13) None)) None →
          Given
      go (Some k) ho a ha b c d g = absurd (some_not_none k g)
      go None ho true ha b c d g = absurd (some_not_none 11 g)
      go None ho false ha b c d g = record { sound = ho; big = ltb-false (length memory) (cell_count s) ha }

  module _ (r : Record) (k : ℕ) (e : (begun s memory work frames).answer ≡ accepted r k) where
    accepted_none : refusal ≡ None
    accepted_none = go refusal refl
      where
        go : (o : Option ℕ) → refusal ≡ o → refusal ≡ None
        go (Some n) h = absurd (clash n r k (ap (λ (b : AfterBegin). b.answer) (sym (begin_some n h)) ∙ e))
        go None h = h

    pub accepted_given : Given
    accepted_given = given accepted_none

    accepted_is : accepted (record_of s (start s)) (length (start s).frames) ≡ accepted r k
    accepted_is = ap (λ (b : AfterBegin). b.answer) (sym (begin_none accepted_none)) ∙ e

    pub frames_told_lem : length (start s).frames ≡ k
    frames_told_lem = let q = accepted_is in cc

    record_is : record_of s (start s) ≡ r
    record_is = let q = accepted_is in cc

    -- after an accepted begin the session holds the plain run before its first attempt
    pub opened_at : opened s memory work frames r k ≡ session_at s memory 0
    unfolding plain_run
    opened_at =
        let b = begin_none accepted_none in
        (λ i. record { record' = sym record_is i; memory = (b i).memory; joined = frames_in (sym frames_told_lem i) (frame_count s) (b i).frames })
        ∙ ap (λ (fs : List (List Float)). record { record' = record_of s (start s); memory = with_state (start s).state memory; joined = fs })
        (frames_in-put (start_formed s accepted_given.sound).framed frames)

    begin_unused : drop (k * frame_count s) (begun s memory work frames).frames ≡ drop (k * frame_count s) frames
    begin_unused =
        ap (λ (n : ℕ). drop (n * frame_count s) (begun s memory work frames).frames) (sym frames_told_lem)
        ∙ ap (λ (b : AfterBegin). drop (length (start s).frames * frame_count s) b.frames) (begin_none accepted_none)
        ∙ drop_frames (start_formed s accepted_given.sound).framed frames
        ∙ ap (λ (n : ℕ). drop (n * frame_count s) frames) frames_told_lem

  begin_beyond : drop (cell_count s) (begun s memory work frames).memory ≡ drop (cell_count s) memory
  begin_beyond = go refusal refl
    where
      go : (o : Option ℕ) → refusal ≡ o → drop (cell_count s) (begun s memory work frames).memory ≡ drop (cell_count s) memory
      go (Some n) h = ap (λ (b : AfterBegin). drop (cell_count s) b.memory) (begin_some n h)
      go None h =
          ap (λ (b : AfterBegin). drop (cell_count s) b.memory) (begin_none h)
          ∙ drop-put (lay_out (start s).state) memory (cell_count s) (length-lay_out (start_formed s (given h).sound).sized)

  module _ (n : ℕ) where
    refused_some : (begun s memory work frames).answer ≡ refused_begin n → refusal ≡ Some n
    refused_some e = go refusal refl
      where
        go : (o : Option ℕ) → refusal ≡ o → refusal ≡ Some n
        go (Some m) h =
            let q = ap (λ (b : AfterBegin). b.answer) (sym (begin_some m h)) ∙ e in
            let i : m ≡ n = cc in
            h ∙ ap Some i
        go None h =
            absurd (clash n (record_of s (start s)) (length (start s).frames) (sym e ∙ ap (λ (b : AfterBegin). b.answer) (begin_none h)))

    begin_stays : (begun s memory work frames).answer ≡ refused_begin n → ((begun s memory work frames).memory ≡ memory) × ((begun s memory work frames).frames ≡ frames)
    begin_stays e =
        let b = begin_some n (refused_some e) in
        (ap (λ (x : AfterBegin). x.memory) b, ap (λ (x : AfterBegin). x.frames) b)

  pub demand3 : Demand3 s memory work frames
  demand3 =
      record {
        refuses = λ n. (refused_some n, λ e. ap (λ (b : AfterBegin). b.answer) (begin_some n e));
        refused_stays = begin_stays;
        beyond = begin_beyond;
        unused = begin_unused;
        agrees =
            λ r k e cs.
            let g = accepted_given r k e in
            subst (λ (z : Session). Agrees s z cs) (sym (opened_at r k e)) (agrees_at s memory g.sound g.big cs);
        stays =
            λ r k e cs ds h.
            let g = accepted_given r k e in
            let z = opened_at r k e in
            subst (λ (y : Session). Same s (calls y (cs ++ ds)) (calls y cs)) (sym z)
            (stays_at s memory g.sound g.big cs ds (ap (λ (y : Session). any_end (replies y cs)) (sym z) ∙ h));
      }
