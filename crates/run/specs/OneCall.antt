-- One call of a list: from the session that holds the plain run after S attempts to the one after those that the tally counts.
use Rattle.std.specs.Prelude.{◌≡◌, ℕ, ◌+◌, ◌*◌, ◌≤◌, Bool, true, false, cond, ◌||◌, List, [], ◌++◌, length, take, drop, nat_lt, Float}
use Rattle.std.proofs.Common.{true≢false, sym, ◌∙◌, subst₂, add-zero, zero-add, arith, length-take, take-take, ltb-false}
use Rattle.std.proofs.lemmas.Bool.{false≢true}
use mathlib.Core.List.{append-nil}
use Rattle.std.specs.Prelude.{None, Some}
use Rattle.std.proofs.Math.Path.{refl, ap}
use Rattle.std.proofs.Math.ListN.{take-append-drop}
use Rattle.vectors.specs.Grid.{points_of}
use Rattle.physics.specs.State.{State, lay_out}
use Rattle.physics.specs.StateLaws.{length-lay_out, state_in-put, state_in_same}
use Rattle.run.specs.declared.settings.Settings.{Settings}
use Rattle.run.specs.declared.settings.Record.{Record}
use Rattle.run.specs.Model.{fault_at, cell_count, work_count, frame_count}
use Rattle.run.specs.PlainRun.{Machine, has_ended, plain_run}
use Rattle.run.specs.PlainRunLaws.{after, Formed, plain_run_formed}
use Rattle.run.specs.Tally.{refused, Fed, Told, too_short, too_many, attempts, told}
use Rattle.run.specs.Calls.{record_of, machine_of, with_state, with_frames, Stop, attempts_from, AfterAdvance, left_by, advance_refusal, advance_of, Call, Session, frames_told, frames_in, advanced, call, unused_of, counted}
use Rattle.run.specs.FrameLaws.{none, length-put_front, put_again, put_lent, frames_in-put, drop_frames}
use Rattle.run.specs.CallsLaws.{from_formed, from_told, attempts_counted, attempts_end, Follows, attempts_follow}
use Rattle.run.specs.Demand.{fed, is_end}

-- ---- the ways of an advance, and of the tally
module _ (r : Record) (memory work frames : List Float) (budget : ℕ) where
  pub advance_refused :
      (n : ℕ) → advance_refusal r memory (length work) budget ≡ Some n →
      advance_of r memory work frames budget ≡ record { reply = refused n; record' = r; memory = memory; frames = frames }
  unfolding advance_of
  advance_refused n e = rw e

  pub advance_runs :
      advance_refusal r memory (length work) budget ≡ None →
      advance_of r memory work frames budget
      ≡ left_by r.settings memory frames (attempts_from r.settings (length frames) budget 0 (machine_of r memory))
  unfolding advance_of
  advance_runs e = rw e

module _ (r : Record) (memory : List Float) (work budget : ℕ) (sound : fault_at r.settings ≡ None) where
  refusal_short : too_short r.settings (length memory) work ≡ true → advance_refusal r memory work budget ≡ Some 11
  unfolding advance_refusal
  refusal_short h = rw (sound, h)

  refusal_later :
      too_short r.settings (length memory) work ≡ false →
      advance_refusal r memory work budget ≡ cond (too_many (has_ended r.settings (machine_of r memory)) r.steps budget) (Some 14) None
  unfolding advance_refusal
  refusal_later h = rw (sound, h)

module _ (s : Settings) (S : ℕ) (c : Fed) where
  told_short : too_short s c.state c.work ≡ true → told s S c ≡ record { made = 0; reply = refused 11 }
  unfolding told
  told_short e = rw e

  told_many :
      too_short s c.state c.work ≡ false → too_many (has_ended s (plain_run s S)) (plain_run s S).steps c.budget ≡ true →
      told s S c ≡ record { made = 0; reply = refused 14 }
  unfolding told
  told_many e h = rw (e, h)

  pub told_runs :
      too_short s c.state c.work ≡ false → too_many (has_ended s (plain_run s S)) (plain_run s S).steps c.budget ≡ false →
      told s S c ≡ attempts s S c.frames c.budget 0
  unfolding told
  told_runs e h = rw (e, h)

  pub told_counted : (told s S c).made ≡ counted c.budget (told s S c).reply
  unfolding told counted
  told_counted =
      go (too_short s c.state c.work) (too_many (has_ended s (plain_run s S)) (plain_run s S).steps c.budget)
      (attempts s S c.frames c.budget 0)
      (attempts_counted s S c.frames c.budget 0
      ∙ ap (λ (k : ℕ). counted k (attempts s S c.frames c.budget 0).reply) (zero-add c.budget))
    where
      go :
          (x y : Bool) (a : Told) → a.made ≡ counted c.budget a.reply →
          let t = cond x (record { made = 0; reply = refused 11 }) (cond y (record { made = 0; reply = refused 14 }) a) in
          t.made ≡ counted c.budget t.reply
      go true y a h = refl
      go false true a h = refl
      go false false a h = h

  -- an answer of collapse, broken or timeout says that the run has ended
  pub told_end : is_end (told s S c).reply ≡ true → has_ended s (plain_run s (S + (told s S c).made)) ≡ true
  unfolding told is_end
  told_end e =
      go (too_short s c.state c.work) (too_many (has_ended s (plain_run s S)) (plain_run s S).steps c.budget)
      (attempts s S c.frames c.budget 0) (attempts_end s S c.frames c.budget 0) e
    where
      go :
          (x y : Bool) (a : Told) → (is_end a.reply ≡ true → has_ended s (plain_run s (S + a.made)) ≡ true) →
          let t = cond x (record { made = 0; reply = refused 11 }) (cond y (record { made = 0; reply = refused 14 }) a) in
          is_end t.reply ≡ true → has_ended s (plain_run s (S + t.made)) ≡ true
      go true y a h g = absurd (false≢true g)
      go false true a h g = absurd (false≢true g)
      go false false a h g = h g

-- ---- the session that holds the plain run after S attempts, in the state memory that begin was lent
module _ (s : Settings) (memory₀ : List Float) where
  abbrev pub memory_at : ℕ → List Float
  memory_at S = with_state (plain_run s S).state memory₀

  abbrev pub session_at : ℕ → Session
  session_at S = record { record' = record_of s (plain_run s S); memory = memory_at S; joined = (plain_run s S).frames }

  -- what a call leaves, where the tally told `t` and the advance left `d`
  record Called (S : ℕ) (c : Call) (t : Told) (d : AfterAdvance) : Type 0 where
    reply : d.reply ≡ t.reply
    record' : d.record' ≡ record_of s (plain_run s (S + t.made))
    memory : d.memory ++ drop c.lends (memory_at S) ≡ memory_at (S + t.made)
    joined : (plain_run s S).frames ++ frames_in (frames_told d.reply) (frame_count s) d.frames ≡ (plain_run s (S + t.made)).frames
    unused : drop (frames_told d.reply * frame_count s) d.frames ≡ drop (frames_told d.reply * frame_count s) c.frames

  module _ (sound : fault_at s ≡ None) (big : cell_count s ≤ length memory₀) where
    length_state : (S : ℕ) → length (lay_out (plain_run s S).state) ≡ cell_count s
    length_state S = length-lay_out (plain_run_formed s sound S).sized

    pub length_memory_at : (S : ℕ) → length (memory_at S) ≡ length memory₀
    length_memory_at S = length-put_front (lay_out (plain_run s S).state) memory₀ (omega (arith, length_state S))

    module _ (S : ℕ) (c : Call) where
      abbrev lent : List Float
      lent = take c.lends (memory_at S)

      abbrev r : Record
      r = record_of s (plain_run s S)

      -- the plain run's machine without its frames
      abbrev fresh : Machine
      fresh = record { state = (plain_run s S).state; steps = (plain_run s S).steps; broken = (plain_run s S).broken; frames = [] }

      lent_length : length (take c.lends memory₀) ≡ length lent
      lent_length = simp (length-take, length_memory_at S)

      -- a call that lends enough reads the whole state
      lent_machine : cell_count s ≤ length lent → machine_of r lent ≡ fresh
      lent_machine h =
          let k : cell_count s ≤ c.lends = omega (arith, rw length-take at h) in
          ap (λ (a : State). record { state = a; steps = (plain_run s S).steps; broken = (plain_run s S).broken; frames = [] })
          (state_in_same (points_of s.level) (plain_run s S).state.time lent (memory_at S) (take-take (cell_count s) c.lends (memory_at S) k)
          ∙ state_in-put (plain_run_formed s sound S).sized memory₀)

      refused_called :
          (n : ℕ) →
          Called S c (record { made = 0; reply = refused n }) (record { reply = refused n; record' = r; memory = lent; frames = c.frames })
      unfolding frames_told frames_in
      refused_called n =
          let same : plain_run s S ≡ plain_run s (S + 0) = ap (plain_run s) (sym (add-zero S)) in
          record {
            reply = refl;
            record' = ap (record_of s) same;
            memory = take-append-drop c.lends (memory_at S) ∙ ap (λ (m : Machine). with_state m.state memory₀) same;
            joined = append-nil (plain_run s S).frames ∙ ap (λ (m : Machine). m.frames) same;
            unused = refl;
          }

      ran_called :
          cell_count s ≤ length lent → (t : Told) (e : Stop) → Follows s S t e → Formed s e.machine →
          frames_told e.reply ≡ length e.machine.frames →
          Called S c t (left_by s lent c.frames e)
      ran_called h t e f d k =
          record {
            reply = f.reply;
            record' = ap (record_of s) (sym f.machine);
            memory =
                put_lent (lay_out e.machine.state) (memory_at S) c.lends (omega (arith, length-lay_out d.sized))
                ∙ put_again (lay_out (plain_run s S).state) memory₀ (lay_out e.machine.state) (length-lay_out d.sized ∙ sym (length_state S))
                ∙ ap (λ (m : Machine). with_state m.state memory₀) (sym f.machine);
            joined =
                ap (λ (fs : List (List Float)). (plain_run s S).frames ++ fs)
                (ap (λ (i : ℕ). frames_in i (frame_count s) (with_frames e.machine.frames c.frames)) k ∙ frames_in-put d.framed c.frames)
                ∙ ap (λ (m : Machine). m.frames) (sym f.machine);
            unused =
                ap (λ (i : ℕ). drop (i * frame_count s) (with_frames e.machine.frames c.frames)) k
                ∙ drop_frames d.framed c.frames
                ∙ ap (λ (i : ℕ). drop (i * frame_count s) c.frames) (sym k);
          }

      called : Called S c (told s S (fed memory₀ c)) (advanced (session_at S) c)
      called = go (too_short s (length lent) (length c.work)) refl (too_many (has_ended s (plain_run s S)) (plain_run s S).steps c.budget) refl
        where
          same_short : too_short s (length (take c.lends memory₀)) (length c.work) ≡ too_short s (length lent) (length c.work)
          same_short = ap (λ (k : ℕ). too_short s k (length c.work)) lent_length

          enough : too_short s (length lent) (length c.work) ≡ false → cell_count s ≤ length lent
          enough h = by_left (nat_lt (length lent) (cell_count s)) (nat_lt (length c.work) (work_count s)) (ltb-false (length lent) (cell_count s)) h
            where
              by_left : (x y : Bool) → (x ≡ false → cell_count s ≤ length lent) → (x || y) ≡ false → cell_count s ≤ length lent
              by_left true y f e = absurd (true≢false e)
              by_left false y f e = f refl

          later :
              (b : Bool) → too_short s (length lent) (length c.work) ≡ false →
              too_many (has_ended s (plain_run s S)) (plain_run s S).steps c.budget ≡ b →
              advance_refusal r lent (length c.work) c.budget ≡ cond b (Some 14) None
          later b hx hy =
              refusal_later r lent (length c.work) c.budget sound hx
              ∙ ap (λ (m : Machine). cond (too_many (has_ended s m) (plain_run s S).steps c.budget) (Some 14) None) (lent_machine (enough hx))
              ∙ ap (λ (x : Bool). cond x (Some 14) None) hy

          run : Stop
          run = attempts_from s (length c.frames) c.budget 0 fresh

          first_frames_lem : plain_run s (S + 0) ≡ after s fresh (plain_run s S).frames
          first_frames_lem =
              ap (plain_run s) (add-zero S)
              ∙ ap (λ (fs : List (List Float)). record { state = (plain_run s S).state; steps = (plain_run s S).steps; broken = (plain_run s S).broken; frames = fs })
              (sym (append-nil (plain_run s S).frames))

          go :
              (x : Bool) → too_short s (length lent) (length c.work) ≡ x →
              (y : Bool) → too_many (has_ended s (plain_run s S)) (plain_run s S).steps c.budget ≡ y →
              Called S c (told s S (fed memory₀ c)) (advanced (session_at S) c)
          go true hx y hy =
              subst₂ (Called S c)
              (sym (told_short s S (fed memory₀ c) (same_short ∙ hx)))
              (sym (advance_refused r lent c.work c.frames c.budget 11
              (refusal_short r lent (length c.work) c.budget sound hx)))
              (refused_called 11)
          go false hx true hy =
              subst₂ (Called S c)
              (sym (told_many s S (fed memory₀ c) (same_short ∙ hx) hy))
              (sym (advance_refused r lent c.work c.frames c.budget 14 (later true hx hy)))
              (refused_called 14)
          go false hx false hy =
              subst₂ (Called S c)
              (sym (told_runs s S (fed memory₀ c) (same_short ∙ hx) hy))
              (sym
              (advance_runs r lent c.work c.frames c.budget (later false hx hy)
              ∙ ap (λ (m : Machine). left_by s lent c.frames (attempts_from s (length c.frames) c.budget 0 m)) (lent_machine (enough hx))))
              (ran_called (enough hx) (attempts s S (length c.frames) c.budget 0) run
              (attempts_follow s S (length c.frames) c.budget 0 fresh first_frames_lem)
              (from_formed s (length c.frames) sound c.budget 0 fresh (record { sized = (plain_run_formed s sound S).sized; framed = none }))
              (from_told s (length c.frames) c.budget 0 fresh))

      -- the answer, the session after it, and the rest of its frame memory
      pub one_answer : (advanced (session_at S) c).reply ≡ (told s S (fed memory₀ c)).reply
      one_answer = called.reply

      pub one_session : call (session_at S) c ≡ session_at (S + (told s S (fed memory₀ c)).made)
      unfolding call
      one_session =
          let d = called in
          λ i. record { record' = d.record' i; memory = d.memory i; joined = d.joined i }

      pub one_unused : unused_of (session_at S) c (advanced (session_at S) c).frames ≡ unused_of (session_at S) c c.frames
      one_unused = called.unused
