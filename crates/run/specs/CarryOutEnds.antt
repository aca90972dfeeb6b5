-- The calls of an order end: each leaves fewer to make, as long as frame memory has room for a frame.
use Rattle.std.specs.Prelude.{◌≡◌, ℕ, zero, suc, ◌+◌, ◌-◌, ◌*◌, ◌<◌, ◌≤◌, Bool, true, false, cond, not, ◌&&◌, List, [], ◌∷◌, length, nat_lt, Float}
use Rattle.std.proofs.Math.Bool.{and-false}
use Rattle.std.specs.Prelude.{Option, None, Some}
use Rattle.std.proofs.Math.Path.{refl, ap, subst}
use Rattle.std.proofs.Common.{sym, ◌∙◌, ltb-true}
use native.Mathlib.Omega.{arith}
use Rattle.run.specs.declared.settings.Settings.{Settings}
use Rattle.run.specs.declared.settings.Record.{Record}
use Rattle.run.specs.declared.order.Places.{Places}
use Rattle.run.specs.Order.{Read, Refused, Order}
use Rattle.run.specs.declared.carry_out.Job.{Job}
use Rattle.run.specs.Model.{frame_count, frames_next}
use Rattle.run.specs.ModelLaws.{frames_next_skipped}
use Rattle.run.specs.PlainRun.{Machine, has_ended, outcome_of, attempt, start}
use Rattle.run.specs.Tally.{Reply, refused, full, ran}
use Rattle.run.specs.Calls.{record_of, machine_of, is_full, attempts_from, begin_refusal, AfterBegin, begin_of, AfterAdvance, advance_refusal, advance_of}
use Rattle.run.specs.OneCall.{advance_refused, advance_runs}
use Rattle.run.specs.AdvanceLaws.{ran_not_full, refused_not_full, from_full_few, advance_leaves}
use Rattle.run.specs.DemandProof.{begin_some, begin_none}
use Rattle.run.specs.OrderLinesLaws.{Roomy, lendable}
use Rattle.run.specs.Order.{budget_at, read_order}
use Rattle.run.specs.OrderLines.{budgets_from}
use Rattle.run.specs.Lines.{refusal}
use Rattle.run.specs.CarryOut.{job_of, advance_at, left_after, advance_turn, begin_turn, Answered, refused_call, printed, AfterCall, has_room, after_turn, stayed, go_on_of, begin_read, begin_order_of, calls_for}

-- how many calls a job wants at the most: its own, one for each attempt that is left of its budget, and those of the budgets behind it
unfoldable pub calls_of : (order : List ℕ) → Job → ℕ
calls_of order j = suc (j.rest + calls_for (budgets_from order j.advances (j.index + 1) (j.count - (j.index + 1))))

unfoldable pub calls_left : (order : List ℕ) → Option Job → ℕ
calls_left order None = 0
calls_left order (Some j) = calls_of order j

-- what is left after a call
abbrev pub next_of : Answered → Option Job
next_of (refused_call n) = None
next_of (printed end next) = next

-- frame memory has room for a frame of the job's run, or the run makes none
abbrev pub FairNext : (room : ℕ) → Option Job → Type 0
FairNext room None = Unit {0}
FairNext room (Some j) = Roomy j.run.settings room

-- ---- full has made an attempt
module _ (s : Settings) (room : ℕ) (roomy : Roomy s room) where
  first_not_full : (m : Machine) → m.frames ≡ [] → is_full s room m ≡ false
  unfolding is_full
  first_not_full m e = go s.skip refl roomy
    where
      go :
          (b : Bool) → s.skip ≡ b → (not b && nat_lt room (frame_count s)) ≡ false →
          (not (has_ended s m) && (frames_next s m.state && nat_lt (room - length m.frames * frame_count s) (frame_count s))) ≡ false
      go true h r = rw (frames_next_skipped s m.state h) (and-false (not (has_ended s m)))
      go false h r =
          let z : room - length m.frames * frame_count s ≡ room =
          ap (λ (fs : List (List Float)). room - length fs * frame_count s) e ∙ (let y : room - 0 * frame_count s ≡ room = omega arith in y) in
          rw (z, r, and-false (frames_next s m.state)) (and-false (not (has_ended s m)))

  from_moves : (budget : ℕ) (m : Machine) → m.frames ≡ [] → (a k : ℕ) → (attempts_from s room budget 0 m).reply ≡ full a k → 1 ≤ a
  unfolding attempts_from
  from_moves zero m e a k q = absurd (ran_not_full (outcome_of s m) (length m.frames) a k q)
  from_moves (suc left) m e a k q =
      let z = from_full_few s room left (0 + 1) (attempt s m) a k (rw (first_not_full m e) at q) in omega (arith, z.0)

pub advance_moves :
    (r : Record) (memory work frames : List Float) (budget : ℕ) → Roomy r.settings (length frames) →
    (a k : ℕ) → (advance_of r memory work frames budget).reply ≡ full a k → 1 ≤ a
advance_moves r memory work frames budget roomy a k e = go (advance_refusal r memory (length work) budget) refl
  where
    go : (o : Option ℕ) → advance_refusal r memory (length work) budget ≡ o → 1 ≤ a
    go (Some n) h = absurd (refused_not_full n a k (ap (λ (d : AfterAdvance). d.reply) (sym (advance_refused r memory work frames budget n h)) ∙ e))
    go None h =
        from_moves r.settings (length frames) roomy budget (machine_of r memory) refl a k
        (ap (λ (d : AfterAdvance). d.reply) (sym (advance_runs r memory work frames budget h)) ∙ e)

-- ---- a call leaves fewer
next_fewer :
    (order : List ℕ) (r : Record) (j : Job) → calls_left order (advance_at order r j.advances (j.index + 1) j.count) < calls_of order j
unfolding advance_at calls_left calls_of budgets_from calls_for
next_fewer order r j = go (nat_lt (j.index + 1) j.count) refl
  where
    go :
        (b : Bool) → nat_lt (j.index + 1) j.count ≡ b →
        calls_left order (cond b (Some (job_of r (budget_at order j.advances (j.index + 1)) j.advances (j.index + 1) j.count)) None)
        < suc (j.rest + calls_for (budgets_from order j.advances (j.index + 1) (j.count - (j.index + 1))))
    go false e = omega arith
    go true e =
        let l = ltb-true (j.index + 1) j.count e in
        let n : j.count - (j.index + 1) ≡ suc (j.count - (j.index + 1 + 1)) = omega arith in
        let c = ap (λ (k : ℕ). calls_for (budgets_from order j.advances (j.index + 1) k)) n in
        omega arith

left_fewer :
    (order : List ℕ) (r : Record) (j : Job) (reply : Reply) → ((a k : ℕ) → reply ≡ full a k → (1 ≤ a) × (a ≤ j.rest)) →
    calls_left order (left_after order j r reply) < calls_of order j
unfolding left_after calls_left calls_of
left_fewer order r j (refused n) h = next_fewer order r j
left_fewer order r j (ran o k) h = next_fewer order r j
left_fewer order r j (full a k) h = let z = h a k refl in omega (arith, z.0, z.1)

-- an advance of this run, if there is one
advance_fair :
    (order : List ℕ) (room : ℕ) (r : Record) (advances index count : ℕ) → Roomy r.settings room →
    FairNext room (advance_at order r advances index count)
unfolding advance_at
advance_fair order room r advances index count h = go (nat_lt index count)
  where
    go : (b : Bool) → FairNext room (cond b (Some (job_of r (budget_at order advances index) advances index count)) None)
    go true = h
    go false = tt

left_fair :
    (order : List ℕ) (room : ℕ) (r : Record) (j : Job) (reply : Reply) → Roomy r.settings room → FairNext room (left_after order j r reply)
unfolding left_after
left_fair order room r j (full a k) h = h
left_fair order room r j (refused n) h = advance_fair order room r j.advances (j.index + 1) j.count h
left_fair order room r j (ran o k) h = advance_fair order room r j.advances (j.index + 1) j.count h

module _ (j : Job) (order : List ℕ) (memory work frames : List Float) (out : List ℕ) (roomy : Roomy j.run.settings (length frames)) where
  abbrev d : AfterAdvance
  d = advance_of j.run memory work frames j.rest

  pub go_on_falls : calls_left order (next_of (go_on_of j order memory work frames out).answer) < calls_of order j
  unfolding go_on_of calls_left calls_of
  go_on_falls = go (has_room (length frames) (length out))
    where
      go :
          (b : Bool) →
          calls_left order (next_of (cond b (after_turn (advance_turn order j d) d.memory d.frames out) (stayed memory frames out)).answer)
          < calls_of order j
      go true =
          left_fewer order d.record' j d.reply
          (λ a k e. (advance_moves j.run memory work frames j.rest roomy a k e, (advance_leaves j.run memory work frames j.rest).few a k e))
      go false = omega arith

  pub go_on_fair : FairNext (length frames) (next_of (go_on_of j order memory work frames out).answer)
  unfolding go_on_of
  go_on_fair = go (has_room (length frames) (length out))
    where
      go : (b : Bool) → FairNext (length frames) (next_of (cond b (after_turn (advance_turn order j d) d.memory d.frames out) (stayed memory frames out)).answer)
      go false = tt
      go true =
          left_fair order (length frames) d.record' j d.reply
          (subst (λ (s : Settings). Roomy s (length frames)) (sym (advance_leaves j.run memory work frames j.rest).settings) roomy)

-- ---- an accepted begin leaves a job whose frames have room
module _ (order : List ℕ) (memory work frames : List Float) (out : List ℕ) where
  begun_fair : (s : Settings) (p : Places) → let b = begin_of s memory work frames in FairNext (length frames) (begin_turn order p b.answer b.frames).next
  unfolding begin_turn
  begun_fair s p = go (begin_refusal s (length memory) (length work) (length frames)) refl
    where
      go :
          (o : Option ℕ) → begin_refusal s (length memory) (length work) (length frames) ≡ o →
          let b = begin_of s memory work frames in FairNext (length frames) (begin_turn order p b.answer b.frames).next
      go (Some n) e =
          subst (λ (b : AfterBegin). FairNext (length frames) (begin_turn order p b.answer b.frames).next) (sym (begin_some s memory work frames n e)) tt
      go None e =
          subst (λ (b : AfterBegin). FairNext (length frames) (begin_turn order p b.answer b.frames).next) (sym (begin_none s memory work frames e))
          (advance_fair order (length frames) (record_of s (start s)) p.advances 0 p.count
          (lendable s (length memory) (length work) (length frames) e).roomy)

  pub begin_fair : FairNext (length frames) (next_of (begin_order_of order memory work frames out).answer)
  unfolding begin_order_of
  begin_fair = go (has_room (length frames) (length out)) (nat_lt 4096 (length order)) (read_order order)
    where
      eight : AfterCall
      eight = after_turn (record { lines = refusal 8 ∷ []; next = None }) memory frames out

      read : (r : Read) → FairNext (length frames) (next_of (begin_read order memory work frames out r).answer)
      read (Refused n at) = tt
      read (Order s p) = begun_fair s p

      go :
          (a b : Bool) (r : Read) →
          FairNext (length frames) (next_of (cond a (cond b eight (begin_read order memory work frames out r)) (stayed memory frames out)).answer)
      go false b r = tt
      go true true r = tt
      go true false r = read r
