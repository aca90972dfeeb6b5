-- With skip, a begin that is accepted and one advance give the plain run after the whole budget, never full, no frame, or are refused with 14.
use Rattle.std.specs.Prelude.{◌≡◌, ℕ, zero, suc, ◌+◌, ◌≤◌, true, false, not, List, length, take, refl, Float}
use Rattle.std.proofs.Math.Bool.{and-false}
use Rattle.std.proofs.Math.Path.{sym, ap}
use Rattle.std.proofs.Common.{◌∙◌, add-zero, le_of_eq, take_all, le-ltb}
use Rattle.std.proofs.Math.Nat.{zero-add}
use native.Mathlib.Omega.{arith}
use Rattle.run.specs.declared.settings.Settings.{Settings}
use Rattle.run.specs.declared.settings.Record.{Record}
use Rattle.run.specs.Model.{cell_count, work_count}
use Rattle.run.specs.ModelLaws.{frames_next_skipped}
use Rattle.run.specs.PlainRun.{has_ended, outcome_of, start, plain_run}
use Rattle.run.specs.PlainRunLaws.{plain_run_skipped}
use Rattle.run.specs.Tally.{refused, ran, Told, too_short, too_many, appended, no_room, attempts, told}
use Rattle.run.specs.Calls.{record_of, accepted, AfterAdvance, advance_of, Call, Session, call, advanced}
use Rattle.run.specs.Demand.{fed, begun}
use Rattle.run.specs.OneCall.{memory_at, session_at, length_memory_at, one_answer, one_session, told_runs}
use Rattle.run.specs.DemandProof.{accepted_given, frames_told_lem, opened_at}

-- what such an advance answers
pub record AfterSkipped (s : Settings) (budget : ℕ) (d : AfterAdvance) : Type 0 where
  pub reply : d.reply ≡ ran (outcome_of s (plain_run s budget)) 0
  pub record' : d.record' ≡ record_of s (plain_run s budget)

module _ (s : Settings) (skip : s.skip ≡ true) where
  pub no_room_skipped : (S room made : ℕ) → no_room s S room made ≡ false
  unfolding no_room
  no_room_skipped S room made =
      rw (frames_next_skipped s (plain_run s (S + made)).state skip) (and-false (not (has_ended s (plain_run s (S + made)))))

  appended_skipped : (S made : ℕ) → appended s S made ≡ 0
  unfolding appended
  appended_skipped S made = rw (plain_run_skipped s skip (S + made), plain_run_skipped s skip S)

  attempts_skipped :
      (S room left made : ℕ) →
      attempts s S room left made ≡ record { made = made + left; reply = ran (outcome_of s (plain_run s (S + (made + left)))) 0 }
  unfolding attempts
  attempts_skipped S room zero made =
      rw (appended_skipped S made)
      (ap (λ (k : ℕ). record { made = k; reply = ran (outcome_of s (plain_run s (S + k))) 0 }) (sym (add-zero made)))
  attempts_skipped S room (suc left) made =
      rw (no_room_skipped S room made)
      (attempts_skipped S room left (made + 1)
      ∙ ap (λ (k : ℕ). record { made = k; reply = ran (outcome_of s (plain_run s (S + k))) 0 })
      (let e : made + 1 + left ≡ made + suc left = omega arith in e))

  module _ (memory work frames : List Float) (r : Record) (k : ℕ) (e : (begun s memory work frames).answer ≡ accepted r k) where
    -- begin answers no frame
    pub skipped_begin : k ≡ 0
    unfolding plain_run
    skipped_begin = sym (frames_told_lem s memory work frames r k e) ∙ ap length (plain_run_skipped s skip 0)

    -- one advance on the whole of the state memory, with enough work memory
    module _ (work' frames' : List Float) (budget : ℕ) (enough : work_count s ≤ length work') where
      abbrev one : Call
      one = record { budget = budget; lends = length memory; work = work'; frames = frames' }

      long : too_short s (length (take (length memory) memory)) (length work') ≡ false
      long =
          let g = accepted_given s memory work frames r k e in
          let all : cell_count s ≤ length (take (length memory) memory) =
          rw (take_all (length memory) memory (le_of_eq refl)) g.big in
          rw (le-ltb (length (take (length memory) memory)) (cell_count s) all, le-ltb (length work') (work_count s) enough)

      same : advance_of r (begun s memory work frames).memory work' frames' budget ≡ advanced (session_at s memory 0) one
      same =
          let g = accepted_given s memory work frames r k e in
          let o = opened_at s memory work frames r k e in
          let all : take (length memory) (memory_at s memory 0) ≡ memory_at s memory 0 =
          take_all (length memory) (memory_at s memory 0) (le_of_eq (length_memory_at s memory g.sound g.big 0)) in
          ap (λ (z : Session). advance_of z.record' z.memory work' frames' budget) o
          ∙ ap (λ (m : List Float). advance_of (record_of s (plain_run s 0)) m work' frames' budget) (sym all)

      replied : (advance_of r (begun s memory work frames).memory work' frames' budget).reply ≡ (told s 0 (fed memory one)).reply
      replied =
          let g = accepted_given s memory work frames r k e in
          ap (λ (d : AfterAdvance). d.reply) same ∙ one_answer s memory g.sound g.big 0 one

      -- a budget that is refused with 14, and one that is not
      many_told : too_many (has_ended s (start s)) 0 budget ≡ true → (told s 0 (fed memory one)).reply ≡ refused 14
      unfolding told plain_run start
      many_told many = rw (long, many)

      pub refused_14 :
          too_many (has_ended s (start s)) 0 budget ≡ true →
          (advance_of r (begun s memory work frames).memory work' frames' budget).reply ≡ refused 14
      refused_14 many = replied ∙ many_told many

      module _ (few : too_many (has_ended s (start s)) 0 budget ≡ false) where
        one_told : told s 0 (fed memory one) ≡ record { made = budget; reply = ran (outcome_of s (plain_run s budget)) 0 }
        unfolding plain_run start
        one_told = told_runs s 0 (fed memory one) long few ∙ attempts_skipped 0 (length frames') budget 0 ∙ simp zero-add

        pub skipped_advance : AfterSkipped s budget (advance_of r (begun s memory work frames).memory work' frames' budget)
        unfolding call
        skipped_advance =
            let g = accepted_given s memory work frames r k e in
            record {
              reply = replied ∙ ap (λ (t : Told). t.reply) one_told;
              record' =
                  ap (λ (d : AfterAdvance). d.record') same
                  ∙ ap (λ (z : Session). z.record') (one_session s memory g.sound g.big 0 one)
                  ∙ ap (λ (t : Told). record_of s (plain_run s (0 + t.made))) one_told
                  ∙ ap (λ (i : ℕ). record_of s (plain_run s i)) (zero-add budget);
            }
