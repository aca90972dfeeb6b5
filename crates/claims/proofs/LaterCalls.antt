-- 01, "What the promise has to rule out": "Stepping on the first call and afterwards only raising the count". Such an advance is not the
-- one that the contract of `advance` promises.
use Rattle.std.specs.Prelude.{ℕ, ◌+◌, Bool, false, cond, ◌&&◌, List, ◌≡◌, refl, eqb, leb, ltb, Float, take}
use Rattle.std.proofs.Common.{true≢false, sym, ◌∙◌, ap}
use Rattle.std.specs.Float.{binary64}
use Rattle.std.specs.Float.Ieee.{add, round, of_bits, lt, is_nan}
use Rattle.vectors.specs.Powers.{one}
use Rattle.physics.specs.Nan as nans
use Rattle.physics.specs.Nan.{state_has_nan}
use Rattle.run.specs.declared.settings.Record.{Record}
use Rattle.run.specs.Model.{holds_nan, is_late}
use Rattle.run.specs.PlainRun.{Machine, attempt, plain_run}
use Rattle.run.specs.Tally.{Told, told}
use Rattle.run.specs.Calls.{accepted, AfterAdvance, advance_of, Session, call, calls}
use Rattle.run.specs.Demand.{fed, begun}
use Rattle.run.specs.DemandProof.{Given, accepted_given, opened_at}
use Rattle.run.specs.OneCall.{session_at, one_session, told_runs}
use Rattle.run.specs.SkippedRun.{no_room_skipped}
use Rattle.claims.specs.FlatSpace.{nought, zeros, ones, flat}
use Rattle.claims.specs.NotEmpty.{blank, memory, work, fresh, once, ended_is, attempts_one, begins_flat, run_zero, delta, machine_at, sound_skipped, first_skipped, attempt_skipped, run_skipped}
use Rattle.claims.specs.LaterCalls.{raised_of, counting_of, lasting, stepped, Differs}

raises :
    (r : Record) (memory work frames : List Float) (budget : ℕ) → eqb r.steps 0 ≡ false →
    counting_of r memory work frames budget ≡ raised_of r memory frames budget
unfolding counting_of
raises r memory work frames budget h =
    ap (λ (b : Bool). cond b (advance_of r memory work frames budget) (raised_of r memory frames budget)) h

-- ---- the plain run after two attempts
abbrev twice : Float
twice = add binary64 delta delta

not_late : is_late lasting (flat delta) ≡ false
unfolding is_late lt of_bits
not_late = refl

twice_no_nan : holds_nan (flat twice) ≡ false
unfolding state_has_nan nans.holds_nan zeros ones add round is_nan of_bits
twice_no_nan = refl

run_two : plain_run lasting 2 ≡ machine_at one twice 2
unfolding plain_run
run_two = ap (attempt lasting) (run_skipped one) ∙ attempt_skipped one delta twice 1 refl not_late twice_no_nan

-- ---- calls of one attempt
begins : (begun lasting memory work (blank 0)).answer ≡ accepted (fresh lasting) 0
begins = begins_flat lasting 0 (first_skipped one) (sound_skipped one).0 (sound_skipped one).1 refl refl

given : Given lasting memory work (blank 0)
given = accepted_given lasting memory work (blank 0) (fresh lasting) 0 begins

module _
    (S : ℕ) (time : Float) (steps : ℕ) (run : plain_run lasting S ≡ machine_at one time steps)
    (early : (leb 1 steps && is_late lasting (flat time)) ≡ false) (few : ltb 2147483647 (steps + 1) ≡ false) where
  made_once : (told lasting S (fed memory (once 0))).made ≡ 1
  made_once =
      ap (λ (t : Told). t.made)
      (told_runs lasting S (fed memory (once 0)) (sound_skipped one).1 (rw (run, ended_is lasting time steps false, early, few))
      ∙ attempts_one lasting S 0 (no_room_skipped lasting refl S 0 0))

  session_once : call (session_at lasting memory S) (once 0) ≡ session_at lasting memory (S + 1)
  session_once =
      one_session lasting memory given.sound given.big S (once 0)
      ∙ ap (λ (k : ℕ). session_at lasting memory (S + k)) made_once

-- ---- the second call: it moves time
moves : (advance_of stepped.record' (take 264 stepped.memory) work (blank 0) 1).record'.time ≡ twice
unfolding call
moves =
    ap (λ (z : Session). z.record'.time) (session_once 1 delta 1 (run_skipped one) not_late refl)
    ∙ ap (λ (m : Machine). m.state.time) run_two

-- and `counting_of` does not
stands : (counting_of stepped.record' (take 264 stepped.memory) work (blank 0) 1).record'.time ≡ delta
stands =
    ap (λ (d : AfterAdvance). d.record'.time)
    (raises stepped.record' (take 264 stepped.memory) work (blank 0) 1 (ap (λ (m : Machine). eqb m.steps 0) (run_skipped one)))
    ∙ ap (λ (m : Machine). m.state.time) (run_skipped one)

later : delta ≡ twice → ⊥
unfolding lt add round of_bits
later e = true≢false (ap (λ (t : Float). lt t twice) e)

-- ---- the theorem
pub counting_differs : Differs counting_of
unfolding calls
counting_differs =
    record {
      begins = begins;
      first =
          ap (λ (z : Session). call z (once 0)) (opened_at lasting memory work (blank 0) (fresh lasting) 0 begins)
          ∙ session_once 0 nought 0 (run_zero lasting 0 (first_skipped one)) refl refl;
      second = λ e. later (sym stands ∙ ap (λ (d : AfterAdvance). d.record'.time) e ∙ moves);
    }
