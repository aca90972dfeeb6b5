-- After an accepted begin: once the run has ended, whether or not a call was told so, no further call changes state, step count, broken mark or
-- frames. `stays` of Demand3 says it of an end that a call answered.
use Rattle.std.specs.Prelude.{ℕ, ◌+◌, true, List, [], ◌∷◌, ◌++◌, ◌≡◌, Float}
use Rattle.std.proofs.Common.{sym, ◌∙◌, ap, arith}
use Rattle.run.specs.declared.settings.Settings.{Settings}
use Rattle.run.specs.declared.settings.Record.{Record}
use Rattle.run.specs.PlainRun.{Machine, has_ended, plain_run}
use Rattle.run.specs.PlainRunLaws.{plain_run_ended_stays}
use Rattle.run.specs.Calls.{accepted, Call, Session, call, calls, replies, total}
use Rattle.run.specs.Demand.{Same, begun, opened}
use Rattle.run.specs.DemandProof.{demand3}

-- the attempts of two lists of calls, one after the other
total-append :
    (z : Session) (cs ds : List Call) →
    total (cs ++ ds) (replies z (cs ++ ds)) ≡ total cs (replies z cs) + total ds (replies (calls z cs) ds)
unfolding total replies calls
total-append z [] ds = omega arith
total-append z (c ∷ cs) ds =
    let h = total-append (call z c) cs ds in
    omega (arith, h)

module _ (s : Settings) (memory work frames : List Float) (r : Record) (k : ℕ) (e : (begun s memory work frames).answer ≡ accepted r k) where
  abbrev z : Session
  z = opened s memory work frames r k

  -- how many attempts a list of calls counts for
  abbrev attempts_of : List Call → ℕ
  attempts_of cs = total cs (replies z cs)

  pub ended_stays : (cs ds : List Call) → has_ended s (plain_run s (attempts_of cs)) ≡ true → Same s (calls z (cs ++ ds)) (calls z cs)
  ended_stays cs ds h =
      let before = (demand3 s memory work frames).agrees r k e cs in
      let after = (demand3 s memory work frames).agrees r k e (cs ++ ds) in
      let same : plain_run s (attempts_of (cs ++ ds)) ≡ plain_run s (attempts_of cs) =
      ap (plain_run s) (total-append z cs ds) ∙ plain_run_ended_stays s (attempts_of cs) (total ds (replies (calls z cs) ds)) h in
      record {
        state = after.state ∙ ap (λ (m : Machine). m.state) same ∙ sym before.state;
        steps = after.steps ∙ ap (λ (m : Machine). m.steps) same ∙ sym before.steps;
        broken = after.broken ∙ ap (λ (m : Machine). m.broken) same ∙ sym before.broken;
        joined = after.joined ∙ ap (λ (m : Machine). m.frames) same ∙ sym before.joined;
      }
