-- Searches are not empty: at level 5, in units of 64, amplitude 0 times out, and 64 and 128 collapse at once. So the search between 0 and 2 finds a
-- bracket, by one halving, and the one between 1 and 2 is refused with 16.
use Rattle.std.specs.Prelude.{ℕ, false, not, ◌≡◌, refl, Float}
use Rattle.std.proofs.Math.Bool.{and-false}
use Rattle.std.specs.Prelude.{None, Some}
use Rattle.std.proofs.Common.{ap, ◌∙◌}
use Rattle.std.specs.Float.Ieee.{mul, round, of_int, lt}
use Rattle.vectors.specs.Grid.{points_of}
use Rattle.run.specs.Calls.{lent_refusal, begin_refusal}
use Rattle.run.specs.Inputs as inputs
use Rattle.run.specs.Model.{fault_at, first_state, holds_nan, mass_at}
use Rattle.run.specs.Outcome.{Outcome, collapse, timeout}
use Rattle.run.specs.PlainRun.{Machine, ended, has_ended, outcome, outcome_of, start, plain_run}
use Rattle.run.specs.PlainRunLaws.{attempt_ended}
use Rattle.run.specs.SkipRun.{Ran, ran_to, ran_at}
use Rattle.run.specs.Tally.{too_many}
use Rattle.threshold.specs.Halving.{used, adjacent, stop, halve}
use Rattle.threshold.specs.Search.{amplitude_at, ends_refusal, Sought, refused_search, found, side_at, sought_of, search_of}
use Rattle.claims.specs.CollapsedAtOnce.{sixty_four, hundred_twenty_eight, at, mass64, no_nan_64, collapses_64, mass128, no_nan_128, collapses_128}
use Rattle.claims.specs.FlatSpace.{nought}
use Rattle.claims.specs.NotEmpty.{skipped, no_nan, delta, machine_at, first_skipped, run_skipped, outcome_skipped}

-- ---- the run at an amplitude, with memories for level 5 and a budget of 1
module _ (amplitude : Float) (sound : holds_nan (first_state (at amplitude)) ≡ false) where
  begins : begin_refusal (at amplitude) 264 1320 0 ≡ None
  unfolding begin_refusal lent_refusal fault_at inputs.fault_at points_of lt mul round of_int
  begins = rw sound

  few : too_many (has_ended (at amplitude) (start (at amplitude))) 0 1 ≡ false
  few = and-false (not (has_ended (at amplitude) (start (at amplitude))))

  ran_is :
      (m : Machine) (o : Outcome) → plain_run (at amplitude) 1 ≡ m → outcome_of (at amplitude) m ≡ o →
      ran_at skipped amplitude 264 1320 1 ≡ ran_to o m.steps m.state.time
  unfolding ran_at
  ran_is m o run out = rw (begins, few, run, out)

  -- it collapses at once
  module _ (mass : Float) (hole : mass_at (first_state (at amplitude)) ≡ Some mass) where
    stays : plain_run (at amplitude) 1 ≡ start (at amplitude)
    unfolding plain_run start ended
    stays = attempt_ended (at amplitude) (start (at amplitude)) (rw hole)

    collapsed : outcome_of (at amplitude) (start (at amplitude)) ≡ collapse mass
    unfolding start outcome
    collapsed = rw hole

    abbrev collapsed_at : Ran
    collapsed_at = ran_to (collapse mass) (start (at amplitude)).steps (start (at amplitude)).state.time

    collapses_at : ran_at skipped amplitude 264 1320 1 ≡ collapsed_at
    collapses_at = ran_is (start (at amplitude)) (collapse mass) stays collapsed

-- ---- the search in units of 64
abbrev ran_at_units : ℕ → Ran
ran_at_units u = ran_at skipped (amplitude_at sixty_four u) 264 1320 1

amplitudes : (amplitude_at sixty_four 0 ≡ nought) × ((amplitude_at sixty_four 1 ≡ sixty_four) × (amplitude_at sixty_four 2 ≡ hundred_twenty_eight))
unfolding mul round of_int
amplitudes = (refl, (refl, refl))

flat_no_nan : holds_nan (first_state (at nought)) ≡ false
flat_no_nan = ap holds_nan (first_skipped nought) ∙ no_nan

run_0 : ran_at_units 0 ≡ ran_to timeout 1 delta
run_0 =
    ap (λ (a : Float). ran_at skipped a 264 1320 1) amplitudes.0
    ∙ ran_is nought flat_no_nan (machine_at nought delta 1) timeout (run_skipped nought) outcome_skipped

run_1 : ran_at_units 1 ≡ collapsed_at sixty_four no_nan_64 mass64 collapses_64
run_1 = ap (λ (a : Float). ran_at skipped a 264 1320 1) amplitudes.1.0 ∙ collapses_at sixty_four no_nan_64 mass64 collapses_64

run_2 : ran_at_units 2 ≡ collapsed_at hundred_twenty_eight no_nan_128 mass128 collapses_128
run_2 = ap (λ (a : Float). ran_at skipped a 264 1320 1) amplitudes.1.1 ∙ collapses_at hundred_twenty_eight no_nan_128 mass128 collapses_128

-- what is shown: `low`, `high` and `halvings` are answered so
abbrev pub Answers : (low high halvings : ℕ) → Sought → Type 0
Answers low high halvings b = search_of sixty_four skipped 1 264 1320 low high halvings ≡ b

-- "the halvings are used", none and one; "the ends differ by 1"; 16
pub search_not_empty :
    Answers 0 2 0 (found (stop 0 2 0 used))
    × (Answers 0 2 1 (found (stop 0 1 1 used))
    × (Answers 0 2 2 (found (stop 0 1 1 adjacent))
    × Answers 1 2 1 (refused_search 16)))
unfolding search_of sought_of ends_refusal halve side_at
search_not_empty = (rw (run_0, run_2), (rw (run_0, run_2, run_1), (rw (run_0, run_2, run_1), rw (run_1, run_2))))
