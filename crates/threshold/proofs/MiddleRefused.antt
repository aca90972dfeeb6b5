-- 02, request 1, "a middle run .. is refused": of an accepted search such a middle's initial state holds a NaN, and its number is 13. What begin
-- refuses before it makes a state is the same for every amplitude, and a budget with which low's run times out is not refused with 14.
use Rattle.std.specs.Prelude.{◌≡◌, ℕ, ◌+◌, ◌/◌, Bool, true, false, cond, not, ◌&&◌, ◌≢◌, nat_lt, refl, Float}
use Rattle.std.proofs.Math.Bool.{and-false}
use Rattle.std.proofs.Common.{true≢false, sym, ◌∙◌, zero-add, arith}
use Rattle.std.specs.Prelude.{Option, None, Some}
use Rattle.std.proofs.Math.Path.{ap}
use Rattle.run.specs.declared.settings.Settings.{Settings}
use Rattle.run.specs.Calls.{lent_refusal, begin_refusal}
use Rattle.run.specs.Model.{holds_nan, first_state, mass_at}
use Rattle.run.specs.ModelLaws.{some_not_none}
use Rattle.run.specs.Outcome.{Outcome, collapse, broke, timeout, spent}
use Rattle.run.specs.PlainRun.{option, has_ended, outcome, outcome_of, start, plain_run}
use Rattle.run.specs.PlainRunLaws.{plain_run_ended_stays}
use Rattle.run.specs.SkipRun.{not_begun, not_run, ran_to, ran_at}
use Rattle.run.specs.SkipRunLaws.{lent_same}
use Rattle.run.specs.Tally.{too_many}
use Rattle.threshold.specs.Halving.{refused_run, undecided, Bracket}
use Rattle.threshold.specs.Search.{amplitude_at, side_of, found, side_at, search_of}
use Rattle.threshold.specs.BracketKept.{at, outcome_at, run_timeout}
use Rattle.threshold.proofs.BracketKept.{keeps}

-- timeout wants a step
start_no_timeout : (s : Settings) → outcome_of s (start s) ≢ timeout
unfolding start outcome
start_no_timeout s e = go (mass_at (first_state s)) e
  where
    go : (o : Option Float) → option o collapse spent ≢ timeout
    go None q = let z : ◌≡◌ {A = ℕ} 0 1 = cc in absurd (omega arith)
    go (Some m) q = let z : ◌≡◌ {A = ℕ} 0 1 = cc in absurd (omega arith)

-- so a run that times out has no budget of 2^31 or more
few_attempts : (s : Settings) (budget : ℕ) → too_many (has_ended s (start s)) 0 budget ≡ false → outcome_of s (plain_run s budget) ≡ timeout → nat_lt 2147483647 (0 + budget) ≡ false
unfolding plain_run
few_attempts s budget few late = go (has_ended s (start s)) refl few
  where
    go : (b : Bool) → has_ended s (start s) ≡ b → (not b && nat_lt 2147483647 (0 + budget)) ≡ false → nat_lt 2147483647 (0 + budget) ≡ false
    go false e f = f
    go true e f =
        let stays : plain_run s budget ≡ start s = ap (plain_run s) (sym (zero-add budget)) ∙ plain_run_ended_stays s 0 budget e in
        absurd (start_no_timeout s (ap (outcome_of s) (sym stays) ∙ late))

-- the refusal of a run that passes what begin refuses first, and is not refused with 14
only_13 :
    (o : Option ℕ) (b c : Bool) (x : Outcome) (k n : ℕ) (time : Float) → o ≡ None → c ≡ false →
    side_of (option (option o Some (cond b (Some 13) None)) not_begun (cond c (not_run 14) (ran_to x k time))) ≡ refused_run n → n ≡ 13
only_13 (Some m) b c x k n time e f q = absurd (some_not_none m e)
only_13 None b true x k n time e f q = absurd (true≢false f)
only_13 None true false x k n time e f q = cc
only_13 None false false (collapse m) k n time e f q = let z : ◌≡◌ {A = ℕ} 0 1 = cc in absurd (omega arith)
only_13 None false false broke k n time e f q = let z : ◌≡◌ {A = ℕ} 0 1 = cc in absurd (omega arith)
only_13 None false false timeout k n time e f q = let z : ◌≡◌ {A = ℕ} 0 1 = cc in absurd (omega arith)
only_13 None false false spent k n time e f q = let z : ◌≡◌ {A = ℕ} 0 1 = cc in absurd (omega arith)

lent_none : (s : Settings) (state work : ℕ) → begin_refusal s state work 0 ≡ None → lent_refusal s state work 0 ≡ None
unfolding begin_refusal
lent_none s state work e = go (lent_refusal s state work 0) (cond (holds_nan (first_state s)) (Some 13) None) e
  where
    go : (o p : Option ℕ) → ◌≡◌ {A = Option ℕ} (option o Some p) None → o ≡ None
    go None p q = refl
    go (Some n) p q = absurd (some_not_none n q)

module _ (unit : Float) (s : Settings) (budget state work low high halvings : ℕ) (b : Bracket) (e : search_of unit s budget state work low high halvings ≡ found b) where
  pub middle_refused : (n : ℕ) → b.why ≡ undecided (refused_run n) → n ≡ 13
  unfolding side_at ran_at begin_refusal
  middle_refused n q =
      let k = keeps unit s budget state work low high halvings b e in
      let w = run_timeout unit s budget state work b.low k.low_run in
      let m = (b.low + b.high) / 2 in
      let t = at unit s budget state work m in
      let lent : lent_refusal t state work 0 ≡ None =
      lent_same s (amplitude_at unit m) (amplitude_at unit b.low) state work 0 ∙ lent_none (at unit s budget state work b.low) state work w.0 in
      let few : too_many (has_ended t (start t)) 0 budget ≡ false =
      ap (λ (x : Bool). not (has_ended t (start t)) && x) (few_attempts (at unit s budget state work b.low) budget w.1.0 w.1.1)
      ∙ and-false (not (has_ended t (start t))) in
      only_13 (lent_refusal t state work 0) (holds_nan (first_state t)) (too_many (has_ended t (start t)) 0 budget) (outcome_at unit s budget state work m)
      (plain_run t budget).steps n (plain_run t budget).state.time lent few (k.when_stopped (refused_run n) q).0.middle_run
