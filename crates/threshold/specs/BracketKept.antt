-- 02, request 1: what every accepted search keeps (`bracket_kept` in proofs). Nothing here assumes that collapse is monotone in the amplitude.
use Rattle.std.specs.Prelude.{◌≡◌, ℕ, ◌+◌, ◌-◌, ◌*◌, ◌^◌, ◌<◌, ◌≤◌, Bool, true, false, cond, ◌&&◌, ◌↔◌, ◌≢◌, nat_le, nat_lt, Float}
use Rattle.std.proofs.lemmas.Bool.{false≢true}
use Rattle.std.specs.Prelude.{Option, None, Some}
use Rattle.std.proofs.Math.Path.{refl, sym}
use Rattle.std.proofs.Common.{arith}
use borrow.Author.Tests.{ltb-true, leb-true}
use Rattle.run.specs.declared.settings.Settings.{Settings}
use Rattle.run.specs.ModelLaws.{some_not_none}
use Rattle.run.specs.Outcome.{Outcome, collapse, broke, timeout, spent}
use Rattle.run.specs.PlainRun.{option, has_ended, outcome_of, start, plain_run}
use Rattle.run.specs.Tally.{too_many}
use Rattle.run.specs.Calls.{begin_refusal}
use Rattle.run.specs.SkipRun.{skipping, not_begun, not_run, ran_to, ran_at}
use Rattle.threshold.specs.Halving.{Side, times_out, collapses, neither, refused_run, used, adjacent, undecided, Bracket, halve, StoppedBy}
use Rattle.threshold.specs.Search.{amplitude_at, side_of, is_timeout, is_collapse, begun_refusal, ends_refusal, is_asked, refused_search, found, side_at, sought_of, search_of}

-- ---- what a run that answers timeout or collapse is
module _ (k : ℕ) (time : Float) where
  -- it is not refused
  not_refused :
      (o : Option ℕ) (b : Bool) (x : Outcome) (r : Side) → ((n : ℕ) → refused_run n ≢ r) →
      side_of (option o not_begun (cond b (not_run 14) (ran_to x k time))) ≡ r → (o ≡ None) × ((b ≡ false) × (side_of (ran_to x k time) ≡ r))
  not_refused (Some n) b x r p e = absurd (p n e)
  not_refused None true x r p e = absurd (p 14 e)
  not_refused None false x r p e = (refl, (refl, e))

  is_timeout_lem : (x : Outcome) → side_of (ran_to x k time) ≡ times_out → x ≡ timeout
  is_timeout_lem (collapse m) e = let z : ◌≡◌ {A = ℕ} 0 1 = cc in absurd (omega arith)
  is_timeout_lem broke e = let z : ◌≡◌ {A = ℕ} 0 1 = cc in absurd (omega arith)
  is_timeout_lem timeout e = refl
  is_timeout_lem spent e = let z : ◌≡◌ {A = ℕ} 0 1 = cc in absurd (omega arith)

  is_collapse_lem : (x : Outcome) → side_of (ran_to x k time) ≡ collapses → (m : Float) × (x ≡ collapse m)
  is_collapse_lem (collapse m) e = (m, refl)
  is_collapse_lem broke e = let z : ◌≡◌ {A = ℕ} 0 1 = cc in absurd (omega arith)
  is_collapse_lem timeout e = let z : ◌≡◌ {A = ℕ} 0 1 = cc in absurd (omega arith)
  is_collapse_lem spent e = let z : ◌≡◌ {A = ℕ} 0 1 = cc in absurd (omega arith)

-- the runs of the ends
ends_run : (o p : Option ℕ) (x y : Side) → ◌≡◌ {A = Option ℕ} (option o Some (option p Some (cond (is_timeout x && is_collapse y) None (Some 16)))) None → (x ≡ times_out) × (y ≡ collapses)
ends_run (Some n) p x y e = absurd (some_not_none n e)
ends_run None (Some n) x y e = absurd (some_not_none n e)
ends_run None None times_out times_out e = absurd (some_not_none 16 e)
ends_run None None times_out collapses e = (refl, refl)
ends_run None None times_out neither e = absurd (some_not_none 16 e)
ends_run None None times_out (refused_run n) e = absurd (some_not_none 16 e)
ends_run None None collapses y e = absurd (some_not_none 16 e)
ends_run None None neither y e = absurd (some_not_none 16 e)
ends_run None None (refused_run n) y e = absurd (some_not_none 16 e)

-- ends and halvings that are not refused with 15
abbrev pub Asked : (low high halvings : ℕ) → Type 0
Asked low high halvings = (low < high) × ((high ≤ 2 ^ 42) × (halvings ≤ 40))

asked_by : (low high halvings : ℕ) → is_asked low high halvings ≡ true → Asked low high halvings
asked_by low high halvings = go (nat_lt low high) (nat_le high (2 ^ 42)) (nat_le halvings 40) (ltb-true low high) (leb-true high (2 ^ 42)) (leb-true halvings 40)
  where
    go : (x y z : Bool) → (x ≡ true → low < high) → (y ≡ true → high ≤ 2 ^ 42) → (z ≡ true → halvings ≤ 40) → (x && (y && z)) ≡ true → Asked low high halvings
    go false y z f g h e = absurd (false≢true e)
    go true false z f g h e = absurd (false≢true e)
    go true true false f g h e = absurd (false≢true e)
    go true true true f g h e = (f refl, (g refl, h refl))

module _ (unit : Float) (s : Settings) (budget state work : ℕ) where
  -- the plain run's outcome at so many units
  abbrev pub at : ℕ → Settings
  at u = skipping s (amplitude_at unit u)

  abbrev pub outcome_at : ℕ → Outcome
  outcome_at u = outcome_of (at u) (plain_run (at u) budget)

  abbrev pub run : ℕ → Side
  run = side_at unit s budget state work

  pub run_not_refused :
      (u : ℕ) (r : Side) → ((n : ℕ) → refused_run n ≢ r) → run u ≡ r →
      (begin_refusal (at u) state work 0 ≡ None)
      × ((too_many (has_ended (at u) (start (at u))) 0 budget ≡ false)
      × (side_of (ran_to (outcome_at u) (plain_run (at u) budget).steps (plain_run (at u) budget).state.time) ≡ r))
  unfolding side_at ran_at
  run_not_refused u r p e =
      not_refused (plain_run (at u) budget).steps (plain_run (at u) budget).state.time (begin_refusal (at u) state work 0)
      (too_many (has_ended (at u) (start (at u))) 0 budget) (outcome_at u) r p e

  pub run_timeout : (u : ℕ) → run u ≡ times_out →
      (begin_refusal (at u) state work 0 ≡ None) × ((too_many (has_ended (at u) (start (at u))) 0 budget ≡ false) × (outcome_at u ≡ timeout))
  run_timeout u e =
      let w = run_not_refused u times_out (λ n q. let z : ◌≡◌ {A = ℕ} 0 1 = cc in absurd (omega arith)) e in
      (w.0, (w.1.0, is_timeout_lem (plain_run (at u) budget).steps (plain_run (at u) budget).state.time (outcome_at u) w.1.1))

  pub plain_collapse : (u : ℕ) → run u ≡ collapses → (m : Float) × (outcome_at u ≡ collapse m)
  plain_collapse u e =
      let w = run_not_refused u collapses (λ n q. let z : ◌≡◌ {A = ℕ} 0 1 = cc in absurd (omega arith)) e in
      is_collapse_lem (plain_run (at u) budget).steps (plain_run (at u) budget).state.time (outcome_at u) w.1.1

  -- what every accepted search keeps
  pub record BracketKept (low high halvings : ℕ) (b : Bracket) : Type 0 where
    pub ordered : b.low < b.high
    pub above : low ≤ b.low
    pub below : b.high ≤ high
    pub low_run : outcome_at b.low ≡ timeout
    pub high_run : (m : Float) × (outcome_at b.high ≡ collapse m)
    pub few : b.made ≤ halvings
    pub used_exactly : (b.why ≡ used) ↔ (b.made ≡ halvings)
    pub when_adjacent : b.why ≡ adjacent → (b.high ≡ b.low + 1) × (b.made < halvings)
    pub when_stopped : (r : Side) → b.why ≡ undecided r → StoppedBy run b.low b.high r × (b.made < halvings)
    pub gap : (c : ℕ) → high - low ≤ c * 2 ^ b.made → b.high - b.low ≤ c

  module _ (low high halvings : ℕ) (b : Bracket) (e : search_of unit s budget state work low high halvings ≡ found b) where
    pub record Accepted : Type 0 where
      pub asked : Asked low high halvings
      pub low_side : run low ≡ times_out
      pub high_side : run high ≡ collapses
      pub is : b ≡ halve run halvings 0 low high

    pub accepted : Accepted
    unfolding search_of sought_of ends_refusal side_at
    accepted =
        go (is_asked low high halvings) (asked_by low high halvings)
        (begun_refusal (ran_at s (amplitude_at unit low) state work budget)) (begun_refusal (ran_at s (amplitude_at unit high) state work budget))
        (is_timeout (run low) && is_collapse (run high))
        (ends_run (begun_refusal (ran_at s (amplitude_at unit low) state work budget)) (begun_refusal (ran_at s (amplitude_at unit high) state work budget)) (run low) (run high)) e
      where
        go :
            (x : Bool) → (x ≡ true → Asked low high halvings) → (o p : Option ℕ) (z : Bool) →
            (◌≡◌ {A = Option ℕ} (option o Some (option p Some (cond z None (Some 16)))) None → (run low ≡ times_out) × (run high ≡ collapses)) →
            cond x (option (option o Some (option p Some (cond z None (Some 16)))) refused_search (found (halve run halvings 0 low high))) (refused_search 15) ≡ found b →
            Accepted
        go false f o p z g q = let w : ◌≡◌ {A = ℕ} 0 1 = cc in absurd (omega arith)
        go true f (Some n) p z g q = let w : ◌≡◌ {A = ℕ} 0 1 = cc in absurd (omega arith)
        go true f None (Some n) z g q = let w : ◌≡◌ {A = ℕ} 0 1 = cc in absurd (omega arith)
        go true f None None false g q = let w : ◌≡◌ {A = ℕ} 0 1 = cc in absurd (omega arith)
        go true f None None true g q =
            let i : halve run halvings 0 low high ≡ b = cc in
            let h = g refl in
            record { asked = f refl; low_side = h.0; high_side = h.1; is = sym i }

    pub asked_for : (high ≤ 2 ^ 42) × (halvings ≤ 40)
    asked_for = accepted.asked.1
