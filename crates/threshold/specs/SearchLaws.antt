-- Laws of the search: what the ends' runs say, and what the calls of the code leave together.
use Rattle.std.specs.Prelude.{◌≡◌, ℕ, ◌^◌, ◌<◌, ◌≤◌, Bool, true, false, cond, ◌&&◌, List, length, drop, nat_le, nat_lt, refl, Float}
use Rattle.std.specs.Prelude.{Option, None, Some}
use Rattle.std.proofs.Common.{sym, ◌∙◌, subst}
use Rattle.std.proofs.Math.Path.{ap, ap₂}
use borrow.Author.Tests.{lt-ltb, le-ltb, le-leb, lt-leb}
use Rattle.run.specs.declared.settings.Settings.{Settings}
use Rattle.run.specs.Calls.{begin_refusal}
use Rattle.run.specs.Model.{cell_count, work_count}
use Rattle.run.specs.Outcome.{Outcome}
use Rattle.run.specs.PlainRun.{option, has_ended, outcome_of, start, plain_run}
use Rattle.run.specs.SkipRun.{Ran, not_begun, not_run, ran_to, skipping, ran_at, touched, Untouched, SkipRan}
use Rattle.run.specs.Tally.{too_many}
use Rattle.threshold.specs.Halving.{Bracket, halve}
use Rattle.threshold.specs.Search.{amplitude_at, side_of, is_timeout, is_collapse, begun_refusal, ends_refusal, is_asked, Sought, refused_search, found, side_at, sought_of, search_of, search_touched, Halved, Found, SearchDone}

-- ---- the ends
module _ (low high : Ran) where
  pub ends_low : (n : ℕ) → begun_refusal low ≡ Some n → Some n ≡ ends_refusal low high
  unfolding ends_refusal
  ends_low n e = rw e

  pub ends_high : (n : ℕ) → begun_refusal low ≡ None → begun_refusal high ≡ Some n → Some n ≡ ends_refusal low high
  unfolding ends_refusal
  ends_high n e f = rw (e, f)

  pub ends_both :
      (b : Bool) → begun_refusal low ≡ None → begun_refusal high ≡ None → (is_timeout (side_of low) && is_collapse (side_of high)) ≡ b →
      cond b None (Some 16) ≡ ends_refusal low high
  unfolding ends_refusal
  ends_both b e f g = rw (e, f, g)

-- begin's refusal does not depend on the budget
pub begun_refusal_lem : (s : Settings) (a : Float) (state work budget : ℕ) → begun_refusal (ran_at s a state work budget) ≡ begin_refusal (skipping s a) state work 0
unfolding ran_at
begun_refusal_lem s a state work budget =
    let t = skipping s a in
    go (begin_refusal t state work 0) (too_many (has_ended t (start t)) 0 budget) (outcome_of t (plain_run t budget)) (plain_run t budget).steps (plain_run t budget).state.time
  where
    go : (o : Option ℕ) (b : Bool) (x : Outcome) (k : ℕ) (time : Float) → begun_refusal (option o not_begun (cond b (not_run 14) (ran_to x k time))) ≡ o
    go (Some n) b x k time = refl
    go None true x k time = refl
    go None false x k time = refl

-- so where low's run is not timeout, a high end that is only begun refuses the ends alike
pub ends_begun :
    (low : Ran) (s : Settings) (a : Float) (state work budget : ℕ) →
    ends_refusal low (ran_at s a state work (cond (is_timeout (side_of low)) budget 0)) ≡ ends_refusal low (ran_at s a state work budget)
unfolding ends_refusal
ends_begun low s a state work budget = go (is_timeout (side_of low))
  where
    go :
        (b : Bool) →
        option (begun_refusal low) Some (option (begun_refusal (ran_at s a state work (cond b budget 0))) Some (cond (b && is_collapse (side_of (ran_at s a state work (cond b budget 0)))) None (Some 16)))
        ≡ option (begun_refusal low) Some (option (begun_refusal (ran_at s a state work budget)) Some (cond (b && is_collapse (side_of (ran_at s a state work budget))) None (Some 16)))
    go true = refl
    go false =
        ap (λ (o : Option ℕ). option (begun_refusal low) Some (option o Some (Some 16)))
        (begun_refusal_lem s a state work 0 ∙ sym (begun_refusal_lem s a state work budget))

-- ---- memories
pub untouched_none : (s : Settings) (state work : List Float) → Untouched s state work state work
untouched_none s state work = record { state_is = refl; work_is = refl }

module _ (s : Settings) (state work state₁ work₁ state₂ work₂ : List Float) (long : length state₁ ≡ length state) (long-work : length work₁ ≡ length work) where
  same_touched : (count : ℕ) → touched s (length state₁) (length work₁) count ≡ touched s (length state) (length work) count
  same_touched count = ap₂ (λ (i j : ℕ). touched s i j count) long long-work

  pub untouched_both : Untouched s state work state₁ work₁ → Untouched s state₁ work₁ state₂ work₂ → Untouched s state work state₂ work₂
  untouched_both a b =
      let x = same_touched (cell_count s) in
      let y = same_touched (work_count s) in
      record {
        state_is = ap (λ (i : ℕ). drop i state₂) (sym x) ∙ b.state_is ∙ ap (λ (i : ℕ). drop i state₁) x ∙ a.state_is;
        work_is = ap (λ (i : ℕ). drop i work₂) (sym y) ∙ b.work_is ∙ ap (λ (i : ℕ). drop i work₁) y ∙ a.work_is;
      }

-- a run at an amplitude, by another name of it
pub ran_at_lem :
    (s : Settings) (a b : Float) (budget : ℕ) (state work : List Float) (r : Ran) (state' work' : List Float) → a ≡ b →
    SkipRan s a budget state work r state' work' → SkipRan s b budget state work r state' work'
ran_at_lem s a b budget state work r state' work' e h = subst (λ (x : Float). SkipRan s x budget state work r state' work') e h

-- ---- the search between ends that may be asked for
module _
    (unit : Float) (s : Settings) (low high halvings budget : ℕ) (state work : List Float) (r₁ : Ran) (state₁ work₁ : List Float)
    (ran₁ : SkipRan s (amplitude_at unit low) budget state work r₁ state₁ work₁) (long₁ : length state₁ ≡ length state) (long-work₁ : length work₁ ≡ length work)
    (attempts : ℕ) (attempts-is : attempts ≡ cond (is_timeout (side_of r₁)) budget 0) (r₂ : Ran) (state₂ work₂ : List Float)
    (ran₂ : SkipRan s (amplitude_at unit high) attempts state₁ work₁ r₂ state₂ work₂) where
  ends_are :
      ends_refusal r₁ r₂
      ≡ ends_refusal (ran_at s (amplitude_at unit low) (length state) (length work) budget) (ran_at s (amplitude_at unit high) (length state) (length work) budget)
  ends_are =
      ap (ends_refusal r₁)
      (ran₂.answer
      ∙ ap₂ (λ (i j : ℕ). ran_at s (amplitude_at unit high) i j attempts) long₁ long-work₁
      ∙ ap (ran_at s (amplitude_at unit high) (length state) (length work)) attempts-is)
      ∙ ends_begun r₁ s (amplitude_at unit high) (length state) (length work) budget
      ∙ ap (λ (x : Ran). ends_refusal x (ran_at s (amplitude_at unit high) (length state) (length work) budget)) ran₁.answer

  both : Untouched s state work state₂ work₂
  both = untouched_both s state work state₁ work₁ state₂ work₂ long₁ long-work₁ ran₁.untouched ran₂.untouched

  pub found_refused : (n : ℕ) → Some n ≡ ends_refusal r₁ r₂ → Found unit s low high halvings budget state work (refused_search n) state₂ work₂
  unfolding sought_of
  found_refused n e =
      record {
        answer = ap (λ (o : Option ℕ). option o refused_search (found (halve (side_at unit s budget (length state) (length work)) halvings 0 low high))) (e ∙ ends_are);
        untouched = both;
      }

  pub found_bracket :
      None ≡ ends_refusal r₁ r₂ → length state₂ ≡ length state → length work₂ ≡ length work → (b : Bracket) (state₃ work₃ : List Float) →
      Halved unit s low high halvings 0 budget state₂ work₂ b state₃ work₃ → Found unit s low high halvings budget state work (found b) state₃ work₃
  unfolding sought_of
  found_bracket e long long-work b state₃ work₃ h =
      record {
        answer =
            ap found (h.answer ∙ ap₂ (λ (i j : ℕ). halve (side_at unit s budget i j) halvings 0 low high) long long-work)
            ∙ ap (λ (o : Option ℕ). option o refused_search (found (halve (side_at unit s budget (length state) (length work)) halvings 0 low high))) (e ∙ ends_are);
        untouched = untouched_both s state work state₂ work₂ state₃ work₃ long long-work both h.untouched;
      }

-- ---- the search
module _ (unit : Float) (s : Settings) (low high halvings budget : ℕ) (state work : List Float) where
  pub not_asked : is_asked low high halvings ≡ false → SearchDone unit s low high halvings budget state work (refused_search 15) state work
  unfolding search_of
  not_asked e =
      record {
        answer = ap (λ (b : Bool). cond b (sought_of unit s budget (length state) (length work) low high halvings) (refused_search 15)) (sym e);
        state_is = refl;
        work_is = refl;
      }

  pub ends_turned : high ≤ low → SearchDone unit s low high halvings budget state work (refused_search 15) state work
  ends_turned h = not_asked (rw (le-ltb low high h))

  pub ends_large : 2 ^ 42 < high → SearchDone unit s low high halvings budget state work (refused_search 15) state work
  ends_large h = not_asked (go (nat_lt low high))
    where
      go : (b : Bool) → (b && (nat_le high (2 ^ 42) && nat_le halvings 40)) ≡ false
      go true = rw (lt-leb high (2 ^ 42) h)
      go false = refl

  pub halvings_many : 40 < halvings → SearchDone unit s low high halvings budget state work (refused_search 15) state work
  halvings_many h = not_asked (go (nat_lt low high) (nat_le high (2 ^ 42)))
    where
      go : (b c : Bool) → (b && (c && nat_le halvings 40)) ≡ false
      go true true = rw (lt-leb halvings 40 h)
      go true false = refl
      go false c = refl

  pub asked : low < high → high ≤ 2 ^ 42 → halvings ≤ 40 → (b : Sought) (state' work' : List Float) → Found unit s low high halvings budget state work b state' work'
      → SearchDone unit s low high halvings budget state work b state' work'
  unfolding search_of search_touched
  asked h i j b state' work' f =
      let e : is_asked low high halvings ≡ true = rw (lt-ltb low high h, le-leb high (2 ^ 42) i, le-leb halvings 40 j) in
      let t : (count : ℕ) → search_touched low high halvings s (length state) (length work) count ≡ touched s (length state) (length work) count = λ count. ap (λ (x : Bool). cond x (touched s (length state) (length work) count) 0) e in
      record {
        answer = f.answer ∙ ap (λ (x : Bool). cond x (sought_of unit s budget (length state) (length work) low high halvings) (refused_search 15)) (sym e);
        state_is = ap (λ (k : ℕ). drop k state') (t (cell_count s)) ∙ f.untouched.state_is ∙ ap (λ (k : ℕ). drop k state) (sym (t (cell_count s)));
        work_is = ap (λ (k : ℕ). drop k work') (t (work_count s)) ∙ f.untouched.work_is ∙ ap (λ (k : ℕ). drop k work) (sym (t (work_count s)));
      }
