-- What `collapse_search` lays out for a bracket is the bracket: both ends and the halvings made by value, and why it stopped by one of four numbers.
use Rattle.std.specs.Prelude.{◌≡◌, ℕ, true, false, List, [], ◌∷◌, Float}
use Rattle.std.proofs.Math.Path.{refl, subst}
use Rattle.std.proofs.Common.{sym, arith}
use Rattle.std.specs.Float.Ieee.Exact.{HasValue}
use Rattle.vectors.proofs.Floats.{whole_value}
use Rattle.vectors.specs.Constants.{whole}
use Rattle.run.specs.declared.settings.Settings.{Settings}
use Rattle.threshold.specs.BracketKept.{asked_for}
use Rattle.threshold.proofs.BracketKept.{bracket_kept}
use Rattle.threshold.specs.Halving.{times_out, collapses, neither, refused_run, Why, used, adjacent, undecided, Bracket}
use Rattle.threshold.proofs.MiddleRefused.{middle_refused}
use Rattle.threshold.specs.Search.{found, search_of}
use Rattle.claims.specs.RefusalNumbers.{among}
use Rattle.capi.specs.SearchCall.{middle_number, why_number}

-- used, adjacent, neither, or refused, which only 13 does
abbrev pub why_numbers : List ℕ
why_numbers = 0 ∷ 1 ∷ 2 ∷ 13 ∷ []

module _ (unit : Float) (s : Settings) (budget state work low high halvings : ℕ) (b : Bracket) (e : search_of unit s budget state work low high halvings ≡ found b) where
  pub record Laid : Type 0 where
    pub low_is : HasValue (whole b.low) false b.low 1
    pub high_is : HasValue (whole b.high) false b.high 1
    pub made_is : HasValue (whole b.made) false b.made 1
    pub why_is : among why_numbers (why_number b.why) ≡ true

  why_among : (w : Why) → ((n : ℕ) → w ≡ undecided (refused_run n) → n ≡ 13) → among why_numbers (why_number w) ≡ true
  unfolding why_number middle_number among
  why_among used h = refl
  why_among adjacent h = refl
  why_among (undecided times_out) h = refl
  why_among (undecided collapses) h = refl
  why_among (undecided neither) h = refl
  why_among (undecided (refused_run n)) h = subst (λ (k : ℕ). among why_numbers k ≡ true) (sym (h n refl)) refl

  pub laid : Laid
  laid =
      let k = bracket_kept unit s budget state work low high halvings b e in
      let a = asked_for unit s budget state work low high halvings b e in
      let below = k.below in
      let ordered = k.ordered in
      let few = k.few in
      record {
        low_is = whole_value b.low (omega (arith, a.0));
        high_is = whole_value b.high (omega (arith, a.0));
        made_is = whole_value b.made (omega (arith, a.1));
        why_is = why_among b.why (middle_refused unit s budget state work low high halvings b e);
      }
