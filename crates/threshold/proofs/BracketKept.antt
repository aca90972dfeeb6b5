-- 02, request 1: what every accepted search keeps.
use Rattle.std.specs.Prelude.{◌≡◌, ℕ, ◌+◌, ◌-◌, ◌*◌, ◌^◌, ◌≤◌, cond, ◌==◌, Float}
use Rattle.std.proofs.Math.Path.{refl, sym}
use Rattle.std.proofs.Common.{ap, ◌∙◌, subst, arith}
use borrow.Author.Tests.{eq-eqb, ne_eqb}
use Rattle.run.specs.declared.settings.Settings.{Settings}
use Rattle.run.specs.Clock.{whole_above}
use Rattle.threshold.specs.Halving.{Side, Why, used, adjacent, undecided, reason_of, Bracket, halve}
use Rattle.threshold.specs.HalvingLaws.{Kept}
use Rattle.threshold.proofs.HalvingKept.{kept, gap_halved}
use Rattle.threshold.specs.Search.{found, search_of}
use Rattle.threshold.specs.BracketKept.{run, run_timeout, plain_collapse, BracketKept, accepted}

module _ (unit : Float) (s : Settings) (budget state work low high halvings : ℕ) (b : Bracket) (e : search_of unit s budget state work low high halvings ≡ found b) where
  abbrev sides : ℕ → Side
  sides = run unit s budget state work

  pub keeps : Kept sides low high halvings 0 b
  keeps =
      let a = accepted unit s budget state work low high halvings b e in
      subst (Kept sides low high halvings 0) (sym a.is) (kept sides halvings 0 low high a.asked.0 a.low_side a.high_side)

  pub bracket_kept : BracketKept unit s budget state work low high halvings b
  bracket_kept =
      let k = keeps in
      let all : 0 + halvings ≡ halvings = omega arith in
      let none_before : b.made - 0 ≡ b.made = omega arith in
      record {
        ordered = k.ordered;
        above = k.above;
        below = k.below;
        low_run = (run_timeout unit s budget state work b.low k.low_run).1.1;
        high_run = plain_collapse unit s budget state work b.high k.high_run;
        few = omega (arith, k.at_most);
        used_exactly = (λ q. k.when_used q ∙ all, λ q. k.all_made (q ∙ sym all));
        when_adjacent = λ q. (let f = k.when_adjacent q in (f.0, omega (arith, f.1)));
        when_stopped = λ r q. (let f = k.when_stopped r q in (f.0, omega (arith, f.1)));
        gap = λ c q. k.gap c (subst (λ (n : ℕ). high - low ≤ c * 2 ^ n) (sym none_before) q);
      }

  -- "If all q halvings are made, the gap is at most the first gap divided by 2^q, rounded up."
  pub gap_all : b.made ≡ halvings → b.high - b.low ≤ whole_above (high - low) (2 ^ halvings)
  gap_all m =
      let a = accepted unit s budget state work low high halvings b e in
      let made : (halve sides halvings 0 low high).made ≡ halvings = ap (λ (x : Bracket). x.made) (sym a.is) ∙ m in
      subst (λ (x : Bracket). x.high - x.low ≤ whole_above (high - low) (2 ^ halvings)) (sym a.is)
      (gap_halved sides halvings low high a.asked.0 a.low_side a.high_side made)

  -- "It stops, the first that applies named": 1 exactly if the halvings are used, else 2 exactly if the ends differ by 1
  pub first_named : reason_of b.why ≡ cond (b.made == halvings) 1 (cond (b.high - b.low == 1) 2 3)
  unfolding reason_of
  first_named = go b.why refl
    where
      go : (w : Why) → b.why ≡ w → reason_of w ≡ cond (b.made == halvings) 1 (cond (b.high - b.low == 1) 2 3)
      go used e = rw (eq-eqb b.made halvings (bracket_kept.used_exactly.0 e))
      go adjacent e =
          let k = bracket_kept.when_adjacent e in
          let f = k.0 in
          let l = k.1 in
          rw (ne_eqb b.made halvings (λ q. omega arith), eq-eqb (b.high - b.low) 1 (omega arith))
      go (undecided r) e =
          let k = bracket_kept.when_stopped r e in
          let w = k.0.wide in
          let l = k.1 in
          rw (ne_eqb b.made halvings (λ q. omega arith), ne_eqb (b.high - b.low) 1 (λ q. omega arith))
