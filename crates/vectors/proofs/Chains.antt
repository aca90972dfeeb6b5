-- What a run of a chain of iterators gives, and what `reduce` returns at its end where the closure computes h.
use Rattle.std.proofs.Common.{◌≡◌, true, Option, None, Some, refl, sym, ap, ◌∙◌, length, List, [], ◌∷◌, map}
use Rattle.std.specs.List.{reduce}
use Rattle.std.specs.Iterator.{ActsAsOnTwo, AlwaysYields}
use Rattle.std.specs.Iterator.Runs.{Run, IsReduceRun, YieldsRun}
use Rattle.std.specs.Option.{MatchOption}
use Rattle.std.proofs.lemmas.Iterator.{items_from_drains}
use Rattle.std.proofs.lemmas.Iterator.Consumers.{YieldsList-at}
use denote.Param.Members.{Mut}

none_reduced : {A : Type 0} (h : A → A → A) (xs : List A) → length xs ≡ 0 → None ≡ reduce h xs
none_reduced h [] e = refl
none_reduced h (x ∷ xs) e = absurd (cc)

-- v takes the items of a whole run to the list that the chain gives
pub run_items : {S A B : Type 0} {steps : S → Option A → S → Type 0} (v : A → B) {s : S} {all : List B} (p : Run steps) → p.from ≡ s → p.whole ≡ true → AlwaysYields steps v s all → map v p.items ≡ all
unfolding YieldsRun
run_items {steps = steps} v p e w road = items_from_drains {steps = steps} p.items (p.gave.0.0, p.gave.0.1, λ _. p.gave.0.2 w) (YieldsList-at e record { runs = road })

module _ {S A F : Type 0} {steps : S → Option A → S → Type 0} (g : Mut F (A × (A × Unit {0})) A) (f : F) (h : A → A → A) where
  pub run_reduced : (r : Option A) (p : Run steps) → MatchOption r (p.len ≡ 0) (IsReduceRun p g f) → ActsAsOnTwo g f h → r ≡ reduce h p.items
  run_reduced None p e a = none_reduced h p.items (sym p.long ∙ e)
  run_reduced (Some y) p e a = ap Some (e.1.3 h a) ∙ ap (reduce h) (sym e.1.2)
