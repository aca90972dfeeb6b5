-- What `first_at_or_below` answers, element by element.
use Rattle.std.specs.Prelude.{◌≡◌, refl, Bool, true, false, cond, List, [], ◌∷◌, ℕ, zero, suc, ◌<◌, length, get_or, Float}
use Rattle.std.proofs.Common.{sym, ap, subst, ◌∙◌, true≢false, inl, inr, suc-le-suc, le_antisymm, le_of_suc-le-suc, not-suc-le-zero, zero-lt-suc}
use Rattle.std.specs.Prelude.{Option, None, Some, option_map}
use Rattle.std.proofs.lemmas.Option.{none-some, same_Some}
use Rattle.std.specs.Float.{nan}
use Rattle.std.specs.Float.Ieee.{le}
use Rattle.vectors.specs.MemoryLaws.{side}
use Rattle.vectors.specs.Position.{first_at_or_below}

-- an index in range, whose value is at or below the bound, and no earlier value is
pub record First (bound : Float) (xs : List Float) (i : ℕ) : Type 0 where
  pub within : i < length xs
  pub holds : le (get_or xs i nan) bound ≡ true
  pub earlier : (j : ℕ) → j < i → le (get_or xs j nan) bound ≡ false

module _ (bound x : Float) (xs : List Float) where
  first_here : le x bound ≡ true → First bound (x ∷ xs) 0
  first_here h = record { within = zero-lt-suc (length xs); holds = h; earlier = λ j l. absurd (not-suc-le-zero l) }

  first_later : (k : ℕ) → le x bound ≡ false → First bound xs k → First bound (x ∷ xs) (suc k)
  first_later k h f = record { within = suc-le-suc f.within; holds = f.holds; earlier = go }
    where
      go : (j : ℕ) → j < suc k → le (get_or (x ∷ xs) j nan) bound ≡ false
      go zero l = h
      go (suc j) l = f.earlier j (le_of_suc-le-suc l)

pub first_some : (bound : Float) (xs : List Float) (i : ℕ) → first_at_or_below bound xs ≡ Some i → First bound xs i
unfolding first_at_or_below
first_some bound [] i e = absurd (none-some i e)
first_some bound (x ∷ xs) i e = go (le x bound) (first_at_or_below bound xs) refl (λ k f. first_some bound xs k f) e
  where
    go : (b : Bool) (o : Option ℕ) → le x bound ≡ b → ((k : ℕ) → o ≡ Some k → First bound xs k)
        → cond b (Some 0) (option_map suc o) ≡ Some i → First bound (x ∷ xs) i
    go true o h rest e = subst (First bound (x ∷ xs)) (same_Some 0 i e) (first_here bound x xs h)
    go false None h rest e = absurd (none-some i e)
    go false (Some k) h rest e = subst (First bound (x ∷ xs)) (same_Some (suc k) i e) (first_later bound x xs k h (rest k refl))

pub first_none : (bound : Float) (xs : List Float) → first_at_or_below bound xs ≡ None → (j : ℕ) → j < length xs → le (get_or xs j nan) bound ≡ false
unfolding first_at_or_below
first_none bound [] e j l = absurd (not-suc-le-zero l)
first_none bound (x ∷ xs) e j l = go (le x bound) (first_at_or_below bound xs) refl (λ f k h. first_none bound xs f k h) e j l
  where
    go : (b : Bool) (o : Option ℕ) → le x bound ≡ b → (o ≡ None → (k : ℕ) → k < length xs → le (get_or xs k nan) bound ≡ false)
        → cond b (Some 0) (option_map suc o) ≡ None → (j : ℕ) → j < length (x ∷ xs) → le (get_or (x ∷ xs) j nan) bound ≡ false
    go true o h rest e j l = absurd (none-some 0 (sym e))
    go false (Some k) h rest e j l = absurd (none-some (suc k) (sym e))
    go false None h rest e zero l = h
    go false None h rest e (suc j) l = rest refl j (le_of_suc-le-suc l)

-- the other way round
pub first_is_some : (bound : Float) (xs : List Float) (i : ℕ) → First bound xs i → first_at_or_below bound xs ≡ Some i
first_is_some bound xs i f = go (first_at_or_below bound xs) refl
  where
    same : (k : ℕ) → First bound xs k → k ≡ i
    same k g = elim (side k i) [
      | inl p ↦ absurd (true≢false (sym g.holds ∙ f.earlier k p))
      | inr p ↦ elim (side i k) [
        | inl q ↦ absurd (true≢false (sym f.holds ∙ g.earlier i q))
        | inr q ↦ le_antisymm q p
      ]
    ]

    go : (o : Option ℕ) → first_at_or_below bound xs ≡ o → o ≡ Some i
    go None e = absurd (true≢false (sym f.holds ∙ first_none bound xs e i f.within))
    go (Some k) e = ap {B = Option ℕ} Some (same k (first_some bound xs k e))

pub first_is_none : (bound : Float) (xs : List Float) → ((j : ℕ) → j < length xs → le (get_or xs j nan) bound ≡ false) → first_at_or_below bound xs ≡ None
first_is_none bound xs h = go (first_at_or_below bound xs) refl
  where
    go : (o : Option ℕ) → first_at_or_below bound xs ≡ o → o ≡ None
    go None e = refl
    go (Some k) e = let g = first_some bound xs k e in absurd (true≢false (sym g.holds ∙ h k g.within))
