-- Laws of vectors that are written entry by entry.
use Rattle.std.specs.Prelude.{◌≡◌, ℕ, ◌<◌, ◌≤◌, List, [], ◌∷◌, map, length, refl, Float}
use Rattle.std.proofs.Common.{sym, ap, ◌∙◌, arith, inl, inr, ext_get_or}
use Rattle.std.proofs.lemmas.List.{length-map}
use Rattle.std.proofs.Math.ListN.{get_or-map, get_or-eq_default}
use Rattle.std.specs.Float.{nan}
use Rattle.vectors.specs.Memory.{tab}
use Rattle.vectors.specs.MemoryLaws.{length_tab, get_d_tab, side}
use Rattle.physics.specs.Vector.{at, advanced_of}

pub tab_same : (n : ℕ) (f g : ℕ → Float) → ((j : ℕ) → j < n → f j ≡ g j) → tab n f ≡ tab n g
tab_same n f g e =
    ext_get_or nan (tab n f) (tab n g) (length_tab n f ∙ sym (length_tab n g))
    (λ j h. let l : j < n = omega (arith, length_tab n f) in get_d_tab n f j nan l ∙ e j l ∙ sym (get_d_tab n g j nan l))

-- a list read entry by entry
pub tab_all : (n : ℕ) (xs : List Float) → length xs ≡ n → tab n (at xs) ≡ xs
tab_all n xs e =
    ext_get_or nan _ xs (length_tab n _ ∙ sym e) (λ j l. let k : j < n = omega (arith, length_tab n (at xs)) in get_d_tab n _ j nan k)

pub tab_map : (n : ℕ) (f : Float → Float) (xs : List Float) → length xs ≡ n → tab n (λ j. f (at xs j)) ≡ map f xs
tab_map n f xs e =
    let l = length_tab n (λ j. f (at xs j)) in
    ext_get_or (f nan) _ (map f xs) (l ∙ sym e ∙ sym (length-map xs f))
    (λ j h. get_d_tab n (λ j. f (at xs j)) j (f nan) (omega arith) ∙ sym (get_or-map f xs j nan))

-- a list of a function's values, read at any place, where the function is NaN past them
pub tab_at : (n : ℕ) (g : ℕ → Float) → ((i : ℕ) → n ≤ i → g i ≡ nan) → at (tab n g) ≡ g
tab_at n g past k i = go i k
  where
    go : (i : ℕ) → at (tab n g) i ≡ g i
    go i = elim (side i n) [
      | inl l ↦ get_d_tab n g i nan l
      | inr l ↦ get_or-eq_default (tab n g) nan (rw (length_tab n g) l) ∙ sym (past i l)
    ]

pub map-map : (f g : Float → Float) (xs : List Float) → map (λ x. f (g x)) xs ≡ map f (map g xs)
map-map f g [] = refl
map-map f g (x ∷ xs) = ap (λ (ys : List Float). f (g x) ∷ ys) (map-map f g xs)

pub length-advanced_of : (n : ℕ) (c : Float) (xs us : List Float) → length (advanced_of n c xs us) ≡ n
unfolding advanced_of
length-advanced_of n c xs us = length_tab n _
