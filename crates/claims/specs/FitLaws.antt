-- Lists of floats that fit binary64: every result of a float operation does.
use Rattle.std.specs.Prelude.{ℕ, zero, suc, List, [], ◌∷◌, ◌++◌, map, T, Float, get_or, set}
use Rattle.std.specs.Float.{nan, binary64}
use Rattle.std.specs.Float.Ieee.{fits}
use Rattle.std.specs.Float.Ieee.Fits.{nan-fits}
use Rattle.vectors.specs.Memory.{tab_from, tab}

abbrev pub Fits : Float → Type 0
Fits x = T (fits binary64 x)

-- every number of the list; past its end stands a NaN, which fits too
pub record AllFit (xs : List Float) : Type 0 where
  pub at : (i : ℕ) → Fits (get_or xs i nan)

nil_fit : AllFit []
nil_fit = record { at = λ i. nan-fits binary64 }

tail_fit : {x : Float} {xs : List Float} → AllFit (x ∷ xs) → AllFit xs
tail_fit h = record { at = λ i. h.at (suc i) }

pub cons_fit : {x : Float} {xs : List Float} → Fits x → AllFit xs → AllFit (x ∷ xs)
cons_fit {x} {xs} f h = record { at = go }
  where
    go : (i : ℕ) → Fits (get_or (x ∷ xs) i nan)
    go zero = f
    go (suc i) = h.at i

pub append_fit : (xs : List Float) {ys : List Float} → AllFit xs → AllFit ys → AllFit (xs ++ ys)
append_fit [] h k = k
append_fit (x ∷ xs) h k = cons_fit (h.at 0) (append_fit xs (tail_fit h) k)

pub set_fit : (xs : List Float) (i : ℕ) (x : Float) → AllFit xs → Fits x → AllFit (set xs i x)
set_fit [] i x h f = h
set_fit (y ∷ xs) zero x h f = cons_fit f (tail_fit h)
set_fit (y ∷ xs) (suc i) x h f = cons_fit (h.at 0) (set_fit xs i x (tail_fit h) f)

pub map_fit : (g : Float → Float) (xs : List Float) → ((x : Float) → Fits (g x)) → AllFit (map g xs)
map_fit g [] h = nil_fit
map_fit g (x ∷ xs) h = cons_fit (h x) (map_fit g xs h)

tab_from_fit : (k n : ℕ) (g : ℕ → Float) → ((i : ℕ) → Fits (g i)) → AllFit (tab_from k n g)
unfolding tab_from
tab_from_fit k zero g h = nil_fit
tab_from_fit k (suc n) g h = cons_fit (h k) (tab_from_fit (suc k) n g h)

pub tab_fit : (n : ℕ) (g : ℕ → Float) → ((i : ℕ) → Fits (g i)) → AllFit (tab n g)
unfolding tab
tab_fit n g h = tab_from_fit 0 n g h

-- ---- lists of lists; past the end stands the empty one
pub record EachFits (xss : List (List Float)) : Type 0 where
  pub at : (j : ℕ) → AllFit (get_or xss j [])

pub none_fits : EachFits []
none_fits = record { at = λ j. nil_fit }

pub snoc_fits : (xss : List (List Float)) {xs : List Float} → EachFits xss → AllFit xs → EachFits (xss ++ xs ∷ [])
snoc_fits [] {xs} h f = record { at = go }
  where
    go : (j : ℕ) → AllFit (get_or (xs ∷ []) j [])
    go zero = f
    go (suc j) = nil_fit
snoc_fits (ys ∷ xss) {xs} h f = record { at = go (snoc_fits xss (record { at = λ j. h.at (suc j) }) f) }
  where
    go : EachFits (xss ++ xs ∷ []) → (j : ℕ) → AllFit (get_or (ys ∷ (xss ++ xs ∷ [])) j [])
    go r zero = h.at 0
    go r (suc j) = r.at j
