-- Lists as memories: a result written point by point, a part of a memory, and a memory with a part replaced.
use Rattle.std.specs.Prelude.{List, [], ◌∷◌, ◌++◌, ℕ, zero, suc, ◌+◌, length, take, drop}

module _ {A : Type 0} where
  -- g k, g (k + 1), .., n of them
  unfoldable pub tab_from : ℕ → ℕ → (ℕ → A) → List A
  tab_from k zero g = []
  tab_from k (suc n) g = g k ∷ tab_from (suc k) n g

  -- g 0, .., g (n - 1)
  unfoldable pub tab : ℕ → (ℕ → A) → List A
  unfolding tab_from
  tab n g = tab_from 0 n g

  -- n elements from at on
  unfoldable pub part : ℕ → ℕ → List A → List A
  part at n xs = take n (drop at xs)

  -- xs with ys in place of as many from at on
  unfoldable pub put : ℕ → List A → List A → List A
  put at ys xs = take at xs ++ (ys ++ drop (at + length ys) xs)
