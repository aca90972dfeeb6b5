-- The states of the generator along a loop.
use mathlib.Core.Path.{◌≡◌, refl, ap, ◌∙◌}
use Prim.Native.Nat.{ℕ, ◌+◌}
use native.Mathlib.Numerals.{add-one}
use Rattle.cases.specs.Arguments.{after_of, state_at}

pub first : (seed : ℕ) → seed ≡ state_at seed 0
unfolding state_at
first seed = refl

-- a turn of the loop
pub next : {s t : ℕ} (seed i : ℕ) → s ≡ state_at seed i → t ≡ after_of s → t ≡ state_at seed (i + 1)
unfolding state_at
next seed i h e = rw add-one (e ∙ ap after_of h)
