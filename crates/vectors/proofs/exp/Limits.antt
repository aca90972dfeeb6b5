-- What the tests against exp's limits say of a number.
use mathlib.Core.Path.{◌≡◌, refl}
use mathlib.Core.Bool.{Bool, true, false, ◌&&◌, ◌||◌, false≢true}
use Prim.Native.Nat.{ℕ, ◌+◌, ◌*◌, ◌≤◌, ◌<◌}
use native.Mathlib.Omega.{arith}
use lib.Dec.{ltb, eqb}
use lib.IntN.{pos}
use lib.Ieee.{Float, nan, inf, fin, up, down, lt, le, is_nan}
use lib.Ieee.Fits.{down_pos}
use borrow.Author.Tests.{ltb-true, eqb-true, le-ltb, ne_eqb}
use Rattle.vectors.specs.ExpInside.{Inside}
use Rattle.std.proofs.lemmas.Bool.{and_parts}

-- below is not at or above
not_over : (a b : ℕ) (q t : Bool) → q ≡ false → b ≤ a → ltb a b || (q && t) ≡ false
not_over a b q t e h = rw (le-ltb a b h, e)

-- numbers of unlike signs are level only at zero
not_level : (a b : ℕ) → 0 < a + b → eqb a b && eqb a 0 ≡ false
not_level a b h = go (eqb a b) (eqb a 0) (eqb-true a b) (eqb-true a 0)
  where
    go : (p q : Bool) → (p ≡ true → a ≡ b) → (q ≡ true → a ≡ 0) → p && q ≡ false
    go false q f g = refl
    go true false f g = refl
    go true true f g = let e = f refl in let z = g refl in absurd (omega arith)

under_709 : (x : Float) → lt x (fin false 709 (pos 0)) ≡ true → le (fin false 709 (pos 0)) x ≡ false
unfolding lt le
under_709 nan h = absurd (false≢true h)
under_709 (inf true) h = refl
under_709 (inf false) h = absurd (false≢true h)
under_709 (fin true m e) h = let d = down_pos e in not_level (709 * down e) (m * up e * 1) (omega arith)
under_709 (fin false m e) h =
    let l = ltb-true (m * up e * 1) (709 * down e) h in
    not_over (709 * down e) (m * up e * 1) _ _ (ne_eqb (709 * down e) (m * up e * 1) (λ (z : 709 * down e ≡ m * up e * 1). omega arith)) (omega arith)

over_708 : (x : Float) → lt (fin true 177 (pos 2)) x ≡ true → le x (fin true 177 (pos 2)) ≡ false
unfolding lt le
over_708 nan h = absurd (false≢true h)
over_708 (inf true) h = absurd (false≢true h)
over_708 (inf false) h = refl
over_708 (fin true m e) h =
    let l = ltb-true (m * up e * 1) (708 * down e) h in
    not_over (708 * down e) (m * up e * 1) _ _ (ne_eqb (m * up e * 1) (708 * down e) (λ (z : m * up e * 1 ≡ 708 * down e). omega arith)) (omega arith)
over_708 (fin false m e) h = let d = down_pos e in not_level (m * up e * 1) (708 * down e) (omega arith)

is_number : (x y : Float) → lt x y ≡ true → is_nan x ≡ false
unfolding lt is_nan
is_number nan y h = absurd (false≢true h)
is_number (inf s) y h = refl
is_number (fin s m e) y h = refl

pub between_limits : (x : Float) → lt x (fin false 709 (pos 0)) && lt (fin true 177 (pos 2)) x ≡ true → Inside x
between_limits x h =
    let both = and_parts (lt x (fin false 709 (pos 0))) (lt (fin true 177 (pos 2)) x) h in
    record { number = is_number x (fin false 709 (pos 0)) both.0; under = under_709 x both.0; over = over_708 x both.1 }
