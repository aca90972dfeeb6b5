-- Where a float stands in the order of `total_cmp`, by the comparisons that `lesser` makes.
use mathlib.Core.Path.{◌≡◌, refl, sym, ◌∙◌}
use mathlib.Core.Bool.{Bool, true, false, ◌&&◌, ◌||◌, cond, true≢false, false≢true}
use Prim.Native.Nat.{ℕ, ◌*◌, ◌≤◌}
use native.Mathlib.Nat.{le_of_lt, le_of_eq, le_of_mul-le-mul_right}
use native.Mathlib.Omega.{arith}
use lib.IntN.{pos}
use lib.Dec.{ltb, eqb}
use lib.Ieee.{Float, nan, inf, fin, up, down, lt, le, ne, is_nan}
use lib.Ieee.Fits.{down_pos}
use borrow.Author.Tests.{ltb-true, eqb-true, le-ltb, eq-eqb}
use Rattle.std.specs.Float.{NotNan, total_cmp, is_sign_negative}
use Rattle.std.specs.Ordering.{is_lt}
use Rattle.std.specs.declared.cmp.Ordering.TheVariants.{Less, Equal, Greater}
use Rattle.std.proofs.lemmas.Float as floats
use Rattle.vectors.specs.TotalOrder.{total_less, lesser_of}
use Rattle.vectors.specs.TotalOrderLaws.{lesser_of_left, lesser_of_right, lesser_of_nan_left, lesser_of_nan_right}

abbrev pub nought : Float
nought = fin false 0 (pos 0)

-- ---- the order is the library's `total_cmp`, of two numbers
same_sign : (a b : Bool) → a ≡ is_lt (cond a Less (cond b Greater Equal))
same_sign true b = refl
same_sign false true = refl
same_sign false false = refl

below : (a b : Bool) → b ≡ false → true ≡ is_lt (cond a Less (cond b Greater Less))
below true b e = refl
below false b e = rw e

above : (a : Bool) → false ≡ is_lt (cond a Greater Greater)
above true = refl
above false = refl

total_less_is : (x y : Float) → NotNan x → NotNan y → total_less x y ≡ is_lt (total_cmp x y)
unfolding total_less lt is_sign_negative is_nan
total_less_is nan y h k = absurd h
total_less_is (inf s) nan h k = absurd k
total_less_is (inf true) (inf true) h k = refl
total_less_is (inf true) (inf false) h k = refl
total_less_is (inf false) (inf true) h k = refl
total_less_is (inf false) (inf false) h k = refl
total_less_is (inf true) (fin t n d) h k = refl
total_less_is (inf false) (fin t n d) h k = refl
total_less_is (fin s m e) nan h k = absurd k
total_less_is (fin s m e) (inf true) h k = refl
total_less_is (fin s m e) (inf false) h k = refl
total_less_is (fin true m e) (fin true n d) h k = same_sign _ _
total_less_is (fin false m e) (fin false n d) h k = same_sign _ _
total_less_is (fin true m e) (fin false n d) h k = below _ _ refl
total_less_is (fin false m e) (fin true n d) h k = above _

-- ---- a number that is at most x
below_or_level : (a b : ℕ) (t : Bool) → ltb a b || (eqb a b && t) ≡ true → a ≤ b
below_or_level a b t h = go (ltb a b) (eqb a b) (λ p. le_of_lt (ltb-true a b p)) (λ p. le_of_eq (eqb-true a b p)) h
  where
    go : (p q : Bool) → (p ≡ true → a ≤ b) → (q ≡ true → a ≤ b) → p || (q && t) ≡ true → a ≤ b
    go true q f g h = f refl
    go false true f g h = g refl
    go false false f g h = absurd (false≢true h)

above_or_level : (a b : ℕ) (t : Bool) → ltb b a || (eqb a b && t) ≡ true → b ≤ a
above_or_level a b t h = go (ltb b a) (eqb a b) (λ p. le_of_lt (ltb-true b a p)) (λ p. le_of_eq (sym (eqb-true a b p))) h
  where
    go : (p q : Bool) → (p ≡ true → b ≤ a) → (q ≡ true → b ≤ a) → p || (q && t) ≡ true → b ≤ a
    go true q f g h = f refl
    go false true f g h = g refl
    go false false f g h = absurd (false≢true h)

and_last : (a b : Bool) → a && b ≡ true → b ≡ true
and_last true b h = h
and_last false b h = absurd (false≢true h)

-- x is not before m, unless both are zeros
not_before : (m x : Float) → le m x ≡ true → ne m nought ≡ true → total_less x m ≡ false
unfolding le ne total_less
not_before nan x h z = absurd (false≢true h)
not_before (inf t) nan h z = absurd (false≢true h)
not_before (inf true) (inf true) h z = refl
not_before (inf true) (inf false) h z = refl
not_before (inf false) (inf true) h z = absurd (false≢true h)
not_before (inf false) (inf false) h z = refl
not_before (inf true) (fin t n d) h z = refl
not_before (inf false) (fin t n d) h z = absurd (false≢true h)
not_before (fin t m e) nan h z = absurd (false≢true h)
not_before (fin t m e) (inf true) h z = absurd (false≢true h)
not_before (fin t m e) (inf false) h z = refl
not_before (fin true m e) (fin true n d) h z =
    le-ltb (m * up e * down d) (n * up d * down e) (above_or_level (m * up e * down d) (n * up d * down e) _ h)
not_before (fin true m e) (fin false n d) h z = refl
not_before (fin false m e) (fin false n d) h z =
    le-ltb (n * up d * down e) (m * up e * down d) (below_or_level (m * up e * down d) (n * up d * down e) _ h)
not_before (fin false m e) (fin true n d) h z =
    let a = m * up e * down d in
    let q = eqb-true a 0 (and_last (eqb a (n * up d * down e)) (eqb a 0) h) in
    let y : m * up e ≤ 0 = le_of_mul-le-mul_right (omega arith) (down_pos d) in
    let b : eqb (m * up e * 1) (0 * down e) ≡ true = eq-eqb (m * up e * 1) (0 * down e) (omega arith) in
    absurd (true≢false (sym z ∙ rw b))

only_nan : (x : Float) → is_nan x ≡ true → x ≡ nan
unfolding is_nan
only_nan nan h = refl
only_nan (inf s) h = absurd (false≢true h)
only_nan (fin s m e) h = absurd (false≢true h)

not_nan : (x : Float) → NotNan x → is_nan x ≡ false
unfolding is_nan
not_nan nan h = absurd h
not_nan (inf s) h = refl
not_nan (fin s m e) h = refl

-- ---- what `lesser` returns
module _ (m x : Float) where
  pub keeps_not_zero : le m x ≡ true → ne m nought ≡ true → m ≡ lesser_of m x
  keeps_not_zero h n = sym (lesser_of_left m x (not_before m x h n))

  pub takes_less : lt x m ≡ true → x ≡ lesser_of m x
  takes_less h =
      let l = floats.le_of_lt x m (floats.T_from_true _ h) in
      sym (lesser_of_right m x (total_less_is x m (floats.le_left x m l) (floats.le_right x m l) ∙ rw h))

  pub takes_for_nan : is_nan m ≡ true → x ≡ lesser_of m x
  takes_for_nan h = rw (only_nan m h) (sym (lesser_of_nan_left x))

  pub keeps_before_nan : is_nan x ≡ true → m ≡ lesser_of m x
  keeps_before_nan h = rw (only_nan x h) (sym (lesser_of_nan_right m))

  -- neither is below the other, and m is a number
  pub keeps_before_other : le m x ≡ false → lt x m ≡ false → is_nan m ≡ false → m ≡ lesser_of m x
  keeps_before_other l h a = go (is_nan x) refl
    where
      go : (b : Bool) → is_nan x ≡ b → m ≡ lesser_of m x
      go true e = keeps_before_nan e
      go false e = absurd (rw h at (floats.lt_of_not-le m x (floats.T_from_false _ a) (floats.T_from_false _ e) (floats.T_from_false _ l)))

  pub takes_by_order : is_nan m ≡ false → is_nan x ≡ false → is_lt (total_cmp x m) ≡ true → x ≡ lesser_of m x
  takes_by_order a b h = sym (lesser_of_right m x (total_less_is x m (floats.T_from_false _ b) (floats.T_from_false _ a) ∙ h))

  pub keeps_by_order : is_nan m ≡ false → is_nan x ≡ false → is_lt (total_cmp x m) ≡ false → m ≡ lesser_of m x
  keeps_by_order a b h = sym (lesser_of_left m x (total_less_is x m (floats.T_from_false _ b) (floats.T_from_false _ a) ∙ h))

  -- m is at most x, so neither is a NaN
  pub numbers : le m x ≡ true → (is_nan m ≡ false) × (is_nan x ≡ false)
  numbers h = let l = floats.T_from_true _ h in (not_nan m (floats.le_left m x l), not_nan x (floats.le_right m x l))
