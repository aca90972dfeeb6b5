-- An x between -708 and 709 has an x × (256 × a) of no great size, to which `Shift` applies.
use mathlib.Core.Path.{◌≡◌, refl, sym, ap, ◌∙◌, subst}
use mathlib.Core.Logic.{◌⊎◌, inl, inr}
use mathlib.Core.Bool.{Bool, true, false, cond, ◌&&◌, ◌||◌, true≢false}
use Prim.Native.Nat.{ℕ, zero, suc, ◌*◌, ◌^◌, ◌≤◌, ◌<◌}
use native.Mathlib.Nat.{le_of_eq}
use native.Mathlib.Omega.{arith}
use lib.Dec.{T, ltb, eqb, ltb→lt, eqb→eq}
use lib.IntN.{ℤ, pos, negsuc}
use lib.Ieee.{Float, nan, inf, fin, binary64, up, down, odd, units, round, mul, le, is_nan}
use lib.Ieee.Fits.{round_is, down_pos, and_l}
use lib.Ieee.Nearest.{closest, closest_mono}
use lib.Ieee.Order.{round_mono}
use borrow.Author.Tests.{ltb-false}
use Rattle.vectors.proofs.exp.Shift.{Small, Shifted, plus_shifted, less_shifted}

-- ---- `round` is monotone, and its sign is passed on
flip : Bool → Float → Float
flip s nan = nan
flip s (inf t) = inf s
flip s (fin t m e) = fin s m e

units_flip : (s : Bool) (q k : ℕ) → units binary64 s q k ≡ flip s (units binary64 false q k)
unfolding units odd flip
units_flip s q k = go (ltb (q * 2 ^ k) (2 ^ 2098)) q
  where
    go : (b : Bool) (q : ℕ) → cond b (odd 54 s q k 1074) (inf s) ≡ flip s (cond b (odd 54 false q k 1074) (inf false))
    go true zero = refl
    go true (suc q) = refl
    go false q = refl

round_flip : (s : Bool) (a b : ℕ) → round binary64 s a b ≡ flip s (round binary64 false a b)
round_flip s a b = round_is binary64 s a b ∙ units_flip s _ _ ∙ ap (flip s) (sym (round_is binary64 false a b))

or_cases : (a b : Bool) → T (a || b) → T a ⊎ T b
or_cases true b t = inl tt
or_cases false b t = inr t

small_flip : (w : Float) (s : Bool) (n : ℕ) (d : ℤ) → T (le (flip false w) (fin false n d)) → Small s (closest (n * up d) (down d)) (flip s w)
unfolding flip le
small_flip nan s n d t = absurd t
small_flip (inf b) s n d t = absurd t
small_flip (fin b m e) s n d t =
    let x = m * up e * down d in
    let y = n * up d * down e in
    let h : x ≤ y = elim (or_cases (ltb x y) (eqb x y && true) t) [
      | inl l ↦ omega (arith, ltb→lt x y l)
      | inr l ↦ le_of_eq (eqb→eq x y (and_l (eqb x y) true l))
    ] in
    (refl, closest_mono (m * up e) (down e) (n * up d) (down d) (down_pos e) (down_pos d) h)

-- ---- 256 × a is scale_digits / 2^43
abbrev scale_digits : ℕ
scale_digits = 3248660424278399

abbrev pub scale : Float
scale = fin false scale_digits (negsuc 42)

-- for n/d up to `limit`, n/d × (256 × a) is no larger, once rounded, than limit × (256 × a)
bounded : (s : Bool) (a d limit n : ℕ) (e : ℤ) → 0 < d → a ≤ limit * d → round binary64 false (limit * scale_digits) (2 ^ 43) ≡ fin false n e
    → Small s (closest (n * up e) (down e)) (round binary64 s (a * scale_digits) (d * 2 ^ 43))
bounded s a d limit n e D h y =
    let u = a * scale_digits in
    let v = d * 2 ^ 43 in
    let top = limit * scale_digits in
    let g : u * 2 ^ 43 ≤ top * v = omega arith in
    let m : T (le (round binary64 false u v) (round binary64 false top (2 ^ 43))) = round_mono binary64 u v top (2 ^ 43) (omega arith) (omega arith) g in
    subst (λ (z : Float). Small s (closest (n * up e) (down e)) z) (sym (round_flip s u v))
    (small_flip (round binary64 false u v) s n e
    (subst (λ (z : Float). T (le z (fin false n e))) (round_flip false u v) (subst (λ (z : Float). T (le (round binary64 false u v) z)) y m)))

at_709 : round binary64 false (709 * scale_digits) (2 ^ 43) ≡ fin false 8997266565677285 (negsuc 34)
unfolding round
at_709 = refl

at_708 : round binary64 false (708 * scale_digits) (2 ^ 43) ≡ fin false 8984576485894947 (negsuc 34)
unfolding round
at_708 = refl

or_left : (a b : Bool) → a || b ≡ false → a ≡ false
or_left true b h = h
or_left false b h = refl

-- the code's three tests are false
pub between : (x : Float) → is_nan x ≡ false → le (fin false 709 (pos 0)) x ≡ false → le x (fin true 177 (pos 2)) ≡ false → Shifted (mul binary64 x scale)
unfolding is_nan le mul
between nan n a b = absurd (true≢false n)
between (inf true) n a b = absurd (true≢false b)
between (inf false) n a b = absurd (true≢false a)
between (fin false m e) n a b =
    let h = ltb-false (709 * down e) (m * up e * 1) (or_left (ltb (709 * down e) (m * up e * 1)) _ a) in
    plus_shifted (mul binary64 (fin false m e) scale) (bounded false (m * up e) (down e) 709 8997266565677285 (negsuc 34) (down_pos e) (omega arith) at_709)
between (fin true m e) n a b =
    let h = ltb-false (708 * down e) (m * up e * 1) (or_left (ltb (708 * down e) (m * up e * 1)) _ b) in
    less_shifted (mul binary64 (fin true m e) scale) (bounded true (m * up e) (down e) 708 8984576485894947 (negsuc 34) (down_pos e) (omega arith) at_708)
