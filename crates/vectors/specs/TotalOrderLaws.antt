-- `total_less` is a strict total order on the floats of binary64, and `minimum_of` is an element of its list with none below it.
use Rattle.std.specs.Prelude.{◌≡◌, refl, Bool, true, false, not, List, [], ◌∷◌, ℕ, zero, suc, ◌*◌, ◌/◌, ◌^◌, ◌<◌, ℤ, pos, T, length, get_or, Float}
use Rattle.std.proofs.Common.{sym, ap, ◌∙◌, true≢false, suc-le-suc, le_of_lt, le_antisymm, mul_comm, mul_right_comm, le_of_suc-le-suc, not-suc-le-zero, zero-lt-suc, arith, ltb-false, ltb-true, le-ltb}
use Rattle.std.proofs.lemmas.Bool.{false≢true}
use Rattle.std.proofs.Math.Nat.{mul-div-mul_left}
use Rattle.std.specs.Float.{nan, inf, fin, binary64}
use Rattle.std.specs.Float.Ieee.{up, down, low, fits, to_bits, of_bits}
use Rattle.std.specs.Float.Ieee.Fits.{down_pos}
use Rattle.std.specs.Float.Ieee.Bits.{of_bits-to_bits}
use Rattle.std.specs.Float.Ieee.Positive.{through}
use Rattle.vectors.specs.TotalOrder.{smaller, total_less, lesser_of, minimum_of}

-- ---- the order
smaller_itself : (m : ℕ) (e : ℤ) → smaller m e m e ≡ false
smaller_itself m e = le-ltb (m * up e * down e) (m * up e * down e) (omega arith)

smaller_turned : (m : ℕ) (e : ℤ) (n : ℕ) (d : ℤ) → smaller m e n d ≡ true → smaller n d m e ≡ false
smaller_turned m e n d h = le-ltb (n * up d * down e) (m * up e * down d) (le_of_lt (ltb-true (m * up e * down d) (n * up d * down e) h))

-- no smaller than one that is no smaller than a third
smaller_neither : (m : ℕ) (e : ℤ) (n : ℕ) (d : ℤ) (p : ℕ) (c : ℤ) → smaller m e n d ≡ false → smaller n d p c ≡ false → smaller m e p c ≡ false
smaller_neither m e n d p c h k =
    le-ltb (m * up e * down c) (p * up c * down e)
    (through (p * up c) (n * up d) (m * up e) (down c) (down d) (down e) (down_pos d)
    (ltb-false (n * up d * down c) (p * up c * down d) k)
    (ltb-false (m * up e * down d) (n * up d * down e) h))

pub total_less_irreflexive : (x : Float) → total_less x x ≡ false
unfolding total_less
total_less_irreflexive nan = refl
total_less_irreflexive (inf true) = refl
total_less_irreflexive (inf false) = refl
total_less_irreflexive (fin true m e) = smaller_itself m e
total_less_irreflexive (fin false m e) = smaller_itself m e

pub total_less_asymmetric : (x y : Float) → total_less x y ≡ true → total_less y x ≡ false
unfolding total_less
total_less_asymmetric nan y h = absurd (false≢true h)
total_less_asymmetric (inf s) nan h = refl
total_less_asymmetric (inf true) (inf true) h = absurd (false≢true h)
total_less_asymmetric (inf true) (inf false) h = refl
total_less_asymmetric (inf false) (inf t) h = absurd (false≢true h)
total_less_asymmetric (inf s) (fin t n d) h = ap not h
total_less_asymmetric (fin s m e) nan h = refl
total_less_asymmetric (fin s m e) (inf true) h = absurd (false≢true h)
total_less_asymmetric (fin s m e) (inf false) h = refl
total_less_asymmetric (fin true m e) (fin true n d) h = smaller_turned n d m e h
total_less_asymmetric (fin true m e) (fin false n d) h = refl
total_less_asymmetric (fin false m e) (fin true n d) h = absurd (false≢true h)
total_less_asymmetric (fin false m e) (fin false n d) h = smaller_turned m e n d h

-- not below one that is not below a third
pub total_less_neither : (x y z : Float) → total_less x y ≡ false → total_less y z ≡ false → total_less x z ≡ false
unfolding total_less
total_less_neither nan y z h k = refl
total_less_neither (inf s) nan z h k = absurd (true≢false h)
total_less_neither (inf true) (inf true) z h k = k
total_less_neither (inf true) (inf false) z h k = absurd (true≢false h)
total_less_neither (inf true) (fin t n d) z h k = absurd (true≢false h)
total_less_neither (inf false) (inf t) nan h k = absurd (true≢false k)
total_less_neither (inf false) (fin t n d) nan h k = absurd (true≢false k)
total_less_neither (inf false) (inf t) (inf u) h k = refl
total_less_neither (inf false) (fin t n d) (inf u) h k = refl
total_less_neither (inf false) (inf t) (fin u p c) h k = refl
total_less_neither (inf false) (fin t n d) (fin u p c) h k = refl
total_less_neither (fin s m e) nan z h k = absurd (true≢false h)
total_less_neither (fin s m e) (inf true) nan h k = absurd (true≢false k)
total_less_neither (fin s m e) (inf true) (inf u) h k = k
total_less_neither (fin s m e) (inf true) (fin u p c) h k = absurd (true≢false k)
total_less_neither (fin s m e) (inf false) z h k = absurd (true≢false h)
total_less_neither (fin s m e) (fin t n d) nan h k = absurd (true≢false k)
total_less_neither (fin s m e) (fin t n d) (inf u) h k = k
total_less_neither (fin true m e) (fin true n d) (fin true p c) h k = smaller_neither p c n d m e k h
total_less_neither (fin true m e) (fin true n d) (fin false p c) h k = absurd (true≢false k)
total_less_neither (fin true m e) (fin false n d) (fin u p c) h k = absurd (true≢false h)
total_less_neither (fin false m e) (fin t n d) (fin true p c) h k = refl
total_less_neither (fin false m e) (fin true n d) (fin false p c) h k = absurd (true≢false k)
total_less_neither (fin false m e) (fin false n d) (fin false p c) h k = smaller_neither m e n d p c h k

pub total_less_transitive : (x y z : Float) → total_less x y ≡ true → total_less y z ≡ true → total_less x z ≡ true
total_less_transitive x y z h k = go (total_less x z) (λ n. total_less_neither x z y n (total_less_asymmetric y z k))
  where
    go : (b : Bool) → (b ≡ false → total_less x y ≡ false) → b ≡ true
    go true f = refl
    go false f = absurd (true≢false (sym h ∙ f refl))

-- ---- two floats of binary64 are equal or ordered
-- equal fractions a / p and b / q have the same whole part, also times l
same_part : (a b p q l : ℕ) → 0 < p → 0 < q → a * q ≡ b * p → a * l / p ≡ b * l / q
same_part a b p q l hp hq e =
    sym (mul-div-mul_left (a * l) p hq) ∙ ap (λ (k : ℕ). k / (q * p)) turned ∙ ap (λ (k : ℕ). p * (b * l) / k) (mul_comm q p) ∙ mul-div-mul_left (b * l) q hp
  where
    turned : q * (a * l) ≡ p * (b * l)
    turned = mul_comm q (a * l) ∙ mul_right_comm a l q ∙ ap (λ (k : ℕ). k * l) e ∙ mul_right_comm b p l ∙ mul_comm (b * l) p

same_bits : (s : Bool) (m : ℕ) (e : ℤ) (n : ℕ) (d : ℤ) → smaller m e n d ≡ false → smaller n d m e ≡ false → to_bits binary64 (fin s m e) ≡ to_bits binary64 (fin s n d)
unfolding to_bits
same_bits s m e n d h k =
    let p : m * up e * down d ≡ n * up d * down e =
    le_antisymm (ltb-false (n * up d * down e) (m * up e * down d) k) (ltb-false (m * up e * down d) (n * up d * down e) h) in
    rw (same_part (m * up e) (n * up d) (down e) (down d) (2 ^ low binary64) (down_pos e) (down_pos d) p)

equal_bits : (x y : Float) → T (fits binary64 x) → T (fits binary64 y) → to_bits binary64 x ≡ to_bits binary64 y → x ≡ y
equal_bits x y f g e = sym (of_bits-to_bits binary64 x f) ∙ ap (of_bits binary64) e ∙ of_bits-to_bits binary64 y g

pub total_less_connected : (x y : Float) → T (fits binary64 x) → T (fits binary64 y) → total_less x y ≡ false → total_less y x ≡ false → x ≡ y
unfolding total_less
total_less_connected nan nan f g h k = refl
total_less_connected nan (inf t) f g h k = absurd (true≢false k)
total_less_connected nan (fin t n d) f g h k = absurd (true≢false k)
total_less_connected (inf s) nan f g h k = absurd (true≢false h)
total_less_connected (inf true) (inf true) f g h k = refl
total_less_connected (inf true) (inf false) f g h k = absurd (true≢false h)
total_less_connected (inf false) (inf true) f g h k = absurd (true≢false k)
total_less_connected (inf false) (inf false) f g h k = refl
total_less_connected (inf true) (fin t n d) f g h k = absurd (true≢false h)
total_less_connected (inf false) (fin t n d) f g h k = absurd (true≢false k)
total_less_connected (fin s m e) nan f g h k = absurd (true≢false h)
total_less_connected (fin s m e) (inf true) f g h k = absurd (true≢false k)
total_less_connected (fin s m e) (inf false) f g h k = absurd (true≢false h)
total_less_connected (fin true m e) (fin true n d) f g h k = equal_bits (fin true m e) (fin true n d) f g (same_bits true m e n d k h)
total_less_connected (fin true m e) (fin false n d) f g h k = absurd (true≢false h)
total_less_connected (fin false m e) (fin true n d) f g h k = absurd (true≢false k)
total_less_connected (fin false m e) (fin false n d) f g h k = equal_bits (fin false m e) (fin false n d) f g (same_bits false m e n d h k)

-- ---- the lesser of two
pub lesser_of_right : (a b : Float) → total_less b a ≡ true → lesser_of a b ≡ b
unfolding lesser_of
lesser_of_right a b h = rw h

pub lesser_of_left : (a b : Float) → total_less b a ≡ false → lesser_of a b ≡ a
unfolding lesser_of
lesser_of_left a b h = rw h

pub lesser_of_nan_left : (b : Float) → lesser_of nan b ≡ b
unfolding lesser_of total_less
lesser_of_nan_left nan = refl
lesser_of_nan_left (inf s) = refl
lesser_of_nan_left (fin s m e) = refl

pub lesser_of_nan_right : (a : Float) → lesser_of a nan ≡ a
unfolding lesser_of total_less
lesser_of_nan_right a = refl

pub lesser_of_assoc : (a b c : Float) → lesser_of (lesser_of a b) c ≡ lesser_of a (lesser_of b c)
lesser_of_assoc a b c = go (total_less b a) (total_less c b) refl refl
  where
    go : (p q : Bool) → total_less b a ≡ p → total_less c b ≡ q → lesser_of (lesser_of a b) c ≡ lesser_of a (lesser_of b c)
    go true true h k = rw (lesser_of_right a b h, lesser_of_right b c k) (sym (lesser_of_right a c (total_less_transitive c b a k h)))
    go true false h k = rw (lesser_of_right a b h, lesser_of_left b c k) (sym (lesser_of_right a b h))
    go false true h k = rw (lesser_of_left a b h, lesser_of_right b c k)
    go false false h k = rw (lesser_of_left a b h, lesser_of_left b c k) (lesser_of_left a c (total_less_neither c b a k h) ∙ sym (lesser_of_left a b h))

-- ---- the minimum
-- an index at which the minimum stands
pub minimum_of_among : (x : Float) (xs : List Float) → (i : ℕ) × (i < length (x ∷ xs)) × (get_or (x ∷ xs) i nan ≡ minimum_of (x ∷ xs))
unfolding minimum_of
minimum_of_among x [] = (0, zero-lt-suc 0, sym (lesser_of_nan_right x))
minimum_of_among x (y ∷ ys) = go (total_less (minimum_of (y ∷ ys)) x) refl (minimum_of_among y ys)
  where
    go : (b : Bool) → total_less (minimum_of (y ∷ ys)) x ≡ b
        → (i : ℕ) × (i < length (y ∷ ys)) × (get_or (y ∷ ys) i nan ≡ minimum_of (y ∷ ys))
        → (i : ℕ) × (i < length (x ∷ y ∷ ys)) × (get_or (x ∷ y ∷ ys) i nan ≡ lesser_of x (minimum_of (y ∷ ys)))
    go true h r = (suc r.0, suc-le-suc r.1, r.2 ∙ sym (lesser_of_right x (minimum_of (y ∷ ys)) h))
    go false h r = (0, zero-lt-suc (length (y ∷ ys)), sym (lesser_of_left x (minimum_of (y ∷ ys)) h))

-- no element is below the minimum
pub minimum_of_least : (xs : List Float) (i : ℕ) → i < length xs → total_less (get_or xs i nan) (minimum_of xs) ≡ false
unfolding minimum_of
minimum_of_least [] i l = absurd (not-suc-le-zero l)
minimum_of_least (x ∷ xs) i l = go (total_less (minimum_of xs) x) refl (λ j h. minimum_of_least xs j h) i l
  where
    go : (b : Bool) → total_less (minimum_of xs) x ≡ b
        → ((j : ℕ) → j < length xs → total_less (get_or xs j nan) (minimum_of xs) ≡ false)
        → (i : ℕ) → i < length (x ∷ xs) → total_less (get_or (x ∷ xs) i nan) (lesser_of x (minimum_of xs)) ≡ false
    go true h rest zero l = rw (lesser_of_right x (minimum_of xs) h) (total_less_asymmetric (minimum_of xs) x h)
    go true h rest (suc j) l = rw (lesser_of_right x (minimum_of xs) h) (rest j (le_of_suc-le-suc l))
    go false h rest zero l = rw (lesser_of_left x (minimum_of xs) h) (total_less_irreflexive x)
    go false h rest (suc j) l = rw (lesser_of_left x (minimum_of xs) h) (total_less_neither (get_or xs j nan) (minimum_of xs) x (rest j (le_of_suc-le-suc l)) h)

-- an element that none is below is the minimum
pub minimum_of_unique : (x : Float) (xs : List Float) (j : ℕ) → j < length (x ∷ xs)
    → ((i : ℕ) → i < length (x ∷ xs) → T (fits binary64 (get_or (x ∷ xs) i nan)))
    → ((i : ℕ) → i < length (x ∷ xs) → total_less (get_or (x ∷ xs) i nan) (get_or (x ∷ xs) j nan) ≡ false)
    → get_or (x ∷ xs) j nan ≡ minimum_of (x ∷ xs)
minimum_of_unique x xs j l fit none =
    let r = minimum_of_among x xs in
    total_less_connected (get_or (x ∷ xs) j nan) (get_or (x ∷ xs) r.0 nan) (fit j l) (fit r.0 r.1)
    (rw r.2 (minimum_of_least (x ∷ xs) j l))
    (none r.0 r.1)
    ∙ r.2

-- -0 is below +0, and a NaN is above +infinity, wherever they stand
pub minimum_of_examples : (minimum_of (fin false 0 (pos 0) ∷ fin true 0 (pos 0) ∷ []) ≡ fin true 0 (pos 0))
    × (minimum_of (fin true 0 (pos 0) ∷ fin false 0 (pos 0) ∷ []) ≡ fin true 0 (pos 0))
    × (minimum_of (nan ∷ inf false ∷ nan ∷ []) ≡ inf false)
    × (minimum_of (fin true 1 (pos 0) ∷ inf true ∷ fin true 1 (pos 1) ∷ []) ≡ inf true)
    × (minimum_of (fin true 1 (pos 0) ∷ fin true 1 (pos 1) ∷ fin false 3 (pos 0) ∷ []) ≡ fin true 1 (pos 1))
unfolding minimum_of
minimum_of_examples = (refl, refl, refl, refl, refl)
