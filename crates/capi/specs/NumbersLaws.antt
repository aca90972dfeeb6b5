-- Laws of `whole_in`, `switch_in` and `bit`: what the code's tests decide, and that what is written is read back.
use Rattle.std.specs.Prelude.{◌≡◌, ℕ, ◌+◌, ◌*◌, ◌/◌, ◌<◌, ◌≤◌, min, Bool, true, false, cond, ◌&&◌, T, ltb, pos, ◌==◌, ◌≢◌, nat_lt, refl, Float}
use Rattle.std.proofs.Common.{sym, ap, ◌∙◌, true≢false, div-lt_iff_lt-mul, le-div_iff_mul-le, arith, ltb-true, ltb-false, lt-ltb, eq-eqb, ne_eqb}
use Rattle.std.proofs.lemmas.Bool.{false≢true}
use Rattle.std.specs.Prelude.{None, Some}
use Rattle.std.specs.Float.{nan, inf, fin, binary64}
use Rattle.std.specs.Float.Ieee.{up, down, lt, eq, round, of_int, to_unsigned}
use Rattle.std.specs.Float.Ieee.Back.{unsigned_back}
use Rattle.std.specs.Float.Ieee.Casts.{to_unsigned-lt}
use Rattle.std.specs.Float.Ieee.Exact.{HasValue}
use Rattle.std.specs.Float.Ieee.Fits.{down_pos}
use Rattle.run.specs.OrderLaws.{both}
use Rattle.vectors.proofs.Floats.{whole_in_lem, whole_value}
use Rattle.vectors.specs.Constants.{whole}
use Rattle.vectors.specs.Powers.{one}
use Rattle.std.specs.Int.{from_bool}
use Rattle.capi.specs.Numbers.{zero, whole_in, switch_in, bit}

-- ---- switches
pub bit_yes : (b : Bool) → b ≡ true → one ≡ bit b
unfolding bit
bit_yes b e = ap (λ (x : Bool). cond x one zero) (sym e)

pub bit_no : (b : Bool) → b ≡ false → zero ≡ bit b
unfolding bit
bit_no b e = ap (λ (x : Bool). cond x one zero) (sym e)

pub switch_no : (x : Float) → eq x zero ≡ true → Some false ≡ switch_in x
unfolding switch_in
switch_no x e = rw e

pub switch_yes : (x : Float) → eq x zero ≡ false → eq x one ≡ true → Some true ≡ switch_in x
unfolding switch_in
switch_yes x e f = rw (e, f)

pub switch_none : (x : Float) → eq x zero ≡ false → eq x one ≡ false → None ≡ switch_in x
unfolding switch_in
switch_none x e f = rw (e, f)

pub switch_back : (b : Bool) → switch_in (bit b) ≡ Some b
unfolding switch_in bit eq
switch_back true = refl
switch_back false = refl

-- ---- whole numbers
-- the code's test: above -1 and below 2^32
abbrev pub in_range : Float → Bool
in_range x = lt (fin true 1 (pos 0)) x && lt x (fin false 1 (pos 32))

-- the whole part is below 2^32
below : (m d : ℕ) → 0 < d → m < 4294967296 * d → m / d < 4294967296
below m d D h = (div-lt_iff_lt-mul D).1 h

same_ends : (q : ℕ) → q < 4294967296 → min q 18446744073709551615 ≡ min q 4294967295
same_ends q h = omega arith

-- in range the whole part fits 64 bits and 32 alike
same_cut : (x : Float) → lt (fin true 1 (pos 0)) x ≡ true → lt x (fin false 1 (pos 32)) ≡ true → to_unsigned 64 x ≡ to_unsigned 32 x
unfolding lt to_unsigned
same_cut nan a b = refl
same_cut (inf true) a b = refl
same_cut (inf false) a b = absurd (false≢true b)
same_cut (fin true m e) a b = refl
same_cut (fin false m e) a b =
    same_ends (m * up e / down e) (below (m * up e) (down e) (down_pos e) (omega (arith, ltb-true (m * up e * 1) (4294967296 * down e) b)))

ends : (x : Float) → in_range x ≡ true → (lt (fin true 1 (pos 0)) x ≡ true) × (lt x (fin false 1 (pos 32)) ≡ true)
ends x r = both (lt (fin true 1 (pos 0)) x) (lt x (fin false 1 (pos 32))) r

pub cut_is : (x : Float) (n : ℕ) → in_range x ≡ true → n ≡ to_unsigned 64 x → n ≡ to_unsigned 32 x
cut_is x n r e = e ∙ same_cut x (ends x r).0 (ends x r).1

pub cut_small : (x : Float) (n : ℕ) → in_range x ≡ true → n ≡ to_unsigned 64 x → n < 4294967296
cut_small x n r e = omega (arith, cut_is x n r e, to_unsigned-lt 32 x)

under_64 : (x : Float) → lt x (fin false 1 (pos 32)) ≡ true → lt x (fin false 1 (pos 64)) ≡ true
unfolding lt
under_64 nan h = h
under_64 (inf true) h = h
under_64 (inf false) h = h
under_64 (fin true m e) h = lt-ltb 0 (m * up e * 1 + 18446744073709551616 * down e) (omega (arith, down_pos e))
under_64 (fin false m e) h = lt-ltb (m * up e * 1) (18446744073709551616 * down e) (omega (arith, ltb-true (m * up e * 1) (4294967296 * down e) h))

holds : (b : Bool) → b ≡ true → T b
holds true e = tt
holds false e = absurd (false≢true e)

-- what cutting the fraction off asks
pub cut_asks : (x : Float) → in_range x ≡ true → T (lt (fin true 1 (pos 0)) x) × T (lt x (fin false 1 (pos 64)))
cut_asks x r =
    (holds (lt (fin true 1 (pos 0)) x) (ends x r).0, holds (lt x (fin false 1 (pos 64))) (under_64 x (ends x r).1))

pub whole_is : (x : Float) (n : ℕ) → n ≡ to_unsigned 32 x → eq x (whole n) ≡ true → Some n ≡ whole_in x
unfolding whole_in
whole_is x n e f =
    let g : eq x (whole (to_unsigned 32 x)) ≡ true = ap (λ (k : ℕ). eq x (whole k)) (sym e) ∙ f in
    ap Some e ∙ ap (λ (b : Bool). cond b (Some (to_unsigned 32 x)) None) (sym g)

pub whole_not : (x : Float) (n : ℕ) → n ≡ to_unsigned 32 x → eq x (whole n) ≡ false → None ≡ whole_in x
unfolding whole_in
whole_not x n e f =
    let g : eq x (whole (to_unsigned 32 x)) ≡ false = ap (λ (k : ℕ). eq x (whole k)) (sym e) ∙ f in
    ap (λ (b : Bool). cond b (Some (to_unsigned 32 x)) None) (sym g)

-- ---- out of range nothing equals the range's nearest end
least : whole 0 ≡ zero
unfolding of_int round
least = refl

most : whole 4294967295 ≡ fin false 4294967295 (pos 0)
unfolding of_int round
most = refl

top : (q : ℕ) → 4294967296 ≤ q → min q 4294967295 ≡ 4294967295
top q h = omega arith

unlike : (a b : ℕ) (c : Bool) → (a ≢ b) → (a == b && c) ≡ false
unlike a b c h = rw (ne_eqb a b h)

first_false : (a b : Bool) → (a && b) ≡ false → b ≡ true → a ≡ false
first_false true true e f = absurd (true≢false e)
first_false true false e f = absurd (false≢true f)
first_false false b e f = refl

second_false : (a b : Bool) → (a && b) ≡ false → a ≡ true → b ≡ false
second_false true b e f = e
second_false false b e f = absurd (false≢true f)

out_eq : (x : Float) → in_range x ≡ false → eq x (whole (to_unsigned 32 x)) ≡ false
unfolding lt to_unsigned eq
out_eq nan r = refl
out_eq (inf true) r = ap (eq (inf true)) least
out_eq (inf false) r = ap (eq (inf false)) most
out_eq (fin true m e) r =
    let d = down_pos e in
    let far : ltb (m * up e * 1) (1 * down e) ≡ false =
    first_false (nat_lt (m * up e * 1) (1 * down e)) _ r (lt-ltb 0 (m * up e * 1 + 4294967296 * down e) (omega arith)) in
    let size = ltb-false (m * up e * 1) (1 * down e) far in
    ap (eq (fin true m e)) least ∙ unlike (m * up e * 1) (0 * down e) _ (λ z. omega arith)
out_eq (fin false m e) r =
    let d = down_pos e in
    let far : ltb (m * up e * 1) (4294967296 * down e) ≡ false =
    second_false _ (nat_lt (m * up e * 1) (4294967296 * down e)) r (lt-ltb 0 (1 * down e + m * up e * 1) (omega arith)) in
    let size = ltb-false (m * up e * 1) (4294967296 * down e) far in
    let cut : 4294967296 ≤ m * up e / down e = (le-div_iff_mul-le d).1 (omega arith) in
    ap (λ (k : ℕ). eq (fin false m e) (whole k)) (top (m * up e / down e) cut)
    ∙ ap (eq (fin false m e)) most
    ∙ unlike (m * up e * 1) (4294967295 * down e) _ (λ z. omega arith)

pub whole_out : (x : Float) → in_range x ≡ false → None ≡ whole_in x
whole_out x r = whole_not x (to_unsigned 32 x) refl (out_eq x r)

-- ---- a whole number, as a float and back
eq_self : (x : Float) (n : ℕ) → HasValue x false n 1 → eq x x ≡ true
unfolding eq
eq_self nan n v = absurd v
eq_self (inf s) n v = absurd v
eq_self (fin true m e) n v = absurd (true≢false v.0)
eq_self (fin false m e) n v = rw (eq-eqb (m * up e * down e) (m * up e * down e) refl)

pub whole_back : (n : ℕ) → n < 4294967296 → whole_in (whole n) ≡ Some n
whole_back n h =
    let back : to_unsigned 32 (whole n) ≡ n = (unsigned_back binary64 32 n (whole_in_lem n (omega arith)) h).1 in
    sym (whole_is (whole n) n (sym back) (eq_self (whole n) n (whole_value n (omega arith))))

pub bit_is : (b : Bool) → of_int binary64 (pos (from_bool b)) ≡ bit b
unfolding of_int round bit
bit_is true = refl
bit_is false = refl
