-- From the digits that are printed of a number or of a float it comes back, and a frame's line has its floats' digits at known places.
use Rattle.std.specs.Prelude.{ℕ, zero, suc, ◌+◌, ◌-◌, ◌*◌, ◌/◌, ◌%◌, ◌^◌, ◌<◌, ◌≤◌, ◌≡◌, refl, Bool, true, false, cond, not, List, [], ◌∷◌, ◌++◌, T, ltb, Float, length, get_or, take, drop}
use Rattle.std.proofs.Common.{sym, ap, ◌∙◌, append_assoc, mod-lt, div-add-mod', div-lt_iff_lt-mul, pow-suc, arith, drop-drop, take_at, drop_at, lt-ltb, le-ltb, ltb-true, ltb-false}
use Rattle.std.proofs.Math.Nat.{pow-zero}
use Rattle.std.specs.Float.{nan, binary64}
use Rattle.std.specs.Float.Ieee.{fits, is_nan, of_bits, to_bits}
use Rattle.std.specs.Float.Ieee.Bits.{of_bits-to_bits, to_bits-lt, to_bits-of_bits, of_bits-fits}
use Rattle.run.specs.Ascii.{bytes_of}
use Rattle.run.specs.Report.{digit_byte, digits, hex, decimal_count, decimal, frame_word, spaced, newline, numbers, frame_line}
use Rattle.run.specs.ReportLaws.{length-digits, length_hex}
use Rattle.claims.specs.Recovered.{digit_of, value_after, value_of}

value_snoc : (b n : ℕ) (bytes : List ℕ) (byte : ℕ) → value_after b n (bytes ++ (byte ∷ [])) ≡ value_after b n bytes * b + digit_of byte
unfolding value_after
value_snoc b n [] byte = refl
value_snoc b n (x ∷ bytes) byte = value_snoc b (n * b + digit_of x) bytes byte

digit_byte_lem : (d : ℕ) → d < 16 → digit_of (digit_byte d) ≡ d
unfolding digit_of digit_byte
digit_byte_lem d h = go (ltb d 10) (λ t. ltb-true d 10 t) (λ t. ltb-false d 10 t)
  where
    go : (b : Bool) → (b ≡ true → d < 10) → (b ≡ false → 10 ≤ d) → cond (ltb (cond b (48 + d) (55 + d)) 58) (cond b (48 + d) (55 + d) - 48) (cond b (48 + d) (55 + d) - 55) ≡ d
    go true y n = let s = y refl in rw (lt-ltb (48 + d) 58 (omega arith)) (omega arith)
    go false y n = let s = n refl in rw (le-ltb (55 + d) 58 (omega arith)) (omega arith)

-- k digits of a number that has no more
pub value_digits : (b k n : ℕ) → 0 < b → b ≤ 16 → n < b ^ k → value_of b (digits b k n) ≡ n
unfolding digits value_of value_after
value_digits b zero n p q h = omega (arith, pow-zero b)
value_digits b (suc k) n p q h =
    let less : n / b < b ^ k = (div-lt_iff_lt-mul {k = b} p).1 (rw pow-suc at h) in
    let e : value_after b 0 (digits b k (n / b)) ≡ n / b = value_digits b k (n / b) p q less in
    let d : digit_of (digit_byte (n % b)) ≡ n % b = digit_byte_lem (n % b) (omega (arith, mod-lt n {m = b} p)) in
    value_snoc b 0 (digits b k (n / b)) (digit_byte (n % b)) ∙ rw (e, d) (div-add-mod' n b)

-- every float of the format, a NaN as the one NaN
pub float_recovered : (x : Float) → T (fits binary64 x) → of_bits binary64 (value_of 16 (hex x)) ≡ x
unfolding hex
float_recovered x f = ap (of_bits binary64) (value_digits 16 16 (to_bits binary64 x) (omega arith) (omega arith) (to_bits-lt binary64 x f)) ∙ of_bits-to_bits binary64 x f

-- every bit pattern but a NaN's
pub bits_recovered : (n : ℕ) → n < 2 ^ 64 → T (not (is_nan (of_bits binary64 n))) → value_of 16 (hex (of_bits binary64 n)) ≡ n
unfolding hex
bits_recovered n h t =
    value_digits 16 16 (to_bits binary64 (of_bits binary64 n)) (omega arith) (omega arith) (to_bits-lt binary64 (of_bits binary64 n) (of_bits-fits binary64 n))
    ∙ to_bits-of_bits binary64 n h t

-- ---- decimal

-- a case by whether n has one digit
by_size : (P : ℕ → Type 0) (n m : ℕ) → (n < 10 → P 1) → (10 ≤ n → P m) → P (cond (ltb n 10) 1 m)
by_size P n m f g = go (ltb n 10) (λ t. ltb-true n 10 t) (λ t. ltb-false n 10 t)
  where
    go : (b : Bool) → (b ≡ true → n < 10) → (b ≡ false → 10 ≤ n) → P (cond b 1 m)
    go true y z = f (y refl)
    go false y z = g (z refl)

power_more : (c n : ℕ) → n / 10 < 10 ^ c → n < 10 ^ suc c
power_more c n h = rw pow-suc ((div-lt_iff_lt-mul {k = 10} (omega arith)).0 h)

power_less : (c n : ℕ) → n < 10 ^ suc c → n / 10 < 10 ^ c
power_less c n h = (div-lt_iff_lt-mul {k = 10} (omega arith)).1 (rw pow-suc at h)

-- as many digits as are needed
count_enough : (k n : ℕ) → n < 10 ^ suc k → n < 10 ^ decimal_count k n
unfolding decimal_count
count_enough zero n h = h
count_enough (suc k) n h =
    let c = decimal_count k (n / 10) in
    by_size (λ m. n < 10 ^ m) n (suc c) (λ s. omega arith) (λ s. power_more c n (count_enough k (n / 10) (power_less (suc k) n h)))

power_least : (c n : ℕ) → 0 < c → 10 ^ (c - 1) ≤ n / 10 → 10 ^ (suc c - 1) ≤ n
power_least c n p h =
    let e : suc c - 1 ≡ suc (c - 1) = omega arith in
    rw (e, pow-suc) (omega arith)

count_some : (k n : ℕ) → 0 < decimal_count k n
unfolding decimal_count
count_some zero n = omega arith
count_some (suc k) n = by_size (λ m. 0 < m) n (suc (decimal_count k (n / 10))) (λ s. omega arith) (λ s. omega arith)

-- and no more
count_least : (k n : ℕ) → 0 < n → 10 ^ (decimal_count k n - 1) ≤ n
unfolding decimal_count
count_least zero n h = omega arith
count_least (suc k) n h =
    let c = decimal_count k (n / 10) in
    by_size (λ m. 10 ^ (m - 1) ≤ n) n (suc c) (λ s. omega arith) (λ s. power_least c n (count_some k (n / 10)) (count_least k (n / 10) (omega arith)))

pub decimal_recovered : (n : ℕ) → n < 10 ^ 20 → value_of 10 (decimal n) ≡ n
unfolding decimal
decimal_recovered n h = value_digits 10 (decimal_count 19 n) n (omega arith) (omega arith) (count_enough 19 n h)

-- no leading zero: one digit less would not do
pub decimal_shortest : (n : ℕ) → 0 < n → 10 ^ (length (decimal n) - 1) ≤ n
unfolding decimal
decimal_shortest n h = rw length-digits (count_least 19 n h)

-- ---- a frame

-- the i-th number, wherever the text after the numbers ends
number_at : (xs : List Float) (i : ℕ) (end : List ℕ) → i < length xs → take 16 (drop (1 + 17 * i) (numbers xs ++ end)) ≡ hex (get_or xs i nan)
unfolding numbers
number_at [] i end h = absurd (omega arith)
number_at (x ∷ xs) zero end h = ap (take 16) (append_assoc (hex x) (numbers xs) end) ∙ take_at (hex x) (numbers xs ++ end) 16 (length_hex x)
number_at (x ∷ xs) (suc i) end h =
    let all = numbers (x ∷ xs) ++ end in
    let n : 1 + 17 * suc i ≡ 17 + (1 + 17 * i) = omega arith in
    let l : length (spaced (hex x)) ≡ 17 = omega (arith, length_hex x) in
    let d : drop 17 all ≡ numbers xs ++ end = ap (drop 17) (append_assoc (spaced (hex x)) (numbers xs) end) ∙ drop_at (spaced (hex x)) (numbers xs ++ end) 17 l in
    ap (λ (k : ℕ). take 16 (drop k all)) n ∙ ap (take 16) (sym (drop-drop (1 + 17 * i) 17 all)) ∙ ap (λ (t : List ℕ). take 16 (drop (1 + 17 * i) t)) d ∙ number_at xs i end (omega arith)

pub frame_digits : (xs : List Float) (i : ℕ) → i < length xs → take 16 (drop (6 + 17 * i) (frame_line xs)) ≡ hex (get_or xs i nan)
unfolding frame_line frame_word bytes_of
frame_digits xs i h =
    let n : 6 + 17 * i ≡ 5 + (1 + 17 * i) = omega arith in
    ap (λ (k : ℕ). take 16 (drop k (frame_line xs))) n ∙ ap (take 16) (sym (drop-drop (1 + 17 * i) 5 (frame_line xs))) ∙ number_at xs i newline h

-- each float of a frame from its line
pub frame_recovered : (xs : List Float) (i : ℕ) → i < length xs → T (fits binary64 (get_or xs i nan))
    → of_bits binary64 (value_of 16 (take 16 (drop (6 + 17 * i) (frame_line xs)))) ≡ get_or xs i nan
frame_recovered xs i h f = ap (λ (t : List ℕ). of_bits binary64 (value_of 16 t)) (frame_digits xs i h) ∙ float_recovered (get_or xs i nan) f
