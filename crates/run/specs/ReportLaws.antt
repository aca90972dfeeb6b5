-- How many bytes each line has.
use Rattle.std.specs.Prelude.{◌≡◌, ℕ, zero, suc, ◌+◌, ◌*◌, ◌/◌, ◌≤◌, Bool, true, false, cond, List, [], ◌∷◌, ◌++◌, length, nat_lt, to_bits, refl, Float}
use Rattle.std.proofs.Common.{◌∙◌, arith, length-append}
use Rattle.std.specs.Float.{binary64}
use Rattle.run.specs.Ascii.{bytes_of}
use Rattle.run.specs.Outcome.{Outcome, collapse, broke, timeout, spent}
use Rattle.run.specs.Report.{digits, hex, decimal_count, decimal, frame_word, refused_word, none_word, outcome_word, mass_text, spaced, newline, numbers, frame_line, outcome_line, refusal_line, refusal_at_line, longest}

pub length-digits : (b k n : ℕ) → length (digits b k n) ≡ k
unfolding digits
length-digits b zero n = refl
length-digits b (suc k) n = length-append (digits b k (n / b)) _ ∙ omega (arith, length-digits b k (n / b))

pub length_hex : (x : Float) → length (hex x) ≡ 16
unfolding hex
length_hex x = length-digits 16 16 (to_bits binary64 x)

pub decimal_count_most : (k n : ℕ) → decimal_count k n ≤ suc k
unfolding decimal_count
decimal_count_most zero n = omega arith
decimal_count_most (suc k) n = go (nat_lt n 10) (decimal_count_most k (n / 10))
  where
    go : (b : Bool) {m : ℕ} → m ≤ suc k → cond b 1 (suc m) ≤ suc (suc k)
    go true h = omega arith
    go false h = omega arith

pub length_decimal : (n : ℕ) → length (decimal n) ≤ 20
unfolding decimal
length_decimal n = omega (arith, length-digits 10 (decimal_count 19 n) n, decimal_count_most 19 n)

-- ---- a frame

pub length_numbers : (xs : List Float) → length (numbers xs) ≡ 17 * length xs
unfolding numbers
length_numbers [] = refl
length_numbers (x ∷ xs) = length-append (spaced (hex x)) (numbers xs) ∙ omega (arith, length_hex x, length_numbers xs)

pub length_frame : (xs : List Float) → length (frame_line xs) ≡ 6 + 17 * length xs
unfolding frame_line frame_word bytes_of
length_frame xs = omega (arith, length-append frame_word (numbers xs ++ newline), length-append (numbers xs) newline, length_numbers xs)

-- ---- the other lines

length-outcome_word : (o : Outcome) → length (outcome_word o) ≤ 8
unfolding outcome_word bytes_of
length-outcome_word (collapse mass) = omega arith
length-outcome_word broke = omega arith
length-outcome_word timeout = omega arith
length-outcome_word spent = omega arith

length-mass_text : (o : Outcome) → length (mass_text o) ≤ 16
unfolding mass_text none_word bytes_of
length-mass_text (collapse mass) = omega (arith, length_hex mass)
length-mass_text broke = omega arith
length-mass_text timeout = omega arith
length-mass_text spent = omega arith

pub length_outcome : (o : Outcome) (steps : ℕ) (time : Float) → length (outcome_line o steps time) ≤ longest
unfolding outcome_line
length_outcome o steps time =
    let a = outcome_word o in
    let b = spaced (decimal steps) in
    let c = spaced (hex time) in
    let d = spaced (mass_text o) in
    omega (arith, length-append (a ++ b ++ c ++ d) newline, length-append (a ++ b ++ c) d, length-append (a ++ b) c, length-append a b, length-outcome_word o, length_decimal steps, length_hex time, length-mass_text o)

pub length_refusal : (number : ℕ) → length (refusal_line number) ≤ longest
unfolding refusal_line refused_word bytes_of
length_refusal number =
    let b = spaced (decimal number) in
    omega (arith, length-append (refused_word ++ b) newline, length-append refused_word b, length_decimal number)

pub length_refusal_at : (number position : ℕ) → length (refusal_at_line number position) ≤ longest
unfolding refusal_at_line refused_word bytes_of
length_refusal_at number position =
    let b = spaced (decimal number) in
    let c = spaced (decimal position) in
    omega (arith, length-append (refused_word ++ b ++ c) newline, length-append (refused_word ++ b) c, length-append refused_word b, length_decimal number, length_decimal position)
