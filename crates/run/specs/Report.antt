-- 01, "Orders": the lines that the program prints, as lists of bytes. Definitions only.
use Rattle.std.specs.Prelude.{ℕ, zero, suc, ◌+◌, ◌/◌, ◌%◌, cond, List, [], ◌∷◌, ◌++◌, length, nat_le, nat_lt, to_bits, Float, Option, None, Some}
use Rattle.std.specs.Float.{binary64}
use Rattle.vectors.specs.Memory.{put}
use Rattle.run.specs.Ascii.{bytes_of}
use Rattle.run.specs.Outcome.{Outcome, collapse, broke, timeout, spent}

-- ---- numbers

-- the byte of a digit below 16: 48 to 57 are `0` to `9`, 65 to 70 the "capitals" `A` to `F`
unfoldable pub digit_byte : ℕ → ℕ
digit_byte d = cond (nat_lt d 10) (48 + d) (55 + d)

-- the last k digits of n in base b, the most significant first
unfoldable pub digits : ℕ → ℕ → ℕ → List ℕ
digits b zero n = []
digits b (suc k) n = digits b k (n / b) ++ (digit_byte (n % b) ∷ [])

-- "floats as 16 hexadecimal capitals": the 64 bits of the float; those of a NaN are 7FF8000000000000
unfoldable pub hex : Float → List ℕ
hex x = digits 16 16 (to_bits binary64 x)

-- how many decimal digits n has, at most k + 1
unfoldable pub decimal_count : ℕ → ℕ → ℕ
decimal_count zero n = 1
decimal_count (suc k) n = cond (nat_lt n 10) 1 (suc (decimal_count k (n / 10)))

-- "in decimal", without leading zeros; a number of 64 bits has at most 20 digits
unfoldable pub decimal : ℕ → List ℕ
decimal n = digits 10 (decimal_count 19 n) n

-- ---- words

unfoldable pub frame_word : List ℕ
frame_word = bytes_of "frame"

unfoldable pub refused_word : List ℕ
refused_word = bytes_of "refused"

unfoldable pub none_word : List ℕ
none_word = bytes_of "none"

-- "collapse, broken, timeout or spent"
unfoldable pub outcome_word : Outcome → List ℕ
outcome_word (collapse mass) = bytes_of "collapse"
outcome_word broke = bytes_of "broken"
outcome_word timeout = bytes_of "timeout"
outcome_word spent = bytes_of "spent"

-- "mass or `none`"
unfoldable pub mass_text : Outcome → List ℕ
mass_text (collapse mass) = hex mass
mass_text broke = none_word
mass_text timeout = none_word
mass_text spent = none_word

-- a text behind a space, which is 32
abbrev pub spaced : List ℕ → List ℕ
spaced text = 32 ∷ text

abbrev pub newline : List ℕ
newline = 10 ∷ []

-- ---- lines

-- a space before each number
unfoldable pub numbers : List Float → List ℕ
numbers [] = []
numbers (x ∷ xs) = spaced (hex x) ++ numbers xs

-- "`frame` and F numbers, single spaces between"; each line ends in a newline
unfoldable pub frame_line : List Float → List ℕ
frame_line xs = frame_word ++ (numbers xs ++ newline)

-- "`OUTCOME STEPS TIME MASS`"
unfoldable pub outcome_line : Outcome → ℕ → Float → List ℕ
outcome_line o steps time = outcome_word o ++ spaced (decimal steps) ++ spaced (hex time) ++ spaced (mass_text o) ++ newline

-- "a refusal `refused N`"
unfoldable pub refusal_line : ℕ → List ℕ
refusal_line number = refused_word ++ spaced (decimal number) ++ newline

-- "and for 1 to 4 the byte position after it, both decimal"
unfoldable pub refusal_at_line : ℕ → ℕ → List ℕ
refusal_at_line number position = refused_word ++ spaced (decimal number) ++ spaced (decimal position) ++ newline

-- room for any line that is no frame
abbrev pub longest : ℕ
longest = 64

-- ---- what a writer answers

-- the number of a refusal, or where the text ends
pub data Reported : Type 0 where
  refused_text : ℕ → Reported
  ends_at : ℕ → Reported

-- the answer, and the lent bytes as they are left
pub record AfterWriting : Type 0 where
  pub answer : Reported
  pub bytes : List ℕ

-- the refusal of a text that there is too little room for, a number of our own (docs/DECISIONS.md): below 100 every number is a document's
abbrev pub no_room_for_text : ℕ
no_room_for_text = 100

-- a text written from `at` on, or, where there is too little room, nothing
unfoldable pub writing : ℕ → List ℕ → List ℕ → AfterWriting
writing at text bytes =
    cond (nat_le (at + length text) (length bytes))
    (record { answer = ends_at (at + length text); bytes = put at text bytes })
    (record { answer = refused_text no_room_for_text; bytes = bytes })

-- what a writer's answer stands for: nothing was written, or where the text ends
abbrev pub reported_of : Option ℕ → Reported
reported_of None = refused_text no_room_for_text
reported_of (Some end) = ends_at end

abbrev pub after_writing : Option ℕ → List ℕ → AfterWriting
after_writing answer bytes = record { answer = reported_of answer; bytes = bytes }
