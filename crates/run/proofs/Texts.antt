-- Turns of the loops that write text, and what their texts are together.
use Rattle.std.proofs.Common.{◌≡◌, ℕ, zero, suc, ◌+◌, ◌*◌, ◌/◌, ◌%◌, ◌^◌, ◌<◌, ◌≤◌, true, false, leb, Some, None, List, [], ◌∷◌, ◌++◌, length, get_or, take, drop, set, sym, refl, ap, ◌∙◌, append_assoc, append-nil, pow-suc, add-one, arith, le-ltb, lt-ltb}
use lib.Ieee.{Float, nan}
use lib.Seq.{take-length, drop-length}
use Rattle.std.proofs.Math.Seq.{take-suc}
use Rattle.vectors.specs.Memory.{put}
use Rattle.run.specs.WriteLaws.{put_nil, put_cons, put_snoc, take-put}
use Rattle.run.specs.Report.{digit_byte, digits, hex, decimal_count, spaced, newline, numbers, frame_word, frame_line, AfterWriting, writing, after_writing}
use Rattle.run.specs.ReportLaws.{length-digits}
use Rattle.run.specs.declared.writer.Writer.{Writer as Held}
use Rattle.run.specs.Written.{Written}

put_all : (ys xs : List ℕ) → length ys ≡ length xs → put 0 ys xs ≡ ys
unfolding put
put_all ys xs e =
    let n : 0 + length ys ≡ length xs = omega arith in
    ap (λ (k : ℕ). ys ++ drop k xs) n ∙ ap (λ (l : List ℕ). ys ++ l) (drop-length xs) ∙ append-nil ys

-- ---- a turn: what is still to be put, into what there is, makes what was asked for

-- the last of i = j + 1 digits is stored, j are to be put
pub digit_turn : (at b i j n byte : ℕ) (out : List ℕ) → i ≡ suc j → at + i ≤ length out → byte ≡ digit_byte (n % b)
    → put at (digits b j (n / b)) (set out (at + j) byte) ≡ put at (digits b i n) out
unfolding digits
digit_turn at b i j n byte out e h v =
    let l = length-digits b j (n / b) in
    rw (e, v) (ap (λ (k : ℕ). put at (digits b j (n / b)) (set out (at + k) (digit_byte (n % b)))) (sym l) ∙ put_snoc at (digits b j (n / b)) (digit_byte (n % b)) out (omega arith))

-- when none is left, the text is all there is
pub digits_all : (b k n i rest : ℕ) (xs ys : List ℕ) → put 1 (digits b i rest) ys ≡ put 1 (digits b k n) (set xs 0 32) → i ≡ 0 → length xs ≡ 1 + k → ys ≡ spaced (digits b k n)
unfolding digits
digits_all b k n i rest xs ys e z l =
    let m = length-digits b k n in
    let none : put 1 (digits b i rest) ys ≡ ys = rw z (put_nil 1 ys) in
    sym none ∙ e ∙ put_cons 0 32 (digits b k n) xs (omega arith) ∙ put_all (spaced (digits b k n)) xs (omega arith)

-- ---- counting decimal digits

one_or_more : (k : ℕ) → 1 ≤ 10 ^ k
one_or_more zero = omega arith
one_or_more (suc k) = omega (arith, one_or_more k, pow-suc 10 k)

-- the power of ten at or below a number says how many digits it has
pub counted : (f k n : ℕ) → k ≤ f → 10 ^ k ≤ n → n < 10 * 10 ^ k → decimal_count f n ≡ k + 1
unfolding decimal_count
counted zero zero n h l u = refl
counted zero (suc k) n h l u = absurd (omega arith)
counted (suc f) zero n h l u = rw (lt-ltb n 10 (omega arith))
counted (suc f) (suc k) n h l u =
    let p = pow-suc 10 k in
    rw (le-ltb n 10 (omega (arith, one_or_more k))) (ap suc (counted f k (n / 10) (omega arith) (omega arith) (omega arith)) ∙ omega arith)

-- ---- a whole text, or nothing

pub no_room_lem : (at : ℕ) (t xs : List ℕ) {n : ℕ} → length t ≡ n → leb (at + n) (length xs) ≡ false → after_writing None xs ≡ writing at t xs
unfolding writing
no_room_lem at t xs l h = rw (l, h)

pub has_room : (at : ℕ) (t xs : List ℕ) {e : ℕ} {ys : List ℕ} → leb (at + length t) (length xs) ≡ true → e ≡ at + length t → ys ≡ put at t xs → after_writing (Some e) ys ≡ writing at t xs
unfolding writing
has_room at t xs h p q = rw (h, p, q)

-- a line that was written at the start of its own memory is the text that is written
pub written_take : {most : ℕ} {t : List ℕ} {a b : Held ℕ} → a.at ≡ 0 → Written most t a b → take b.at b.out.now ≡ t
written_take {most} {t} {a} {b} z w =
    let e : b.at ≡ length t = omega (arith, w.ends) in
    rw (e, w.is, z) (take-put t a.out.now)

pub as_text : (at : ℕ) (xs : List ℕ) {t u : List ℕ} {r : AfterWriting} → r ≡ writing at u xs → u ≡ t → r ≡ writing at t xs
as_text at xs w e = w ∙ ap (λ (v : List ℕ). writing at v xs) e

-- ---- a frame

numbers-append : (xs ys : List Float) → numbers (xs ++ ys) ≡ numbers xs ++ numbers ys
unfolding numbers
numbers-append [] ys = refl
numbers-append (x ∷ xs) ys = rw (numbers-append xs ys) (sym (append_assoc (spaced (hex x)) (numbers xs) (numbers ys)))

-- one number more
pub numbers_turn : (i : ℕ) (xs : List Float) → i < length xs → numbers (take i xs) ++ spaced (hex (get_or xs i nan)) ≡ numbers (take (i + 1) xs)
unfolding numbers
numbers_turn i xs h =
    let x = get_or xs i nan in
    rw (add-one i, take-suc xs i nan h, numbers-append (take i xs) (x ∷ []), append-nil (spaced (hex x))) refl

-- all of them
pub frame_text : (i : ℕ) (xs : List Float) → i ≡ length xs → (frame_word ++ numbers (take i xs)) ++ newline ≡ frame_line xs
unfolding frame_line
frame_text i xs e = rw (e, take-length xs) (append_assoc frame_word (numbers xs) newline)
