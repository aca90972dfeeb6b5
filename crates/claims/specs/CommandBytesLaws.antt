-- A command and its own bytes: what the reader reads of them is what they encode.
use Prim.Native.Nat.{ℕ, zero, suc, ◌+◌, ◌*◌, ◌≤◌, ◌<◌}
use Rattle.std.specs.Prelude.{true, List, [], ◌∷◌, ◌≡◌, refl, length, get_or, take, drop}
use Rattle.std.proofs.Common.{sym, ◌∙◌, arith, length-drop, length-take-le, drop-cons, lt-ltb}
use Rattle.std.proofs.Math.Path.{ap, subst}
use Rattle.std.specs.Float.Ieee.{binary64, of_bits}
use Rattle.run.specs.Bytes.{byte_at, little, float_at}
use Rattle.run.specs.Order.{is_known, operand_size, switch_of, command_of}
use Rattle.run.specs.Order.{Command, Amplitude, Level, MaxTime, Interval, DxLevel, Advance, Wrong}
use Rattle.claims.specs.OrderForm.{number_of, Encodes, is01, is02, is03, is04, is05, is06_no, is06_yes, is07, is08, is09}
use Rattle.claims.specs.OrderFaults.{kind}

-- ---- n bytes from a position on
abbrev pub operand_at : ℕ → List ℕ → ℕ → List ℕ
operand_at n s from = take n (drop from s)

pub length_operand : (n : ℕ) (s : List ℕ) (from : ℕ) → from + n ≤ length s → length (operand_at n s from) ≡ n
length_operand n s from h = length-take-le n (drop from s) (omega (arith, length-drop from s))

pub operand_cons : (n : ℕ) (s : List ℕ) (from : ℕ) → from < length s → operand_at (suc n) s from ≡ byte_at s from ∷ operand_at n s (from + 1)
operand_cons n s from h =
    ap (take (suc n)) (drop-cons s from 0 h)
    ∙ ap (λ (i : ℕ). byte_at s from ∷ take n (drop i s)) (let z : suc from ≡ from + 1 = omega arith in z)

little_number : (n : ℕ) (s : List ℕ) (from : ℕ) → from + n ≤ length s → little n s from ≡ number_of (operand_at n s from)
unfolding little number_of
little_number zero s from h = refl
little_number (suc n) s from h =
    ap (λ (k : ℕ). byte_at s from + 256 * k) (little_number n s (from + 1) (omega arith))
    ∙ sym (ap number_of (operand_cons n s from (omega arith)))

-- ---- from what bytes encode to what the reader reads where they stand
pub record Coded (c : Command) (bytes : List ℕ) : Type 0 where
  pub code : ℕ
  pub operand : List ℕ
  pub is : bytes ≡ code ∷ operand
  pub known : is_known code ≡ true
  pub whole : length operand ≡ operand_size code
  pub read : (s : List ℕ) (from : ℕ) → from + operand_size code ≤ length s → operand_at (operand_size code) s from ≡ operand → command_of s from code ≡ c

byte_is : {x : ℕ} (s : List ℕ) (from : ℕ) → from + 1 ≤ length s → operand_at 1 s from ≡ x ∷ [] → byte_at s from ≡ x
byte_is s from h e = ap (λ (l : List ℕ). get_or l 0 0) (sym (operand_cons 0 s from (omega arith)) ∙ e)

pub coded : {c : Command} {bytes : List ℕ} → Encodes c bytes → Coded c bytes
unfolding is_known operand_size command_of float_at switch_of
coded (is01 operand n) =
    record {
      code = 1;
      operand = operand;
      is = refl;
      known = refl;
      whole = n;
      read = λ s from l e. ap (λ (k : ℕ). Amplitude (of_bits binary64 k)) (little_number 8 s from l ∙ ap number_of e);
    }
coded (is02 x) =
    record { code = 2; operand = x ∷ []; is = refl; known = refl; whole = refl; read = λ s from l e. ap Level (byte_is s from l e) }
coded (is03 operand n) =
    record {
      code = 3;
      operand = operand;
      is = refl;
      known = refl;
      whole = n;
      read = λ s from l e. ap (λ (k : ℕ). MaxTime (of_bits binary64 k)) (little_number 8 s from l ∙ ap number_of e);
    }
coded (is04 operand n) =
    record {
      code = 4;
      operand = operand;
      is = refl;
      known = refl;
      whole = n;
      read = λ s from l e. ap (λ (k : ℕ). Interval (of_bits binary64 k)) (little_number 8 s from l ∙ ap number_of e);
    }
coded (is05 x) =
    record { code = 5; operand = x ∷ []; is = refl; known = refl; whole = refl; read = λ s from l e. ap DxLevel (byte_is s from l e) }
coded is06_no =
    record { code = 6; operand = 0 ∷ []; is = refl; known = refl; whole = refl; read = λ s from l e. ap switch_of (byte_is s from l e) }
coded is06_yes =
    record { code = 6; operand = 1 ∷ []; is = refl; known = refl; whole = refl; read = λ s from l e. ap switch_of (byte_is s from l e) }
coded is07 = record { code = 7; operand = []; is = refl; known = refl; whole = refl; read = λ s from l e. refl }
coded (is08 operand n) =
    record {
      code = 8;
      operand = operand;
      is = refl;
      known = refl;
      whole = n;
      read = λ s from l e. ap Advance (little_number 4 s from l ∙ ap number_of e);
    }
coded is09 = record { code = 9; operand = []; is = refl; known = refl; whole = refl; read = λ s from l e. refl }

-- ---- from what the reader reads to what the bytes encode; a command that is wrong by itself is encoded by none
encodes_switch : (x : ℕ) (c : Command) → switch_of x ≡ c → kind c < 9 → Encodes c (6 ∷ x ∷ [])
unfolding switch_of kind
encodes_switch zero c e k = subst (λ (d : Command). Encodes d (6 ∷ 0 ∷ [])) e is06_no
encodes_switch (suc zero) c e k = subst (λ (d : Command). Encodes d (6 ∷ 1 ∷ [])) e is06_yes
encodes_switch (suc (suc x)) c e k =
    let wrong : switch_of (suc (suc x)) ≡ Wrong 2 = rw (lt-ltb 1 (suc (suc x)) (omega arith)) in
    let z : 9 ≡ kind c = ap kind (sym wrong ∙ e) in
    absurd (omega arith)

module _ (s : List ℕ) (from : ℕ) where
  -- a number of n bytes
  encodes_number : (n code : ℕ) (c : Command) (f : ℕ → Command) → from + n ≤ length s
      → ((operand : List ℕ) → length operand ≡ n → Encodes (f (number_of operand)) (code ∷ operand))
      → f (little n s from) ≡ c → Encodes c (code ∷ operand_at n s from)
  encodes_number n code c f l encodes e =
      subst (λ (d : Command). Encodes d (code ∷ operand_at n s from)) (ap f (sym (little_number n s from l)) ∙ e)
      (encodes (operand_at n s from) (length_operand n s from l))

  -- one byte
  one_byte : (code : ℕ) (c : Command) → from + 1 ≤ length s → Encodes c (code ∷ byte_at s from ∷ []) → Encodes c (code ∷ operand_at 1 s from)
  one_byte code c l = subst (λ (o : List ℕ). Encodes c (code ∷ o)) (sym (operand_cons 0 s from (omega arith)))

  pub encodes : (code : ℕ) (c : Command) → from + operand_size code ≤ length s → command_of s from code ≡ c → kind c < 9
      → Encodes c (code ∷ operand_at (operand_size code) s from)
  unfolding operand_size command_of float_at kind
  encodes zero c l e h = let z : 9 ≡ kind c = ap kind e in absurd (omega arith)
  encodes (suc zero) c l e h = encodes_number 8 1 c (λ n. Amplitude (of_bits binary64 n)) l is01 e
  encodes (suc (suc zero)) c l e h = one_byte 2 c l (subst (λ (d : Command). Encodes d (2 ∷ byte_at s from ∷ [])) e (is02 (byte_at s from)))
  encodes (suc (suc (suc zero))) c l e h = encodes_number 8 3 c (λ n. MaxTime (of_bits binary64 n)) l is03 e
  encodes (suc (suc (suc (suc zero)))) c l e h = encodes_number 8 4 c (λ n. Interval (of_bits binary64 n)) l is04 e
  encodes (suc (suc (suc (suc (suc zero))))) c l e h =
      one_byte 5 c l (subst (λ (d : Command). Encodes d (5 ∷ byte_at s from ∷ [])) e (is05 (byte_at s from)))
  encodes (suc (suc (suc (suc (suc (suc zero)))))) c l e h = one_byte 6 c l (encodes_switch (byte_at s from) c e h)
  encodes (suc (suc (suc (suc (suc (suc (suc zero))))))) c l e h = subst (λ (d : Command). Encodes d (7 ∷ [])) e is07
  encodes (suc (suc (suc (suc (suc (suc (suc (suc zero)))))))) c l e h = encodes_number 4 8 c Advance l is08 e
  encodes (suc (suc (suc (suc (suc (suc (suc (suc (suc zero))))))))) c l e h = subst (λ (d : Command). Encodes d (9 ∷ [])) e is09
  encodes (suc (suc (suc (suc (suc (suc (suc (suc (suc (suc n)))))))))) c l e h = let z : 9 ≡ kind c = ap kind e in absurd (omega arith)
