-- What stands before a position is sound exactly where the reader's steps come there.
use Rattle.std.specs.Prelude.{ℕ, suc, ◌+◌, ◌<◌, ◌≤◌, List, [], ◌∷◌, ◌++◌, ◌≡◌, refl, length, take}
use Rattle.std.proofs.Common.{append_assoc, sym, ap, ◌∙◌, subst, take-add}
use native.Mathlib.Omega.{arith}
use Rattle.run.specs.Bytes.{byte_at}
use Rattle.run.specs.Order.{operand_size, command_at, next_at, no_places, noted, command_fault}
use Rattle.run.specs.OrderLaws.{tells, command_end}
use Rattle.run.specs.Order.{Command, Amplitude, Level, MaxTime, Interval, DxLevel, Skip, Begin, Advance, End, Wrong}
use Rattle.run.specs.declared.order.Places.{Places}
use Rattle.claims.specs.OrderForm.{Encodes}
use Rattle.claims.specs.OrderFaults.{kind, Sound, empty, and, InPlace}
use Rattle.claims.specs.OrderFaults.{Reached, first, next}
use Rattle.claims.specs.CommandBytesLaws.{operand_at, operand_cons, coded, encodes}
use Rattle.claims.proofs.BytesExactly.{whole_length, command_there, next_there, whole_at}
use Rattle.claims.specs.MisplacedLaws.{Tell, no_fault, in_place, tell_first, tell_next}

-- ---- from the reader's steps to the bytes
pub record Came (s : List ℕ) (at : ℕ) (p : Places) : Type 0 where
  pub cs : List Command
  pub sound : Sound (take at s) cs
  pub most : at ≤ length s
  pub tell : Tell p cs

module _ (s : List ℕ) where
  -- a command without fault that is no 09
  ordinary : (at : ℕ) (p : Places) (c : Command) → command_at s at ≡ c → command_fault p c ≡ 0 → (byte_at s at ≡ 9 → ⊥) → kind c < 8
  unfolding kind command_fault
  ordinary at p (Amplitude x) e f n = omega arith
  ordinary at p (Level x) e f n = omega arith
  ordinary at p (MaxTime x) e f n = omega arith
  ordinary at p (Interval x) e f n = omega arith
  ordinary at p (DxLevel x) e f n = omega arith
  ordinary at p (Skip x) e f n = omega arith
  ordinary at p Begin e f n = omega arith
  ordinary at p (Advance x) e f n = omega arith
  ordinary at p End e f n = absurd (n (tells s at e))
  ordinary at p (Wrong x) e f n = let t = tells s at e in absurd (omega arith)

  -- the bytes up to the end of a command
  front_more : (at size : ℕ) → at < length s → take (at + 1 + size) s ≡ take at s ++ (byte_at s at ∷ operand_at size s (at + 1))
  front_more at size l =
      ap (λ (n : ℕ). take n s) (let z : at + 1 + size ≡ at + suc size = omega arith in z)
      ∙ take-add at (suc size) s
      ∙ ap (λ (xs : List ℕ). take at s ++ xs) (operand_cons size s at l)

  came_next : (at : ℕ) (p : Places) → Came s at p → at < length s → command_fault p (command_at s at) ≡ 0 → (byte_at s at ≡ 9 → ⊥)
      → Came s (next_at s at) (noted p (command_at s at) (at + 1))
  came_next at p b l f n =
      let c = command_at s at in
      let size = operand_size (byte_at s at) in
      let k = ordinary at p c refl f n in
      let w = whole_at s at c refl (omega arith) in
      record {
        cs = b.cs ++ (c ∷ []);
        sound =
            subst (λ (xs : List ℕ). Sound xs (b.cs ++ (c ∷ [])))
            (sym (ap (λ (i : ℕ). take i s) w.after ∙ front_more at size l))
            (and b.sound (encodes s (at + 1) (byte_at s at) c w.inside w.read (omega arith)) (in_place p b.cs b.tell c f) k);
        most = omega (arith, w.after, w.inside);
        tell = tell_next p b.cs b.tell (at + 1) (omega arith) c k;
      }

  pub came : {at : ℕ} {p : Places} → Reached s at p → Came s at p
  came first = record { cs = []; sound = empty; most = omega arith; tell = tell_first }
  came (next {at} {p} r l f n) = came_next at p (came r) l f n

-- ---- from the bytes to the reader's steps
pub record Comes (s : List ℕ) (at : ℕ) (cs : List Command) : Type 0 where
  pub p : Places
  pub reached : Reached s at p
  pub tell : Tell p cs

comes_next : {b : List ℕ} {c : Command} (front rest : List ℕ) (cs : List Command) → Comes (front ++ (b ++ rest)) (length front) cs
    → Encodes c b → InPlace cs c → kind c < 8 → Comes ((front ++ b) ++ rest) (length (front ++ b)) (cs ++ (c ∷ []))
unfolding kind
comes_next {b} {c} front rest cs d e i k =
    subst (λ (s : List ℕ). Comes s (length (front ++ b)) (cs ++ (c ∷ []))) (sym (append_assoc front b rest))
    (subst (λ (n : ℕ). Comes (front ++ (b ++ rest)) n (cs ++ (c ∷ []))) (next_there (coded e) front rest) here)
  where
    s : List ℕ
    s = front ++ (b ++ rest)

    is : command_at s (length front) ≡ c
    is = command_there (coded e) front rest

    inside : length front < length s
    inside = omega (arith, whole_length (coded e) front rest)

    not_end : byte_at s (length front) ≡ 9 → ⊥
    not_end z = let w : kind c ≡ 8 = ap kind (sym is ∙ command_end s (length front) inside z) in omega arith

    here : Comes s (next_at s (length front)) (cs ++ (c ∷ []))
    here =
        record {
          p = noted d.p (command_at s (length front)) (length front + 1);
          reached = next d.reached inside (ap (command_fault d.p) is ∙ no_fault d.p cs d.tell c (omega arith) i) not_end;
          tell =
              subst (λ (x : Command). Tell (noted d.p x (length front + 1)) (cs ++ (c ∷ []))) (sym is)
              (tell_next d.p cs d.tell (length front + 1) (omega arith) c k);
        }

pub comes : {front : List ℕ} {cs : List Command} → Sound front cs → (rest : List ℕ) → Comes (front ++ rest) (length front) cs
comes empty rest = record { p = no_places; reached = first; tell = tell_first }
comes (and {front} {b} {cs} {c} r e i k) rest = comes_next front rest cs (comes r (b ++ rest)) e i k
