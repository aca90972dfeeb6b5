-- An order is refused with a number at a position exactly if its bytes have that fault there: `fault_exactly`; the numbers are 1 to 4 and the
-- positions at most the length: `refused_number`.
use Prim.Native.Nat.{ℕ, zero, suc, ◌+◌, ◌<◌, ◌≤◌}
use Rattle.std.specs.Prelude.{Bool, cond, ◌&&◌, ◌⊎◌, ◌↔◌, ◌≡◌, leb, eqb, length}
use Rattle.std.proofs.Math.Bool.{true, false}
use Rattle.std.proofs.Common.{true≢false, sym, ◌∙◌, length-append, take-append-drop, length-take-le, take_all, drop-cons}
use mathlib.Core.List.{List, ◌∷◌, ◌++◌}
use Rattle.std.proofs.Math.Logic.{inl, inr}
use Rattle.std.proofs.Math.Path.{refl, ap, subst}
use native.Mathlib.Omega.{arith}
use Rattle.std.proofs.Math.Dec.{ltb}
use Rattle.std.proofs.Math.ListN.{take, drop, length-drop}
use Rattle.std.proofs.Math.Seq.{split_at}
use borrow.Author.Tests.{leb-true, leb-false, ltb-true, ltb-false, lt-ltb, lt-leb}
use Rattle.vectors.specs.MemoryLaws.{side}
use Rattle.run.specs.Bytes.{byte_at}
use Rattle.run.specs.Order.{is_known, operand_size, switch_of, command_of, is_cut, command_at, command_fault, read_order}
use Rattle.run.specs.OrderLaws.{tells}
use Rattle.run.specs.Order.{Command, Skip, End, Wrong, Refused}
use Rattle.run.specs.declared.order.Places.{Places}
use Rattle.claims.specs.OrderFaults.{kind, Sound, HasFault, unknown, cut, switch, misplaced, no_end, after_end}
use Rattle.claims.specs.OrderFaults.{Faulty, at_command, at_length, behind_end}
use Rattle.claims.specs.CommandBytesLaws.{operand_at, encodes}
use Rattle.claims.proofs.BytesExactly.{split_operand}
use Rattle.claims.specs.MisplacedLaws.{misplaced_number, fault_misplaced, in_place}
use Rattle.claims.specs.OrderFaults.{Misplaced, repeated, after_begin, second_begin, early_advance, missing, early_end}
use Rattle.claims.proofs.FaultReadLaws.{not_known, bytes_faulty}
use Rattle.claims.proofs.SoundLaws.{Came, came}
use Rattle.claims.specs.RefusedExactly.{refused_exactly}

-- ---- from the reader's fault to that of the bytes
moved : {s : List ℕ} {n m at to : ℕ} → HasFault s n at → n ≡ m → at ≡ to → HasFault s m to
moved {s} {n} {m} {at} {to} f e g = subst (λ (i : ℕ). HasFault s m i) g (subst (λ (k : ℕ). HasFault s k at) e f)

-- a known byte whose whole command is wrong by itself
above : (x : ℕ) → 9 ≤ kind (switch_of x) → 1 < x
unfolding switch_of kind
above x h = go (ltb 1 x) refl h
  where
    go : (b : Bool) → ltb 1 x ≡ b → 9 ≤ kind (cond b (Wrong 2) (Skip (eqb x 1))) → 1 < x
    go true e g = ltb-true 1 x e
    go false e g = absurd (omega arith)

wrong_switch : (s : List ℕ) (from code : ℕ) → is_known code ≡ true → 9 ≤ kind (command_of s from code) → (code ≡ 6) × (1 < byte_at s from)
unfolding is_known command_of kind
wrong_switch s from zero k h = absurd (true≢false (sym k))
wrong_switch s from (suc zero) k h = absurd (omega arith)
wrong_switch s from (suc (suc zero)) k h = absurd (omega arith)
wrong_switch s from (suc (suc (suc zero))) k h = absurd (omega arith)
wrong_switch s from (suc (suc (suc (suc zero)))) k h = absurd (omega arith)
wrong_switch s from (suc (suc (suc (suc (suc zero))))) k h = absurd (omega arith)
wrong_switch s from (suc (suc (suc (suc (suc (suc zero)))))) k h = (refl, above (byte_at s from) h)
wrong_switch s from (suc (suc (suc (suc (suc (suc (suc zero))))))) k h = absurd (omega arith)
wrong_switch s from (suc (suc (suc (suc (suc (suc (suc (suc zero)))))))) k h = absurd (omega arith)
wrong_switch s from (suc (suc (suc (suc (suc (suc (suc (suc (suc zero))))))))) k h = absurd (omega arith)
wrong_switch s from (suc (suc (suc (suc (suc (suc (suc (suc (suc (suc n)))))))))) k h =
    absurd (true≢false (sym k ∙ not_known (suc (suc (suc (suc (suc (suc (suc (suc (suc (suc n)))))))))) (inr (omega arith))))

known_bounds : (code : ℕ) → is_known code ≡ true → (1 ≤ code) × (code ≤ 9)
unfolding is_known
known_bounds code e = go (leb 1 code) (leb code 9) refl refl e
  where
    go : (a b : Bool) → leb 1 code ≡ a → leb code 9 ≡ b → (a && b) ≡ true → (1 ≤ code) × (code ≤ 9)
    go true true ea eb e = (leb-true 1 code ea, leb-true code 9 eb)
    go true false ea eb e = absurd (true≢false (sym e))
    go false b ea eb e = absurd (true≢false (sym e))

unknown_bounds : (code : ℕ) → is_known code ≡ false → (code ≡ 0) ⊎ (9 < code)
unfolding is_known
unknown_bounds code e = go (leb 1 code) (leb code 9) refl refl e
  where
    go : (a b : Bool) → leb 1 code ≡ a → leb code 9 ≡ b → (a && b) ≡ false → (code ≡ 0) ⊎ (9 < code)
    go false b ea eb e = let l = leb-false 1 code ea in inl (omega arith)
    go true false ea eb e = inr (leb-false code 9 eb)
    go true true ea eb e = absurd (true≢false e)

module _ (s : List ℕ) (at : ℕ) (p : Places) (b : Came s at p) (l : at < length s) where
  abbrev code : ℕ
  code = byte_at s at

  front_length : length (take at s) ≡ at
  front_length = length-take-le at s b.most

  split : s ≡ take at s ++ (code ∷ drop (suc at) s)
  split = split_at s at 0 l

  split_two : suc at < length s → s ≡ take at s ++ (code ∷ byte_at s (suc at) ∷ drop (suc (suc at)) s)
  split_two h = split ∙ ap (λ (r : List ℕ). take at s ++ (code ∷ r)) (drop-cons s (suc at) 0 h)

  -- its operand runs past the end
  short : is_cut s at ≡ true → length (drop (suc at) s) < operand_size code
  unfolding is_cut
  short h = omega (arith, ltb-true (length s) (at + 1 + operand_size code) h, length-drop (suc at) s)

  -- it is a switch above 1
  switch_fault : (n : ℕ) → is_cut s at ≡ false → command_fault p (command_of s (at + 1) code) ≡ n → (code ≡ 6) × (1 < byte_at s (at + 1)) → HasFault s n at
  unfolding is_cut operand_size command_of switch_of command_fault
  switch_fault n h f w =
      let same : suc at ≡ at + 1 = omega arith in
      let above : 1 < byte_at s (suc at) = subst (λ (i : ℕ). 1 < byte_at s i) (sym same) w.1 in
      let inside = ltb-false (length s) (at + 1 + 1) (ap (λ (c : ℕ). ltb (length s) (at + 1 + operand_size c)) (sym w.0) ∙ h) in
      let is = ap (λ (c : ℕ). command_fault p (command_of s (at + 1) c)) (sym w.0) ∙ f in
      moved
      (switch (take at s) (drop (suc (suc at)) s) b.cs (byte_at s (suc at)) b.sound
      (split_two (omega arith) ∙ ap (λ (c : ℕ). take at s ++ (c ∷ byte_at s (suc at) ∷ drop (suc (suc at)) s)) w.0) above)
      (rw (lt-ltb 1 (byte_at s (at + 1)) w.1) at is) front_length

  -- the command there is whole
  whole_fault : (n : ℕ) → is_known code ≡ true → is_cut s at ≡ false → command_fault p (command_of s (at + 1) code) ≡ n → 0 < n → HasFault s n at
  unfolding is_cut
  whole_fault n k h f w = elim (side (kind (command_of s (at + 1) code)) 9) [
    | inl i ↦ (
        let inside = ltb-false (length s) (at + 1 + operand_size code) h in
        moved
        (misplaced (take at s) (code ∷ operand_at (operand_size code) s (at + 1)) (drop (at + 1 + operand_size code) s) b.cs
        (command_of s (at + 1) code) n b.sound
        (sym (take-append-drop at s) ∙ ap (λ (r : List ℕ). take at s ++ r) (split_operand (operand_size code) s at l))
        (encodes s (at + 1) code (command_of s (at + 1) code) inside refl i)
        (fault_misplaced p b.cs b.tell (command_of s (at + 1) code) n i f w))
        refl front_length)
    | inr i ↦ switch_fault n h f (wrong_switch s (at + 1) code k i)
  ]

  command_fault_lem : (n : ℕ) → command_fault p (command_at s at) ≡ n → 0 < n → HasFault s n at
  unfolding command_at command_fault
  command_fault_lem n f w = go (is_known code) refl (is_cut s at) refl (rw (lt-leb (length s) at l) at f)
    where
      go : (k : Bool) → is_known code ≡ k → (h : Bool) → is_cut s at ≡ h
          → command_fault p (cond k (cond h (Wrong 1) (command_of s (at + 1) code)) (Wrong 2)) ≡ n → HasFault s n at
      go false ek h eh e =
          moved (unknown (take at s) (drop (suc at) s) b.cs code b.sound split (unknown_bounds code ek)) e front_length
      go true ek true eh e =
          let k = known_bounds code ek in
          moved (cut (take at s) (drop (suc at) s) b.cs code b.sound split k.0 k.1 (short eh)) e front_length
      go true ek false eh e = whole_fault n ek eh e w

faulty_bytes : (s : List ℕ) (number position : ℕ) → Faulty s number position → HasFault s number position
faulty_bytes s number position (at_command p r l f w) = command_fault_lem s position p (came s r) l number f w
faulty_bytes s number position (at_length at p r l e g) =
    let b = came s r in
    moved (no_end b.cs (subst (λ (xs : List ℕ). Sound xs b.cs) (take_all at s l) b.sound)) (sym e) (sym g)
faulty_bytes s number position (behind_end at p r c f l e g) =
    let b = came s r in
    let inside : at < length s = omega arith in
    let n = front_length s at p b inside in
    moved
    (after_end (take at s) (drop (suc (suc at)) s) b.cs (byte_at s (suc at)) b.sound
    (split_two s at p b inside (omega arith) ∙ ap (λ (x : ℕ). take at s ++ (x ∷ byte_at s (suc at) ∷ drop (suc (suc at)) s)) (tells s at c))
    (in_place p b.cs b.tell End f))
    (sym e) (omega arith)

-- ---- the theorem
pub fault_exactly : (s : List ℕ) (number position : ℕ) → (read_order s ≡ Refused number position) ↔ HasFault s number position
fault_exactly s number position = (
  λ e. faulty_bytes s number position ((refused_exactly s number position).0 e),
  λ f. (refused_exactly s number position).1 (bytes_faulty s number position f),
)

-- ---- "a refusal `refused N`, and for 1 to 4 the byte position after it": the reader's numbers are 1 to 4, its positions at most the length
misplaced_most : {cs : List Command} {c : Command} {n : ℕ} → Misplaced cs c n → n ≤ 4
misplaced_most (repeated c h t) = omega arith
misplaced_most (after_begin c h t) = omega arith
misplaced_most (second_begin t) = omega arith
misplaced_most (early_advance n t) = omega arith
misplaced_most (missing k h t u) = omega arith
misplaced_most (early_end t) = omega arith

fault_number : {s : List ℕ} {number position : ℕ} → HasFault s number position → (1 ≤ number) × (number ≤ 4) × (position ≤ length s)
fault_number (unknown front rest cs code r e u) = (omega arith, omega arith, omega (arith, ap length e, length-append front (code ∷ rest)))
fault_number (cut front rest cs code r e h k l) = (omega arith, omega arith, omega (arith, ap length e, length-append front (code ∷ rest)))
fault_number (switch front rest cs x r e h) = (omega arith, omega arith, omega (arith, ap length e, length-append front (6 ∷ x ∷ rest)))
fault_number (misplaced front b rest cs c n r e k m) =
    (omega (arith, misplaced_number m), misplaced_most m, omega (arith, ap length e, length-append front (b ++ rest)))
fault_number (no_end cs r) = (omega arith, omega arith, omega arith)
fault_number (after_end front rest cs x r e i) = (omega arith, omega arith, omega (arith, ap length e, length-append front (9 ∷ x ∷ rest)))

pub refused_number : (s : List ℕ) (number position : ℕ) → read_order s ≡ Refused number position → (1 ≤ number) × (number ≤ 4) × (position ≤ length s)
refused_number s number position e = fault_number ((fault_exactly s number position).0 e)
