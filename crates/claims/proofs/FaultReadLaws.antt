-- An order whose bytes have a fault is refused by the reader's steps with its number, there.
use Rattle.std.specs.Prelude.{ℕ, suc, ◌+◌, ◌<◌, ◌≤◌, true, false, List, [], ◌∷◌, ◌++◌, ◌⊎◌, ◌≡◌, refl, leb, length}
use Rattle.std.proofs.Math.Bool.{and-false}
use Rattle.std.proofs.Common.{append-nil, inl, inr, sym, ap, ◌∙◌, subst, arith, length-append, get_or-append-add, lt-ltb, le-ltb, le-leb}
use Rattle.std.proofs.Math.Seq.{get_or-append_seam}
use Rattle.std.proofs.lemmas.Bool.{lt-leb}
use Rattle.run.specs.Bytes.{byte_at}
use Rattle.run.specs.Order.{is_known, operand_size, switch_of, command_of, is_cut, command_at, command_fault}
use Rattle.run.specs.OrderLaws.{command_end}
use Rattle.run.specs.Order.{Command, End, Wrong}
use Rattle.claims.specs.OrderFaults.{kind, HasFault, unknown, cut, switch, misplaced, no_end, after_end}
use Rattle.claims.specs.OrderFaults.{Faulty, at_command, at_length, behind_end}
use Rattle.claims.specs.CommandBytesLaws.{coded}
use Rattle.claims.proofs.BytesExactly.{whole_length, command_there}
use Rattle.claims.specs.MisplacedLaws.{misplaced_number, misplaced_fault, no_fault}
use Rattle.claims.proofs.SoundLaws.{Comes, comes}

pub not_known : (code : ℕ) → (code ≡ 0) ⊎ (9 < code) → is_known code ≡ false
unfolding is_known
not_known code (inl e) = rw e
not_known code (inr h) = rw (lt-leb code 9 h) (and-false (leb 1 code))

known : (code : ℕ) → 1 ≤ code → code ≤ 9 → is_known code ≡ true
unfolding is_known
known code h k = rw (le-leb 1 code h, le-leb code 9 k)

-- a byte behind the front
module _ (front rest : List ℕ) (code : ℕ) where
  abbrev whole : List ℕ
  whole = front ++ (code ∷ rest)

  long : length whole ≡ length front + suc (length rest)
  long = length-append front (code ∷ rest)

  code_there : byte_at whole (length front) ≡ code
  code_there = get_or-append_seam front code rest 0

  unknown_there : (code ≡ 0) ⊎ (9 < code) → command_at whole (length front) ≡ Wrong 2
  unfolding command_at
  unknown_there u = rw (lt-leb (length whole) (length front) (omega (arith, long)), code_there, not_known code u)

  cut_there : 1 ≤ code → code ≤ 9 → length rest < operand_size code → command_at whole (length front) ≡ Wrong 1
  unfolding command_at is_cut
  cut_there h k l =
      rw (lt-leb (length whole) (length front) (omega (arith, long)), code_there, known code h k)
      (rw (lt-ltb (length whole) (length front + 1 + operand_size code) (omega (arith, long))))

switch_there : (front rest : List ℕ) (x : ℕ) → 1 < x → command_at (front ++ (6 ∷ x ∷ rest)) (length front) ≡ Wrong 2
unfolding command_at is_cut is_known operand_size command_of switch_of
switch_there front rest x h =
    let s = front ++ (6 ∷ x ∷ rest) in
    rw (lt-leb (length s) (length front) (omega (arith, long front (x ∷ rest) 6)), code_there front (x ∷ rest) 6)
    (rw (le-ltb (length s) (length front + 1 + 1) (omega (arith, long front (x ∷ rest) 6)), get_or-append-add front (6 ∷ x ∷ rest) 1 0, lt-ltb 1 x h))

wrong_faulty : {s : List ℕ} (at n : ℕ) {cs : List Command} → Comes s at cs → at < length s → command_at s at ≡ Wrong (suc n) → Faulty s (suc n) at
unfolding command_fault
wrong_faulty at n d l e = at_command d.p d.reached l (ap (command_fault d.p) e) (omega arith)

end_kind : kind End < 9
unfolding kind
end_kind = omega arith

pub bytes_faulty : (s : List ℕ) (number position : ℕ) → HasFault s number position → Faulty s number position
bytes_faulty s number position (unknown front rest cs code r e u) =
    subst (λ (l : List ℕ). Faulty l 2 (length front)) (sym e)
    (wrong_faulty (length front) 1 (comes r (code ∷ rest)) (omega (arith, long front rest code)) (unknown_there front rest code u))
bytes_faulty s number position (cut front rest cs code r e h k l) =
    subst (λ (l : List ℕ). Faulty l 1 (length front)) (sym e)
    (wrong_faulty (length front) 0 (comes r (code ∷ rest)) (omega (arith, long front rest code)) (cut_there front rest code h k l))
bytes_faulty s number position (switch front rest cs x r e h) =
    subst (λ (l : List ℕ). Faulty l 2 (length front)) (sym e)
    (wrong_faulty (length front) 1 (comes r (6 ∷ x ∷ rest)) (omega (arith, long front (x ∷ rest) 6)) (switch_there front rest x h))
bytes_faulty s number position (misplaced front b rest cs c n r e k m) =
    let d = comes r (b ++ rest) in
    subst (λ (l : List ℕ). Faulty l n (length front)) (sym e)
    (at_command d.p d.reached (omega (arith, whole_length (coded k) front rest))
    (ap (command_fault d.p) (command_there (coded k) front rest) ∙ misplaced_fault d.p cs d.tell m) (misplaced_number m))
bytes_faulty s number position (no_end cs r) =
    let d = comes r [] in
    subst (λ (l : List ℕ). Faulty l 1 (length s)) (append-nil s)
    (at_length (length s) d.p d.reached (omega (arith, length-append s [])) refl (omega (arith, length-append s [])))
bytes_faulty s number position (after_end front rest cs x r e i) =
    let d = comes r (9 ∷ x ∷ rest) in
    let l = long front (x ∷ rest) 9 in
    let is = command_end (front ++ (9 ∷ x ∷ rest)) (length front) (omega arith) (code_there front (x ∷ rest) 9) in
    subst (λ (l : List ℕ). Faulty l 3 (length front + 1)) (sym e)
    (behind_end (length front) d.p d.reached is (no_fault d.p cs d.tell End end_kind i) (omega arith) refl refl)
