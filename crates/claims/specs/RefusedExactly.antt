-- An order is refused with a number at a position exactly for one of three causes: `refused_exactly`.
use Prim.Native.Nat.{ℕ, zero, suc, ◌+◌, ◌≤◌, ◌<◌}
use Rattle.std.specs.Prelude.{Bool, cond, List, ◌↔◌, ◌≡◌, leb, eqb}
use Rattle.std.proofs.Math.Bool.{true, false}
use Rattle.std.proofs.Math.Path.{refl, subst}
use Rattle.std.proofs.Common.{sym, ap, ap₂, ◌∙◌, arith}
use Rattle.std.proofs.Math.Dec.{ltb}
use Rattle.std.proofs.Math.ListN.{length}
use borrow.Author.Tests.{ltb-true, leb-true, leb-false, lt-ltb, lt-leb, le-leb, eqb-true, eqb-false, eq-eqb, ne_eqb}
use Rattle.run.specs.Bytes.{byte_at}
use Rattle.run.specs.Order.{command_at, next_at, no_places, noted, command_fault, settings_at, unless_fault, ended, order_from, read_order}
use Rattle.run.specs.OrderLaws.{tells, next_after, command_end}
use Rattle.run.specs.Order.{End, Read, Refused, Order}
use Rattle.run.specs.declared.order.Places.{Places}
use Rattle.claims.specs.OrderFaults.{Reached, first, next, Faulty, at_command, at_length, behind_end}

module _ (s : List ℕ) where
  -- ---- from the answer to its cause
  -- what a reader's answer tells of its cause
  abbrev Why : Read → Type 0
  Why (Refused number position) = Faulty s number position
  Why (Order set p) = Unit {0}

  why_end : (at : ℕ) (p : Places) → Reached s at p → command_at s at ≡ End → command_fault p End ≡ 0 → Why (ended s (at + 1) p)
  unfolding ended
  why_end at p r c f = go (ltb (at + 1) (length s)) refl
    where
      go : (b : Bool) → ltb (at + 1) (length s) ≡ b → Why (cond b (Refused 3 (at + 1)) (Order (settings_at s p) p))
      go true t = behind_end at p r c f (ltb-true (at + 1) (length s) t) refl refl
      go false t = tt

  why_from : (n at : ℕ) (p : Places) → Reached s at p → length s ≤ n + at → Why (order_from n s at p)
  unfolding order_from unless_fault
  why_from zero at p r h = at_length at p r (omega arith) refl refl
  why_from (suc n) at p r h =
      go (leb (length s) at) (command_fault p (command_at s at)) (eqb (byte_at s at) 9) refl refl refl
      (λ l f e. why_from n (next_at s at) (noted p (command_at s at) (at + 1)) (next r l f e) (omega (arith, next_after s at l)))
    where
      rest : Read
      rest = order_from n s (next_at s at) (noted p (command_at s at) (at + 1))

      go : (a : Bool) (f : ℕ) (e : Bool) → leb (length s) at ≡ a → command_fault p (command_at s at) ≡ f → eqb (byte_at s at) 9 ≡ e
          → (at < length s → command_fault p (command_at s at) ≡ 0 → (byte_at s at ≡ 9 → ⊥) → Why rest)
          → Why (cond a (Refused 1 (length s)) (unless_fault f at (cond e (ended s (at + 1) p) rest)))
      go true f e la fa ea more = at_length at p r (leb-true (length s) at la) refl refl
      go false (suc f) e la fa ea more = at_command p r (leb-false (length s) at la) fa (omega arith)
      go false zero true la fa ea more =
          let c = command_end s at (leb-false (length s) at la) (eqb-true (byte_at s at) 9 ea) in
          why_end at p r c (ap (command_fault p) (sym c) ∙ fa)
      go false zero false la fa ea more = more (leb-false (length s) at la) fa (eqb-false (byte_at s at) 9 ea)

  -- ---- from the cause to the answer
  -- the reader comes there
  record From (at : ℕ) (p : Places) : Type 0 where
    n : ℕ
    enough : length s ≤ n + at
    is : read_order s ≡ order_from n s at p

  from_next : (n at : ℕ) (p : Places) → at < length s → command_fault p (command_at s at) ≡ 0 → (byte_at s at ≡ 9 → ⊥)
      → length s ≤ n + at → read_order s ≡ order_from n s at p
      → From (next_at s at) (noted p (command_at s at) (at + 1))
  unfolding order_from unless_fault
  from_next zero at p l f e h i = absurd (omega arith)
  from_next (suc n) at p l f e h i =
      record {
        n = n;
        enough = omega (arith, next_after s at l);
        is = i ∙ rw (lt-leb (length s) at l, f, ne_eqb (byte_at s at) 9 e);
      }

  reached_from : {at : ℕ} {p : Places} → Reached s at p → From at p
  unfolding read_order
  reached_from first = record { n = length s; enough = omega arith; is = refl }
  reached_from (next {at} {p} r l f e) = let m = reached_from r in from_next m.n at p l f e m.enough m.is

  faulty_here : (n at number : ℕ) (p : Places) → at < length s → length s ≤ n + at
      → command_fault p (command_at s at) ≡ number → 0 < number → order_from n s at p ≡ Refused number at
  unfolding order_from unless_fault
  faulty_here zero at number p l h f w = absurd (omega arith)
  faulty_here (suc n) at zero p l h f w = absurd (omega arith)
  faulty_here (suc n) at (suc number) p l h f w = rw (lt-leb (length s) at l, f)

  ends_none : (n at : ℕ) (p : Places) → length s ≤ at → order_from n s at p ≡ Refused 1 (length s)
  unfolding order_from
  ends_none zero at p h = refl
  ends_none (suc n) at p h = rw (le-leb (length s) at h)

  ends_early : (n at : ℕ) (p : Places) → command_at s at ≡ End → command_fault p End ≡ 0
      → at + 1 < length s → length s ≤ n + at → order_from n s at p ≡ Refused 3 (at + 1)
  unfolding order_from unless_fault ended
  ends_early zero at p c f l h = absurd (omega arith)
  ends_early (suc n) at p c f l h =
      rw (lt-leb (length s) at (omega arith), c, f, eq-eqb (byte_at s at) 9 (tells s at c), lt-ltb (at + 1) (length s) l)

  fault_refuses : (number position : ℕ) → Faulty s number position → read_order s ≡ Refused number position
  fault_refuses number position (at_command p r l f w) =
      let m = reached_from r in m.is ∙ faulty_here m.n position number p l m.enough f w
  fault_refuses number position (at_length at p r l e g) =
      let m = reached_from r in m.is ∙ ends_none m.n at p l ∙ ap₂ Refused (sym e) (sym g)
  fault_refuses number position (behind_end at p r c f l e g) =
      let m = reached_from r in m.is ∙ ends_early m.n at p c f l m.enough ∙ ap₂ Refused (sym e) (sym g)

  -- ---- the theorem
  pub refused_exactly : (number position : ℕ) → (read_order s ≡ Refused number position) ↔ Faulty s number position
  unfolding read_order
  refused_exactly number position = (λ e. subst Why e (why_from (length s) 0 no_places first (omega arith)), fault_refuses number position)
