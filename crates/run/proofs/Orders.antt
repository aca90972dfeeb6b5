-- What the proofs of `order` share: a command read, and the fold of an order, a command at a time.
use Rattle.std.proofs.Common.{Option, None, Some, is_some, ◌≡◌, ℕ, zero, suc, ◌+◌, ◌<◌, ◌≤◌, true, false, cond, eqb, ltb, List, length, sym, refl, ap, ◌∙◌, arith, le-ltb, lt-ltb, le-leb, eq-eqb, ne_eqb}
use Rattle.std.proofs.lemmas.Bool.{false≢true}
use lib.ListN.{get_or-eq_default}
use borrow.Author.Tests.{lt-leb}
use Rattle.run.specs.Bytes.{byte_at, little}
use Rattle.run.specs.Order.{is_known, operand_size, command_of, is_cut, command_at, next_at, command_read_at, no_places, noted}
use Rattle.run.specs.Order.{begun, complete, setting_fault, command_fault, unless_fault, ended, order_from, read_order}
use Rattle.run.specs.OrderLaws.{tells, next_after, command_end, setting_early, begin_once}
use Rattle.run.specs.Order.{Command, Amplitude, Level, MaxTime, Interval, DxLevel, Skip, Begin, Advance, End, Wrong, Read, Refused}
use Rattle.std.specs.declared.num.NonZeroUsize.{NonZeroUsize}
use Rattle.run.specs.OrderAnswers.{number_of, place_of, advances_of, Whole}
use Rattle.run.specs.declared.order.Places.{Places}
use Rattle.run.specs.declared.order.Calls.{Calls}
use Rattle.run.specs.declared.order.Fault.{Fault}
use Rattle.run.specs.declared.order.Fault.TheVariants.{Cut, Unknown, Misplaced, Missing}

-- past the end bytes count as 0
pub little_past : (n : ℕ) (s : List ℕ) (at : ℕ) → length s ≤ at → 0 ≡ little n s at
unfolding little
little_past zero s at h = refl
little_past (suc n) s at h =
    let more = little_past n s (at + 1) (omega arith) in
    omega (arith, get_or-eq_default s 0 {n = at} h)

-- ---- what came so far

-- a place that came is not 0
pub came : (o : Option NonZeroUsize) → ltb 0 (place_of o) ≡ is_some o
came None = refl
came (Some n) = lt-ltb 0 n.value n.ok

pub began : (o : Option Calls) → ltb 0 (advances_of o) ≡ is_some o
began None = refl
began (Some c) = lt-ltb 0 c.advances.value c.advances.ok

setting_not_begun : (p : Places) (place : ℕ) → setting_fault p place ≡ 0 → begun p ≡ true → ⊥
setting_not_begun p place f b = false≢true (sym (setting_early p place f) ∙ b)

-- a fault has a number
pub numbered : (f : Fault) → number_of f ≡ 0 → ⊥
numbered Cut e = absurd (omega arith)
numbered Unknown e = absurd (omega arith)
numbered Misplaced e = absurd (omega arith)
numbered Missing e = absurd (omega arith)

-- ---- a command

module _ (s : List ℕ) (at : ℕ) where
  pair : {c : Command} {n : ℕ} → c ≡ command_at s at → n ≡ next_at s at → record { command = c; next = n } ≡ command_read_at s at
  pair e f = rw (e, f)

  pub read_none : length s ≤ at → record { command = Wrong 1; next = length s } ≡ command_read_at s at
  unfolding command_at next_at is_cut
  read_none h =
      pair (rw (le-leb (length s) at h)) (rw (lt-ltb (length s) (at + 1 + operand_size (byte_at s at)) (omega arith)))

  -- an unknown byte has no operand
  known : (code : ℕ) → at < length s
      → cond (is_known code) (cond (ltb (length s) (at + 1 + operand_size code)) (Wrong 1) (command_of s (at + 1) code)) (Wrong 2)
      ≡ cond (ltb (length s) (at + 1 + operand_size code)) (Wrong 1) (command_of s (at + 1) code)
  unfolding is_known operand_size command_of
  known zero h = rw (le-ltb (length s) (at + 1 + 0) (omega arith))
  known (suc zero) h = refl
  known (suc (suc zero)) h = refl
  known (suc (suc (suc zero))) h = refl
  known (suc (suc (suc (suc zero)))) h = refl
  known (suc (suc (suc (suc (suc zero))))) h = refl
  known (suc (suc (suc (suc (suc (suc zero)))))) h = refl
  known (suc (suc (suc (suc (suc (suc (suc zero))))))) h = refl
  known (suc (suc (suc (suc (suc (suc (suc (suc zero)))))))) h = refl
  known (suc (suc (suc (suc (suc (suc (suc (suc (suc zero))))))))) h = refl
  known (suc (suc (suc (suc (suc (suc (suc (suc (suc (suc n)))))))))) h =
      let code = suc (suc (suc (suc (suc (suc (suc (suc (suc (suc n))))))))) in
      rw (le-ltb (length s) (at + 1 + 0) (omega arith), le-leb 1 code (omega arith), lt-leb code 9 (omega arith))

  pub by_cut : at < length s → command_at s at ≡ cond (is_cut s at) (Wrong 1) (command_of s (at + 1) (byte_at s at))
  unfolding command_at is_cut
  by_cut h = rw (lt-leb (length s) at h) (known (byte_at s at) h)

  cut : {n : ℕ} → n ≡ operand_size (byte_at s at) → length s < at + 1 + n → is_cut s at ≡ true
  unfolding is_cut
  cut {n} e h = rw (← e) (lt-ltb (length s) (at + 1 + n) h)

  whole : {n : ℕ} → n ≡ operand_size (byte_at s at) → at + 1 + n ≤ length s → is_cut s at ≡ false
  unfolding is_cut
  whole {n} e h = rw (← e) (le-ltb (length s) (at + 1 + n) h)

  pub read_cut : {n : ℕ} → at < length s → n ≡ operand_size (byte_at s at) → length s < at + 1 + n
      → record { command = Wrong 1; next = length s } ≡ command_read_at s at
  unfolding next_at
  read_cut l e h = pair (rw (by_cut l, cut e h)) (rw (cut e h))

  pub read_whole : {n k : ℕ} {c : Command} → at < length s → n ≡ operand_size (byte_at s at) → at + 1 + n ≤ length s
      → c ≡ command_of s (at + 1) (byte_at s at) → k ≡ at + 1 + n → record { command = c; next = k } ≡ command_read_at s at
  unfolding next_at
  read_whole l e h g f = pair (rw (by_cut l, whole e h) g) (rw (whole e h) (rw (← e) f))

-- a byte that is none of the nine
pub other : (s : List ℕ) (from x : ℕ) → (x ≡ 1 → ⊥) → (x ≡ 2 → ⊥) → (x ≡ 3 → ⊥) → (x ≡ 4 → ⊥) → (x ≡ 5 → ⊥) → (x ≡ 6 → ⊥) → (x ≡ 7 → ⊥) → (x ≡ 8 → ⊥) → (x ≡ 9 → ⊥)
    → Wrong 2 ≡ command_of s from x
unfolding command_of
other s from zero a b c d e f g h i = refl
other s from (suc zero) a b c d e f g h i = absurd (a refl)
other s from (suc (suc zero)) a b c d e f g h i = absurd (b refl)
other s from (suc (suc (suc zero))) a b c d e f g h i = absurd (c refl)
other s from (suc (suc (suc (suc zero)))) a b c d e f g h i = absurd (d refl)
other s from (suc (suc (suc (suc (suc zero))))) a b c d e f g h i = absurd (e refl)
other s from (suc (suc (suc (suc (suc (suc zero)))))) a b c d e f g h i = absurd (f refl)
other s from (suc (suc (suc (suc (suc (suc (suc zero))))))) a b c d e f g h i = absurd (g refl)
other s from (suc (suc (suc (suc (suc (suc (suc (suc zero)))))))) a b c d e f g h i = absurd (h refl)
other s from (suc (suc (suc (suc (suc (suc (suc (suc (suc zero))))))))) a b c d e f g h i = absurd (i refl)
other s from (suc (suc (suc (suc (suc (suc (suc (suc (suc (suc x)))))))))) a b c d e f g h i = refl

-- ---- an order

-- the order is what is read from `at` on, p before it, with commands enough
pub record Rest (s : List ℕ) (p : Places) (at : ℕ) : Type 0 where
  pub n : ℕ
  pub enough : length s ≤ n + at
  pub is : order_from n s at p ≡ read_order s

pub rest_first : (s : List ℕ) → Rest s no_places 0
unfolding read_order
rest_first s = record { n = length s; enough = omega arith; is = refl }

pub rest_none : {s : List ℕ} {p : Places} {at : ℕ} → Rest s p at → length s ≤ at → Refused 1 (length s) ≡ read_order s
unfolding order_from
rest_none {s} {p} {at} r h = go r.n ∙ r.is
  where
    go : (n : ℕ) → Refused 1 (length s) ≡ order_from n s at p
    go zero = refl
    go (suc n) = rw (le-leb (length s) at h)

-- what follows a command without fault
after : ℕ → List ℕ → ℕ → Places → Command → Read
after n s at p c = cond (eqb (byte_at s at) 9) (ended s (at + 1) p) (order_from n s (next_at s at) (noted p c (at + 1)))

record Turn (s : List ℕ) (p : Places) (at : ℕ) (c : Command) : Type 0 where
  m : ℕ
  enough : length s ≤ m + 1 + at
  is : unless_fault (command_fault p c) at (after m s at p c) ≡ read_order s

-- the command at `at`, and its fault
pub record Here (s : List ℕ) (p : Places) (at : ℕ) (c : Command) (fault : ℕ) : Type 0 where
  pub rest : Rest s p at
  pub inside : at < length s
  pub command : c ≡ command_at s at
  pub fault_is : fault ≡ command_fault p c

turn_of : {s : List ℕ} {p : Places} {at f : ℕ} {c : Command} → Here s p at c f → Turn s p at c
unfolding order_from after
turn_of {s} {p} {at} {f} {c} h = go h.rest.n h.rest.enough h.rest.is
  where
    go : (n : ℕ) → length s ≤ n + at → order_from n s at p ≡ read_order s → Turn s p at c
    go zero l q = absurd (omega (arith, h.inside))
    go (suc m) l q =
        record { m = m; enough = omega arith; is = rw h.command (rw (lt-leb (length s) at h.inside) at q) }

pub rest_fault : {s : List ℕ} {p : Places} {at f : ℕ} {c : Command} → Here s p at c f → (f ≡ 0 → ⊥) → Refused f at ≡ read_order s
unfolding unless_fault
rest_fault {s} {p} {at} {f} {c} h ne =
    let t = turn_of h in
    go f (after t.m s at p c) ne ∙ ap (λ (k : ℕ). unless_fault k at (after t.m s at p c)) h.fault_is ∙ t.is
  where
    go : (f : ℕ) (r : Read) → (f ≡ 0 → ⊥) → Refused f at ≡ unless_fault f at r
    go zero r ne = absurd (ne refl)
    go (suc f) r ne = refl

faultless : {s : List ℕ} {p : Places} {at f : ℕ} {c : Command} → Here s p at c f → f ≡ 0 → (t : Turn s p at c)
    → after t.m s at p c ≡ read_order s
unfolding unless_fault
faultless {s} {p} {at} {f} {c} h z t =
    ap (λ (k : ℕ). unless_fault k at (after t.m s at p c)) (sym z ∙ h.fault_is) ∙ t.is

-- 09 is the byte 9 alone
pub rest_end : {s : List ℕ} {p q : Places} {at f : ℕ} {c : Command} {r : Read} → Here s p at c f → f ≡ 0 → c ≡ End → q ≡ p
    → r ≡ ended s (at + 1) q → r ≡ read_order s
unfolding after
rest_end {s} {at = at} h z e v q =
    let nine = eq-eqb (byte_at s at) 9 (tells s at (sym h.command ∙ e)) in
    rw v at q ∙ rw nine at (faultless h z (turn_of h))

pub rest_more : {s : List ℕ} {p q : Places} {at k f : ℕ} {c : Command} → Here s p at c f → f ≡ 0 → (c ≡ End → ⊥)
    → q ≡ noted p c (at + 1) → k ≡ next_at s at → Rest s q k
unfolding after
rest_more {s} {p} {q} {at} {k} {f} {c} h z e v w =
    let t = turn_of h in
    let other = ne_eqb (byte_at s at) 9 (λ n. e (h.command ∙ command_end s at h.inside n)) in
    record { n = t.m; enough = omega (arith, t.enough, next_after s at h.inside); is = rw (v, w) (rw other at (faultless h z t)) }

count_more : (p : Places) (c : Command) (from : ℕ) → (noted p c from).count ≤ p.count + 1
unfolding noted
count_more p (Amplitude x) from = omega arith
count_more p (Level x) from = omega arith
count_more p (MaxTime x) from = omega arith
count_more p (Interval x) from = omega arith
count_more p (DxLevel x) from = omega arith
count_more p (Skip x) from = omega arith
count_more p Begin from = omega arith
count_more p (Advance n) from = omega arith
count_more p End from = omega arith
count_more p (Wrong n) from = omega arith

pub count_noted : (p : Places) {q : Places} (c : Command) (from : ℕ) {n : ℕ} → p.count ≤ n → q ≡ noted p c from → q.count ≤ n + 1
count_noted p c from h e = omega (arith, count_more p c from, ap (λ (p : Places). p.count) e)

-- 07 comes after all settings
pub whole_noted : (p : Places) (c : Command) (from : ℕ) {f : ℕ} → Whole p → f ≡ command_fault p c → f ≡ 0 → Whole (noted p c from)
unfolding noted command_fault begun complete
whole_noted p (Amplitude x) from w f z = λ b. absurd (setting_not_begun p p.amplitude (sym f ∙ z) b)
whole_noted p (Level x) from w f z = λ b. absurd (setting_not_begun p p.level (sym f ∙ z) b)
whole_noted p (MaxTime x) from w f z = λ b. absurd (setting_not_begun p p.max_time (sym f ∙ z) b)
whole_noted p (Interval x) from w f z = λ b. absurd (setting_not_begun p p.interval (sym f ∙ z) b)
whole_noted p (DxLevel x) from w f z = λ b. absurd (setting_not_begun p p.dx_level (sym f ∙ z) b)
whole_noted p (Skip x) from w f z = λ b. absurd (setting_not_begun p p.skip (sym f ∙ z) b)
whole_noted p Begin from w f z = λ b. (begin_once p (sym f ∙ z)).1
whole_noted p (Advance n) from w f z = w
whole_noted p End from w f z = w
whole_noted p (Wrong n) from w f z = w
