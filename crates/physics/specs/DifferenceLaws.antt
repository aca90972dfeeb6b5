-- A difference of the field, written to slot k: two numbers at each end and a loop between them. g xs i is the difference of xs at point i.
use Rattle.std.specs.Prelude.{◌≡◌, ℕ, ◌+◌, ◌-◌, ◌*◌, ◌<◌, ◌≤◌, Bool, true, false, List, [], ◌∷◌, ◌++◌, length, take, drop, ◌==◌, slice_set, refl, Float, Result}
use Rattle.std.proofs.Common.{sym, ap, ◌∙◌, inl, inr, add-zero, arith, length-set, length-drop, get_or-set_other, eq-eqb}
use Rattle.std.proofs.lemmas.List.{length-take-le}
use Rattle.std.specs.Float.{nan}
use Rattle.vectors.specs.declared.answer.Refusal.{Refusal}
use Rattle.vectors.specs.Answer.{number_of, left_by}
use Rattle.vectors.specs.Fault.{fault_of, all_fit}
use Rattle.vectors.specs.FaultLaws.{left_accepted}
use Rattle.vectors.specs.Grid.{level_in_range, points_of}
use Rattle.vectors.specs.GridLaws.{Level, level_of, points_out}
use Rattle.vectors.specs.Memory.{tab}
use Rattle.vectors.specs.MemoryLaws.{fill, Filled, Grown, grown_step, filled_none, step, step_at, filled_put, length_tab, part_same, apart_or}
use Rattle.physics.specs.Fills.{fill_set}
use Rattle.physics.specs.SlotNumbers.{field_slot, momentum_slot}
use Rattle.physics.specs.Slots.{slots, upd, Became, slots_apart, lends, lent_slot, length_slot, wrote, wrote_after}

-- the field as code lends it
abbrev pub lent_field : ℕ → List Float → List Float
lent_field n w = take (momentum_slot * n - field_slot * n) (drop (field_slot * n) w)

-- the two numbers at each end of the n from at on
abbrev pub ends_set : ℕ → ℕ → Float → Float → Float → Float → List Float → List Float
ends_set at n left0 left1 right1 right0 w = slice_set (slice_set (slice_set (slice_set w (at + (n - 2)) right1) (at + (n - 1)) right0) at left0) (at + 1) left1

-- a number stored in slot k leaves slot j
slot_stored : (n k j i : ℕ) (w : List Float) (v : Float) → (j == k) ≡ false → i < n → slots n (slice_set w (k * n + i) v) j ≡ slots n w j
unfolding slots
slot_stored n k j i w v p h =
    part_same (j * n) n (slice_set w (k * n + i) v) w nan (length-set w (k * n + i) v)
    (λ m l. elim (apart_or (k * n) n (j * n) n (slots_apart n k j p)) [
      | inl u ↦ get_or-set_other w (k * n + i) (j * n + m) v nan (λ e. omega arith)
      | inr u ↦ get_or-set_other w (k * n + i) (j * n + m) v nan (λ e. omega arith)
    ])

module _ (n k : ℕ) (g : List Float → ℕ → Float) where
  -- a turn of the loop: the number is the difference of whatever list the field is
  pub difference_turn : {i : ℕ} {w₀ w : List Float} {v : Float} → Grown (k * n) 2 i (λ E. g (slots n E field_slot)) w₀ w → i ≤ n → n ≤ length w → (0 == k) ≡ false
      → ((xs : List Float) → length xs ≡ n → lent_field n w ≡ xs → v ≡ g xs i)
      → Grown (k * n) 2 (i + 1) (λ E. g (slots n E field_slot)) w₀ (slice_set w (k * n + i) v)
  difference_turn {w = w} G h l p law =
      let e : 1 * n ≡ 0 * n + n = omega arith in
      grown_step G refl (λ E f.
      let is = lends n k 0 (1 * n) f h p e in
      law (slots n E field_slot) (ap length (sym is) ∙ ap length (lent_slot n 0 (1 * n) w e) ∙ length_slot n 0 w (omega arith)) is)

  -- the pass
  pub difference_pass : {w' : List Float} {a b y z : Float} (w : List Float) → 4 ≤ n → n ≤ length w → k * n + n ≤ length w → (0 == k) ≡ false
      → Grown (k * n) 2 (n - 2) (λ E. g (slots n E field_slot)) (ends_set (k * n) n a b y z w) w'
      → ((xs : List Float) → length xs ≡ n → lent_field n w ≡ xs → (a ≡ g xs 0) × (b ≡ g xs 1) × (y ≡ g xs (n - 2)) × (z ≡ g xs (n - 1)))
      → Became n (λ S. upd k (tab (length (S field_slot)) (g (S field_slot))) S) w w'
  difference_pass {w'} {a} {b} {y} {z} w m l fits p G law =
      let xs = slots n w field_slot in
      let at = k * n in
      let q : 1 * n ≡ 0 * n + n = omega arith in
      let long = length_slot n 0 w (omega arith) in
      let ends = law xs long (lent_slot n 0 (1 * n) w q) in
      let E = slice_set (slice_set w (at + (n - 2)) y) (at + (n - 1)) z in
      let same : slots n E field_slot ≡ xs = slot_stored n k 0 (n - 1) (slice_set w (at + (n - 2)) y) z p (omega arith) ∙ slot_stored n k 0 (n - 2) w y p (omega arith) in
      let inner = rw same at (G.grow E (step (step (filled_none at (g (slots n E field_slot)) E) (sym (add-zero at)) (rw same ends.0)) refl (rw same ends.1))) in
      let before : Filled at (n - 2) (g xs) w (fill at (n - 2) (g xs) w) = record { is = refl } in
      let moved = inner.is ∙ sym (fill_set at (n - 2) (g xs) (slice_set w (at + (n - 2)) y) (at + (n - 1)) z (inr (omega arith)))
      ∙ ap (λ (v : List Float). slice_set v (at + (n - 1)) z) (sym (fill_set at (n - 2) (g xs) w (at + (n - 2)) y (inr (omega arith)))) in
      wrote n k (λ S. tab (length (S field_slot)) (g (S field_slot))) w _ (length_tab (length xs) (g xs) ∙ long) fits
      (moved ∙ filled_put {n = length xs} nan (step_at (n - 1) (step_at (n - 2) before ends.2 refl refl (omega arith)) ends.3 refl refl (omega arith)) (omega arith))

level_by : (level : ℕ) → 9 ≤ points_of level → Level level
level_by level h = go (level_in_range level) refl
  where
    go : (b : Bool) → level_in_range level ≡ b → Level level
    go true e = level_of level e
    go false e = absurd (omega (arith, points_out level e))

-- a call of vectors that was lent two parts of one number for each point is not refused
not_refused : {A B : Type 0} (level a b : ℕ) (answer : Result A Refusal) (result before : B) → 9 ≤ points_of level → a ≡ points_of level → b ≡ points_of level
    → number_of answer ≡ fault_of level (all_fit level (a ∷ b ∷ [])) → left_by answer result before ≡ result
unfolding all_fit
not_refused level a b answer result before h p q e =
    left_accepted level _ answer result before (level_by level h) (rw (p, q, eq-eqb (points_of level) (points_of level) refl)) e

-- a difference of the field by a call of vectors that was lent the field and the n numbers of slot k
module _ {A : Type 0} (level n k : ℕ) (g : List Float → List Float) (w front back out : List Float) (answer : Result A Refusal) where
  abbrev field : List Float
  field = take (field_slot * n + n - field_slot * n) (drop (field_slot * n) front)

  pub differed : 9 ≤ n → n ≡ points_of level → 1 ≤ k → n ≤ k * n → k * n + n ≤ length w → front ≡ take (k * n) w → back ≡ drop (k * n) w
      → number_of answer ≡ fault_of level (all_fit level (length field ∷ length (take n back) ∷ [])) → out ≡ left_by answer (g field) (take n back)
      → ((xs : List Float) → length (g xs) ≡ length xs) → Became n (λ S. upd k (g (S field_slot)) S) w (front ++ (out ++ drop n back))
  differed m e one h fits p q r l same =
      let long : length front ≡ k * n = ap length p ∙ length-take-le (k * n) w (omega arith) in
      let a : length field ≡ n = length-take-le _ _ (omega (arith, length-drop (field_slot * n) front)) ∙ omega arith in
      let b : length (take n back) ≡ n = length-take-le n back (rw q (omega (arith, length-drop (k * n) w))) in
      wrote_after n field_slot k g w front back out p q
      (l ∙ not_refused level _ _ answer (g field) (take n back) (omega (arith, e)) (a ∙ e) (b ∙ e) r) same (omega arith) fits
