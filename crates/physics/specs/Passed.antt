-- What a pass leaves of the struct of src/slots.rt, and what the next pass may rely on.
use Rattle.std.specs.Prelude.{◌≡◌, ℕ}
use Rattle.std.proofs.Common.{sym, refl, ap, ◌∙◌}
use Rattle.vectors.specs.Dissipation.{radial_correction_of}
use Rattle.vectors.specs.Grid.{spacing_of, point_of}
use Rattle.physics.specs.declared.slots.Slots.{Slots as Held}
use Rattle.physics.specs.Constraints.{radial_gradient_of}
use Rattle.physics.specs.Passes.{Ready, gradients, grids}
use Rattle.physics.specs.PassLaws.{renamed, ready_after}
use Rattle.physics.specs.SlotNumbers.{field_slot, gradient_slot, points_slot, correction_slot}
use Rattle.physics.specs.Slots.{Slots, slots, upd, Became, both, known}
use Rattle.physics.specs.StepLaws.{grid_ready, gradient_pass}
use Rattle.physics.specs.Vector.{at}

-- the points of the level and the radial correction there stand in their slots
pub record Gridded (s : Held) : Type 0 where
  pub points : at (slots s.n s.w.now points_slot) ≡ point_of s.level
  pub correction : at (slots s.n s.w.now correction_slot) ≡ (λ i. radial_correction_of (point_of s.level i))

-- and the gradient of the field in its slot
pub record WithGradient (s : Held) : Type 0 where
  pub grid : Gridded s
  pub gradient : slots s.n s.w.now gradient_slot ≡ radial_gradient_of s.level (slots s.n s.w.now field_slot)

-- the same memory with as many numbers in a slot, on the same level, its slots turned by f, by the level and that number of numbers
pub record Passed (f : ℕ → ℕ → Slots → Slots) (a b : Held) : Type 0 where
  pub memory : b.w.ghost_name ≡ a.w.ghost_name
  pub level : b.level ≡ a.level
  pub points : b.n ≡ a.n
  pub became : Became a.n (f a.level a.n) a.w.now b.w.now

-- two passes
pub then : {f g : ℕ → ℕ → Slots → Slots} {a b c : Held} → Passed f a b → Passed g b c → Passed (λ level n S. g level n (f level n S)) a c
then P Q =
    record { memory = Q.memory ∙ P.memory; level = Q.level ∙ P.level; points = Q.points ∙ P.points; became = both P.became (rw (P.level, P.points) at Q.became) }

-- what the laws of slots ask of memory
ready : (s : Held) → Gridded s → Ready s.level s.n s.w.now
ready s G = record { many = s.many; odd = s.odd; fits = s.fits; grid = s.grid; points = G.points; correction = G.correction }

-- the grid still stands after a pass that leaves its slots
pub gridded_after : {F : Slots → Slots} {a b : Held} → Gridded a → b.level ≡ a.level → b.n ≡ a.n → Became a.n F a.w.now b.w.now → F (slots a.n a.w.now) points_slot ≡ slots a.n a.w.now points_slot
    → F (slots a.n a.w.now) correction_slot ≡ slots a.n a.w.now correction_slot → Gridded b
gridded_after {F} {a} {b} G l n B p q =
    let R : Ready b.level b.n b.w.now = rw (l, n) (ready_after (ready a G) B p q) in
    record { points = R.points; correction = R.correction }

module _ {f : ℕ → ℕ → Slots → Slots} {a b : Held} where
  -- the same pass by another name; the same of the slots that memory held
  pub named : {g : ℕ → ℕ → Slots → Slots} → ((level n : ℕ) (S : Slots) (k : ℕ) → f level n S k ≡ g level n S k) → Passed f a b → Passed g a b
  named e P = record { memory = P.memory; level = P.level; points = P.points; became = known (e a.level a.n) P.became }

  pub named_here : {g : ℕ → ℕ → Slots → Slots} → f a.level a.n (slots a.n a.w.now) ≡ g a.level a.n (slots a.n a.w.now) → Passed f a b → Passed g a b
  named_here e P = record { memory = P.memory; level = P.level; points = P.points; became = renamed e P.became }

  pub gridded_then : Gridded a → Passed f a b → f a.level a.n (slots a.n a.w.now) points_slot ≡ slots a.n a.w.now points_slot
      → f a.level a.n (slots a.n a.w.now) correction_slot ≡ slots a.n a.w.now correction_slot → Gridded b
  gridded_then G P p q = gridded_after G P.level P.points P.became p q

  pub gradient_then : Gridded a → Passed f a b → f a.level a.n (slots a.n a.w.now) points_slot ≡ slots a.n a.w.now points_slot
      → f a.level a.n (slots a.n a.w.now) correction_slot ≡ slots a.n a.w.now correction_slot
      → f a.level a.n (slots a.n a.w.now) gradient_slot ≡ radial_gradient_of a.level (f a.level a.n (slots a.n a.w.now) field_slot) → WithGradient b
  gradient_then G P p q g =
      let B = P.became in
      let made : slots a.n b.w.now gradient_slot ≡ radial_gradient_of a.level (slots a.n b.w.now field_slot) =
      ap (λ (S : Slots). S gradient_slot) B.holds ∙ g ∙ ap (radial_gradient_of a.level) (sym (ap (λ (S : Slots). S field_slot) B.holds)) in
      record { grid = gridded_then G P p q; gradient = rw (P.level, P.points) made }

module _ {a b : Held} where
  pub grid_then : Passed grids a b → Gridded b
  grid_then P =
      let R : Ready b.level b.n b.w.now = rw (P.level, P.points) (grid_ready a.level a.n a.w.now b.w.now a.grid (record { many = a.many; odd = a.odd; fits = a.fits }) P.became) in
      record { points = R.points; correction = R.correction }

  -- the gradient of the field, on the grid of the level
  pub field_gradient : Passed (λ level n. gradients (spacing_of level)) a b → Passed (λ level n S. upd gradient_slot (radial_gradient_of level (S field_slot)) S) a b
  field_gradient P = record { memory = P.memory; level = P.level; points = P.points; became = gradient_pass a.level refl P.became }
