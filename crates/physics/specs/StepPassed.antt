-- What a pass of a step leaves of the struct `Step` of src/step.rt.
use Rattle.std.specs.Prelude.{◌≡◌, ℕ}
use Rattle.std.proofs.Common.{◌∙◌}
use Rattle.physics.specs.declared.step.Step.{Step}
use Rattle.physics.specs.Passed.{Passed, then}
use Rattle.physics.specs.Slots.{Slots, slots}

-- the same slots and the same state memory, the slots turned by f, by the level, the number of points and the slots of state memory
pub record StepPassed (f : ℕ → ℕ → Slots → Slots → Slots) (a b : Step) : Type 0 where
  pub state : b.state.now ≡ a.state.now
  pub lent : b.slots.ghost_name ≡ a.slots.ghost_name
  pub passed : Passed (λ level n. f level n (slots n a.state.now)) a.slots.now b.slots.now

-- two passes
pub step_then : {f g : ℕ → ℕ → Slots → Slots → Slots} {a b c : Step} → StepPassed f a b → StepPassed g b c → StepPassed (λ level n T S. g level n T (f level n T S)) a c
step_then P Q = record { lent = Q.lent ∙ P.lent; state = Q.state ∙ P.state; passed = then P.passed (rw P.state at Q.passed) }
