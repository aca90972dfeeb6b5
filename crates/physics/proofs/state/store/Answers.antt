-- `physics::state::store` meets its contract.
use Rattle.std.proofs.Common.{◌≡◌, ℕ, ◌*◌, ◌≤◌, leb, sym, ◌∙◌, arith, leb-true, length-take, length-take-le}
use Rattle.std.proofs.lemmas.Bool.{and_parts}
use lib.Ieee.{Float}
use Rattle.vectors.specs.Fault.{fault_of}
use Rattle.vectors.specs.FaultLaws.{accepted}
use Rattle.vectors.specs.Grid.{points_of}
use Rattle.physics.specs.Store.{both_hold}
use Rattle.physics.proofs.state.store.Goals as goal
use Rattle.physics.proofs.state.store.Goals.{then-count-from, else-count-from}

-- where the call is accepted, both memories have the numbers of a state
pub both_hold_lem : (level a b : ℕ) → 0 ≡ fault_of level (both_hold level a b) → (8 * points_of level ≤ a) × (8 * points_of level ≤ b)
both_hold_lem level a b e =
    let size = 8 * points_of level in
    let h = and_parts (leb size a) (leb size b) (accepted level (both_hold level a b) e).fitting in
    (leb-true size a h.0, leb-true size b h.1)

pub slice_bounds-copy_vector-end : goal.slice_bounds-copy_vector-end
slice_bounds-copy_vector-end c =
    let fits = (accepted _ _ c.in_ok-checked.ensures).fitting in
    elim c.if-count-from.branch [
      | then-count-from w ↦ sym (length-take-le _ _ w.if-count-from.true)
      | else-count-from w ↦ absurd (omega (arith, leb-true _ _ (sym w.checked-is ∙ fits)))
    ]

pub copy_vector-requires : goal.copy_vector-requires
copy_vector-requires c =
    let fits = (accepted _ _ c.in_ok-checked.ensures).fitting in
    elim c.if-count-from.branch [
      | then-count-from w ↦ omega (arith, length-take {A = Float}, leb-true _ _ (sym w.checked-is ∙ fits))
      | else-count-from w ↦ absurd (omega (arith, leb-true _ _ (sym w.checked-is ∙ fits)))
    ]
