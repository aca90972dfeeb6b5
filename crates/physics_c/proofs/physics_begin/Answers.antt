-- `physics_begin` meets its contract.
use Rattle.std.proofs.Common.{◌≡◌, ◌∙◌, ◌≤◌, ℕ, arith}
use Rattle.vectors.specs.Fault.{fault_of}
use Rattle.physics.specs.Stepped.{room_to_step}
use Rattle.physics.specs.WorkLaws.{RoomToStep, room_to_step_lem}
use Rattle.physics_c.specs.Kept.{built, still, stored}
use Rattle.physics_c.proofs.physics_begin.Goals as goal

-- there is room where a length that was checked is no more than the one that is there
fits : (level state work checked : ℕ) → 0 ≡ fault_of level (room_to_step level state checked) → checked ≤ work → RoomToStep level state work
fits level state work checked e most =
    let room = room_to_step_lem level state checked e in
    record { ranged = room.ranged; state = room.state; work = omega (arith, room.work, most) }

pub keep-requires : goal.keep-requires
keep-requires c =
    let room = fits _ _ _ _ c.in_default.ensures (omega arith) in
    let e = c.build_initial_state.ensures in
    still room (built _ _ _ _ _ _ room e.refused e.made)

pub returns-clause-kept : goal.returns-clause-kept
returns-clause-kept c =
    let e = c.build_initial_state.ensures in
    c.keep.ensures ∙ stored _ (built _ _ _ _ _ _ (fits _ _ _ _ c.in_default.ensures (omega arith)) e.refused e.made)

pub returns-clause-made : goal.returns-clause-made
returns-clause-made c =
    let e = c.build_initial_state.ensures in
    built _ _ _ _ _ _ (fits _ _ _ _ c.in_default.ensures (omega arith)) e.refused e.made
