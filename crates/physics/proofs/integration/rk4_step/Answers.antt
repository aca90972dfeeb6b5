-- `rk4_step` meets its contract.
use Rattle.std.proofs.Common.{ap, arith}
use Rattle.std.specs.Prelude.{Some}
use Rattle.physics.specs.WorkLaws.{room_to_step_lem, roomy, stepped_time_lem, stepped_made}
use Rattle.physics.proofs.integration.rk4_step.Goals as goal

pub slice_bounds-advance_state-end : goal.slice_bounds-advance_state-end
slice_bounds-advance_state-end c =
    let room = room_to_step_lem _ _ _ c.in_ok-checked_room.ensures in
    omega (arith, c.length_at_discretization-n.ensures)

pub advance_state-requires : goal.advance_state-requires
advance_state-requires c =
    let room = room_to_step_lem _ _ _ c.in_ok-checked_room.ensures in
    let R = roomy room.ranged c.length_at_discretization-n.ensures in
    (R.is, record { many = R.many; odd = R.odd; fits = omega arith }, omega arith)

pub returns-clause-time : goal.returns-clause-time
returns-clause-time c = let a = c.args in ap Some (stepped_time_lem a.level a.time a.delta a.state.now)

pub returns-clause-made : goal.returns-clause-made
returns-clause-made c =
    let a = c.args in
    let room = room_to_step_lem _ _ _ c.in_ok-checked_room.ensures in
    let is = c.length_at_discretization-n.ensures in
    stepped_made a.level _ a.time a.delta a.state.now a.work.now _ is (omega arith) c.advance_state.ensures
