-- `build_initial_state` meets its contract.
use Rattle.std.proofs.Common.{arith}
use Rattle.physics.specs.InitialLaws.{room_to_build_lem, built_made}
use Rattle.physics.specs.WorkLaws.{roomy}
use Rattle.physics.proofs.state_builder.build_initial_state.Goals as goal

pub slice_bounds-build_state-end : goal.slice_bounds-build_state-end
slice_bounds-build_state-end c =
    let room = room_to_build_lem _ _ c.in_ok-checked_work.ensures in
    omega (arith, c.length_at_discretization-n.ensures)

pub build_state-requires : goal.build_state-requires
build_state-requires c =
    let room = room_to_build_lem _ _ c.in_ok-checked_work.ensures in
    let R = roomy room.ranged c.length_at_discretization-n.ensures in
    (R.is, record { many = R.many; odd = R.odd; fits = omega arith })

pub returns-clause-made : goal.returns-clause-made
returns-clause-made c =
    let a = c.args in
    let room = room_to_build_lem _ _ c.in_ok-checked_work.ensures in
    let is = c.length_at_discretization-n.ensures in
    built_made a.level _ a.amplitude a.work.now _ is (omega arith) c.build_state.ensures
