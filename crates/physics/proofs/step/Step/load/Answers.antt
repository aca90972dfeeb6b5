-- `Step::load` meets its contract: two passes.
use Rattle.std.proofs.Common.{refl, ◌*◌, List, ap, ◌∙◌, arith}
use lib.Ieee.{Float}
use Rattle.vectors.specs.Memory.{put}
use Rattle.vectors.specs.MemoryLaws.{lent}
use Rattle.physics.specs.NeighbourLaws.{two_slots, wrote_two, copied_three}
use Rattle.physics.specs.Passed.{gridded_after}
use Rattle.physics.specs.Slots.{slots, Became, length_slot, both}
use Rattle.physics.specs.StepPasses.{loads, loads_variables, loads_constraints}
use Rattle.physics.proofs.step.Step.load.Goals as goal

loaded : (c : goal.After-s-2-1) → let step = c.args.self.now in let s = step.slots.now in Became s.n (loads (slots s.n step.state.now)) s.w.now c.copy_vector-2.new.w
loaded c =
    let step = c.args.self.now in
    let s = step.slots.now in
    let n = s.n in
    let state = step.state.now in
    let T = slots n state in
    let w = s.w.now in
    let v = c.copy_vector.new.w in
    let variables : Became n (loads_variables T) w v =
    wrote_two n 0 (T 0) (T 1) w (length_slot n 0 state (omega arith)) (length_slot n 1 state (omega arith)) (omega arith)
    (c.copy_vector.ensures ∙ ap (λ (x : List Float). put (0 * n) x w) (lent (0 * n) (2 * n) (2 * n) state (omega arith) ∙ two_slots n state 0)) in
    let constraints : Became n (loads_constraints T) v c.copy_vector-2.new.w =
    copied_three n 5 5 state v (omega arith) (omega arith) (c.copy_vector-2.ensures ∙ ap (λ (x : List Float). put (5 * n) x v) (lent (5 * n) (8 * n) (3 * n) state (omega arith))) in
    both variables constraints

pub returns : goal.returns
returns c = record { lent = refl; state = refl; passed = record { memory = refl; level = refl; points = refl; became = loaded c.before } }

pub invariant_of-self-clause-gridded : goal.invariant_of-self-clause-gridded
invariant_of-self-clause-gridded c = gridded_after c.args.self.now.gridded refl refl (loaded c) refl refl
