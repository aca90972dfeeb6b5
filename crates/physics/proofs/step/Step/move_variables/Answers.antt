-- `Step::move_variables` meets its contract.
use Rattle.std.proofs.Common.{◌≡◌, ◌-◌, ◌*◌, List, length, take, drop, refl, ap, ◌∙◌, arith, rules}
use lib.Ieee.{Float}
use Rattle.vectors.specs.Memory.{part, put}
use Rattle.vectors.specs.MemoryLaws.{apart_left, lent}
use Rattle.physics.specs.NeighbourLaws.{advanced_two, wrote_two}
use Rattle.physics.specs.PassLaws.{renamed}
use Rattle.physics.specs.Vector.{advanced_of}
use Rattle.physics.specs.VectorLaws.{length-advanced_of}
use Rattle.physics.specs.Passed.{gridded_after}
use Rattle.physics.specs.Slots.{slots, Became}
use Rattle.physics.specs.StepPasses.{moves}
use Rattle.physics.proofs.step.Step.move_variables.Goals as goal

pub advance-requires : goal.advance-requires
advance-requires c =
    let step = c.args.self.now in
    let s = step.slots.now in
    let n = s.n in
    let long : length (take (2 * n - 0 * n) (drop (0 * n) step.state.now)) ≡ 2 * n = search rules in
    rw long (record { source = omega arith; target = omega arith; far = apart_left (0 * n) (2 * n) (13 * n) (2 * n) (omega arith) })

moved : (c : goal.After-s-2-1) → let step = c.args.self.now in let s = step.slots.now in Became s.n (moves s.n c.args.c (slots s.n step.state.now)) s.w.now c.advance.new.w
moved c =
    let step = c.args.self.now in
    let s = step.slots.now in
    let a = c.args in
    let n = s.n in
    let state = step.state.now in
    let w = s.w.now in
    let long : length (take (2 * n - 0 * n) (drop (0 * n) state)) ≡ 2 * n = search rules in
    let e = ap (λ (x : List Float). advanced_of (2 * n) a.c x (part (13 * n) (2 * n) w)) (lent (0 * n) (2 * n) (2 * n) state (omega arith)) in
    renamed refl (wrote_two n 0 _ _ w (length-advanced_of n _ _ _) (length-advanced_of n _ _ _) (omega arith)
    ((rw long at c.advance.ensures) ∙ ap (λ (x : List Float). put (0 * n) x w) (e ∙ advanced_two n a.c state 0 w 13 (omega arith) (omega arith))))

pub returns : goal.returns
returns c = record { lent = refl; state = refl; passed = record { memory = refl; level = refl; points = refl; became = moved c.before } }

pub invariant_of-self-clause-gridded : goal.invariant_of-self-clause-gridded
invariant_of-self-clause-gridded c = gridded_after c.args.self.now.gridded refl refl (moved c) refl refl
