-- `Step::next_variables` meets its contract.
use Rattle.std.proofs.Common.{◌≡◌, ◌-◌, ◌*◌, List, length, take, drop, refl, ap, ◌∙◌, arith, rules}
use lib.Ieee.{Float}
use Rattle.vectors.specs.Memory.{part, put}
use Rattle.vectors.specs.MemoryLaws.{apart_left, lent}
use Rattle.physics.specs.NeighbourLaws.{advanced_by_sum_three, wrote_three}
use Rattle.physics.specs.PassLaws.{renamed}
use Rattle.physics.specs.StepLaws.{length-advanced_by_sum}
use Rattle.physics.specs.StepPasses.{advanced_by_sum, ends}
use Rattle.physics.specs.Passed.{gridded_after}
use Rattle.physics.specs.Slots.{slots, Became}
use Rattle.physics.proofs.step.Step.next_variables.Goals as goal

pub advance_by_sum-requires : goal.advance_by_sum-requires
advance_by_sum-requires c =
    let step = c.args.self.now in
    let s = step.slots.now in
    let n = s.n in
    let long : length (take (3 * n - 0 * n) (drop (0 * n) step.state.now)) ≡ 3 * n = search rules in
    rw long (record { source = omega arith; other = omega arith; target = omega arith; far = apart_left (0 * n) (3 * n) (16 * n) (3 * n) (omega arith); far_other = apart_left (0 * n) (3 * n) (13 * n) (3 * n) (omega arith) })

ended : (c : goal.After-s-2-1) → let step = c.args.self.now in let s = step.slots.now in Became s.n (ends s.n c.args.c (slots s.n step.state.now)) s.w.now c.advance_by_sum.new.w
ended c =
    let step = c.args.self.now in
    let s = step.slots.now in
    let a = c.args in
    let n = s.n in
    let state = step.state.now in
    let w = s.w.now in
    let long : length (take (3 * n - 0 * n) (drop (0 * n) state)) ≡ 3 * n = search rules in
    let e = ap (λ (x : List Float). advanced_by_sum (3 * n) a.c x (part (16 * n) (3 * n) w) (part (13 * n) (3 * n) w)) (lent (0 * n) (3 * n) (3 * n) state (omega arith)) in
    renamed refl (wrote_three n 0 _ _ _ w (length-advanced_by_sum n _ _ _ _) (length-advanced_by_sum n _ _ _ _) (length-advanced_by_sum n _ _ _ _) (omega arith)
    ((rw long at c.advance_by_sum.ensures) ∙ ap (λ (x : List Float). put (0 * n) x w) (e ∙ advanced_by_sum_three n a.c state 0 w 16 13 (omega arith) (omega arith) (omega arith))))

pub returns : goal.returns
returns c = record { lent = refl; state = refl; passed = record { memory = refl; level = refl; points = refl; became = ended c.before } }

pub invariant_of-self-clause-gridded : goal.invariant_of-self-clause-gridded
invariant_of-self-clause-gridded c = gridded_after c.args.self.now.gridded refl refl (ended c) refl refl
