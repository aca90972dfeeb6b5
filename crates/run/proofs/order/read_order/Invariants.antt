use Rattle.std.proofs.Common.{◌-◌, ◌≤◌, length}
use Rattle.run.specs.OrderAnswers.{so_far, Whole}
use Rattle.run.proofs.Orders.{Rest}
use Rattle.run.proofs.order.read_order.Given as goal

-- what is left to read from `at` on makes up the whole answer; there were no more 08 than bytes
abbrev pub invariant-loop-at : goal.invariant-loop-at
invariant-loop-at l = let p = so_far l.seen in (p.count ≤ l.at) × Whole p × Rest l.input p l.at

abbrev pub decreases-loop-at : goal.decreases-loop-at
decreases-loop-at l = length l.input - l.at
