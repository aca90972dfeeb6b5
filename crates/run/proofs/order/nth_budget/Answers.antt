-- `run::order::nth_budget` meets its contract.
use Rattle.std.proofs.Common.{arith, rules}
use Rattle.run.specs.Order.{budget_at}
use Rattle.run.proofs.Orders.{little_past}
use Rattle.run.proofs.order.nth_budget.Goals as goal

pub returns-then-len-advances : goal.returns-then-len-advances
unfolding budget_at
returns-then-len-advances c = little_past 4 _ _ (omega arith)

pub returns-then-len-advances-2 : goal.returns-then-len-advances-2
unfolding budget_at
returns-then-len-advances-2 c = little_past 4 _ _ (omega arith)

pub returns : goal.returns
unfolding budget_at
returns c = search rules
