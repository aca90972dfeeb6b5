-- `lesser` meets its contract: at each return the tests on the way settle the order of m and x.
use mathlib.Core.Path.{sym, ◌∙◌}
use lib.Ieee.{of_bits}
use Rattle.vectors.proofs.field_vector.Comparisons.{keeps_not_zero, takes_less, takes_for_nan, keeps_before_other, numbers, takes_by_order, keeps_by_order}
use Rattle.vectors.proofs.field_vector.lesser.Goals as goal

pub returns-then-m : goal.returns-then-m
unfolding of_bits
returns-then-m c = keeps_not_zero c.args.m c.args.x c.if-m-x.true c.if-m.true

pub returns-then-is_lt : goal.returns-then-is_lt
returns-then-is_lt c =
    let both = numbers c.args.m c.args.x c.if-m-x.true in
    takes_by_order c.args.m c.args.x both.0 both.1 (rw c.total_cmp.ensures at (sym c.is_lt.ensures ∙ c.if-is_lt.true))

pub returns-else-is_lt : goal.returns-else-is_lt
returns-else-is_lt c =
    let both = numbers c.args.m c.args.x c.if-m-x.true in
    keeps_by_order c.args.m c.args.x both.0 both.1 (rw c.total_cmp.ensures at (sym c.is_lt.ensures ∙ c.if-is_lt.false))

pub returns-then-x-m : goal.returns-then-x-m
returns-then-x-m c = takes_less c.args.m c.args.x c.if-x-m.true

pub returns-then-is_nan : goal.returns-then-is_nan
returns-then-is_nan c = takes_for_nan c.args.m c.args.x (sym c.is_nan.ensures.value ∙ c.if-is_nan.true)

pub returns-else-is_nan : goal.returns-else-is_nan
returns-else-is_nan c = keeps_before_other c.args.m c.args.x c.if-m-x.false c.if-x-m.false (sym c.is_nan.ensures.value ∙ c.if-is_nan.false)
