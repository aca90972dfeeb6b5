-- `vectors::exp::exp` meets its contract.
use mathlib.Core.Path.{sym, ◌∙◌}
use lib.Ieee.{of_bits, neg, div}
use Rattle.vectors.proofs.exp.Cases.{exp_nan, exp_over, exp_under}
use Rattle.vectors.proofs.exp.exp.Goals as goal

pub returns-then-is_nan : goal.returns-then-is_nan
returns-then-is_nan c = exp_nan c.args.x (sym c.is_nan.ensures.value ∙ c.if-is_nan.true)

pub returns-then-x : goal.returns-then-x
unfolding of_bits div
returns-then-x c = exp_over c.args.x c.if-x.true

pub returns-then-x-2 : goal.returns-then-x-2
unfolding of_bits neg
returns-then-x-2 c =
    exp_under c.args.x (sym c.is_nan.ensures.value ∙ c.if-is_nan.false) c.if-x.false c.if-x-2.true

pub exp_inside-requires : goal.exp_inside-requires
unfolding of_bits neg
exp_inside-requires c =
    record { number = sym c.is_nan.ensures.value ∙ c.if-is_nan.false; under = c.if-x.false; over = c.if-x-2.false }
