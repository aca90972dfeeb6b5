-- `vectors::exp::exp_inside` meets its contract.
use mathlib.Core.Path.{sym, ◌∙◌}
use native.Mathlib.Omega.{arith}
use lib.Ieee.{Float, binary64, of_bits, of_int, neg, div, mul}
use Rattle.vectors.specs.ExpInside.{Inside}
use Rattle.vectors.specs.Exp.{series, reduced_argument}
use Rattle.vectors.proofs.exp.Shift.{Shifted}
use Rattle.vectors.proofs.exp.Range.{scale, between}
use Rattle.vectors.proofs.exp.Cases.{exp_between, sum_no_nan, bits_is, offset_is, result_is}
use Rattle.vectors.proofs.exp.exp_inside.Goals as goal

shifted : (x : Float) → Inside x → Shifted (mul binary64 x scale)
shifted x i = between x i.number i.under i.over

pub float_to_bits-i : goal.float_to_bits-i
unfolding of_bits mul
float_to_bits-i c = sum_no_nan _ (shifted c.args.x c.requires)

pub overflow_sub-i : goal.overflow_sub-i
unfolding of_bits mul
overflow_sub-i c = omega (arith, bits_is _ (shifted c.args.x c.requires))

pub power_of_two-requires : goal.power_of_two-requires
unfolding of_bits mul
power_of_two-requires c =
    let S = shifted c.args.x c.requires in
    omega (arith, offset_is _ S, S.enough, S.below)

pub returns : goal.returns
unfolding of_bits mul div of_int series reduced_argument neg
returns c =
    let S = shifted c.args.x c.requires in
    let x = c.args.x in
    let i = c.requires in
    result_is _ S x c.fraction.result c.power_of_two.result _ (offset_is _ S) c.fraction.ensures c.power_of_two.ensures
    ∙ sym (exp_between x i.number i.under i.over)
