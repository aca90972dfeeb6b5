-- `run::simulation_inputs::validate` meets its contract.
use Rattle.std.proofs.Common.{arith}
use lib.Ieee.{of_bits}
use Rattle.vectors.proofs.Floats.{whole_in_lem}
use Rattle.vectors.specs.GridLaws.{Level, below_range, above_range, points_bound}
use Rattle.run.specs.InputsLaws.{fault_level, fault_interval, fault_dx, fault_none}
use Rattle.run.proofs.simulation_inputs.validate.Goals as goal

pub returns-then-s-lt5 : goal.returns-then-s-lt5
returns-then-s-lt5 c = fault_level _ (below_range _ c.if-s-lt5.true)

pub returns-then-s-gt16 : goal.returns-then-s-gt16
returns-then-s-gt16 c = fault_level _ (above_range _ c.if-s-gt16.true)

pub int_to_float-num_points : goal.int_to_float-num_points
int_to_float-num_points c =
    whole_in_lem _ (omega (arith, c.length_at_discretization-num_points.ensures, points_bound c.args.s.level))

pub returns-then-s-num_points : goal.returns-then-s-num_points
unfolding of_bits
returns-then-s-num_points c =
    fault_interval _ ((let it : Level c.args.s.level = record { least = omega arith; most = omega arith } in it)) (rw c.length_at_discretization-num_points.ensures at c.if-s-num_points.true)

pub returns-then-s : goal.returns-then-s
unfolding of_bits
returns-then-s c =
    fault_dx _ ((let it : Level c.args.s.level = record { least = omega arith; most = omega arith } in it)) (rw c.length_at_discretization-num_points.ensures at c.if-s-num_points.false) c.if-s.true

pub returns : goal.returns
unfolding of_bits
returns c =
    fault_none _
    (record { level = (let it : Level c.args.s.level = record { least = omega arith; most = omega arith } in it); interval = rw c.length_at_discretization-num_points.ensures at c.if-s-num_points.false; dx = c.if-s.false })
