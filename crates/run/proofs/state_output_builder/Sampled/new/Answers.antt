-- `run::state_output_builder::Sampled::new` meets its contract.
use Rattle.std.proofs.Common.{◌-◌, arith}
use Rattle.run.specs.FrameWriting.{sampling_points}
use Rattle.run.proofs.state_output_builder.Shifts.{shifted}
use Rattle.run.proofs.state_output_builder.Sampled.new.Goals as goal

pub invariant_of-result : goal.invariant_of-result
invariant_of-result c =
    let s = c.args.s in
    let step = shifted (s.level - s.dx_level) (omega (arith, c.requires.sound.level.most)) in
    record { inside = rw (c.length_at_discretization.ensures, step, c.sample_count.ensures) (sampling_points c.requires.sound); whole = omega arith }

pub returns-clause-spaced : goal.returns-clause-spaced
returns-clause-spaced c = let s = c.args.s in shifted (s.level - s.dx_level) (omega (arith, c.requires.sound.level.most))
