-- The invariant: the samples before j are written.
use Rattle.std.proofs.Common.{◌*◌, get_or}
use lib.Ieee.{nan}
use Rattle.vectors.specs.MemoryLaws.{Filled}
use Rattle.run.proofs.state_output_builder.Sampled.reduce_spatial_resolution.Given as goal

abbrev pub invariant-loop-j : goal.invariant-loop-j
invariant-loop-j l = Filled 0 l.j (λ k. get_or l.vector (k * l.self.step) nan) l.initial.sample-items l.sample-items
