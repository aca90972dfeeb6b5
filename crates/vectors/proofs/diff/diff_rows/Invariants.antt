-- The invariant: what stands before i of the inner points is the difference.
use Rattle.std.proofs.Common.{◌+◌}
use Rattle.vectors.specs.MemoryLaws.{Filled}
use Rattle.vectors.specs.Stencil.{diff_at}
use Rattle.vectors.proofs.diff.diff_rows.Given as goal

abbrev pub invariant-loop-i : goal.invariant-loop-i
invariant-loop-i l = Filled 0 l.i (λ k. diff_at l.h l.vector (2 + k)) l.initial.inner-items l.inner-items
