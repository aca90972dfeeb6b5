-- The invariant: what stands from lo to before i is the difference.
use Rattle.vectors.specs.MemoryLaws.{Grown}
use Rattle.vectors.specs.Stencil.{diff3_at}
use Rattle.vectors.proofs.diff.diff3_run.Given as goal

abbrev pub invariant-loop-i : goal.invariant-loop-i
invariant-loop-i l = Grown 0 l.lo l.i (λ E. diff3_at l.vector) l.initial.out l.out
