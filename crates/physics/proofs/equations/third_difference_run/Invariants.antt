-- The invariant: what stands from lo to before i is the difference, times the factor.
use Rattle.std.proofs.Common.{ℕ, length}
use Rattle.std.specs.Prelude.{Float}
use Rattle.vectors.specs.MemoryLaws.{Grown}
use Rattle.physics.specs.Passes.{Gives, half_val}
use Rattle.physics.proofs.equations.third_difference_run.Given as goal

abbrev pub invariant-loop-i : goal.invariant-loop-i
invariant-loop-i g l =
    (c : ℕ → Float) → Gives (goal.F-post g l.factor) (length l.vector) c → Grown 0 l.lo l.i (λ E. half_val c l.vector) l.initial.out l.out
