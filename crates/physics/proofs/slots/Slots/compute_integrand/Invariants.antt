use Rattle.vectors.specs.MemoryLaws.{Grown}
use Rattle.physics.specs.Slots.{slots}
use Rattle.physics.specs.Vector.{at}
use Rattle.physics.specs.Passes.{integrand_val}
use Rattle.physics.proofs.slots.Slots.compute_integrand.Given as goal

-- the integrand stands before i
abbrev pub invariant-loop-i : goal.invariant-loop-i
invariant-loop-i l = Grown l.to 0 l.i (λ E. integrand_val (at (slots l.n E 19)) (slots l.n E 8) (slots l.n E 1)) l.initial.w l.w
