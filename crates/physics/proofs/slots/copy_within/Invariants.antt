use Rattle.vectors.specs.Memory.{part}
use Rattle.vectors.specs.MemoryLaws.{Grown}
use Rattle.physics.specs.Vector.{at}
use Rattle.physics.proofs.slots.copy_within.Given as goal

-- the copy stands before i
abbrev pub invariant-loop-i : goal.invariant-loop-i
invariant-loop-i l = Grown l.to 0 l.i (λ E. at (part l.from l.n E)) l.initial.w l.w
