use Rattle.vectors.specs.MemoryLaws.{Grown}
use Rattle.physics.specs.Vector.{at}
use Rattle.physics.proofs.slots.copy_vector.Given as goal

-- the vector stands before i
abbrev pub invariant-loop-i : goal.invariant-loop-i
invariant-loop-i l = Grown l.to 0 l.i (λ E. at l.vector) l.initial.w l.w
