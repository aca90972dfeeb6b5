use lib.Ieee.{binary64, add, mul}
use Rattle.vectors.specs.Memory.{part}
use Rattle.vectors.specs.MemoryLaws.{Grown}
use Rattle.physics.specs.Vector.{at}
use Rattle.physics.proofs.slots.add_scaled.Given as goal

-- the sums stand before i
abbrev pub invariant-loop-i : goal.invariant-loop-i
invariant-loop-i l =
    Grown l.to 0 l.i (λ E j. add binary64 (at (part l.to l.n E) j) (mul binary64 l.c (at (part l.from l.n E) j))) l.initial.w l.w
