use Rattle.std.proofs.Common.{length}
use lib.Ieee.{binary64, add, mul}
use Rattle.vectors.specs.Memory.{part}
use Rattle.vectors.specs.MemoryLaws.{Grown}
use Rattle.physics.specs.Vector.{at}
use Rattle.physics.proofs.slots.advance.Given as goal

-- the advanced vector stands before i
abbrev pub invariant-loop-i : goal.invariant-loop-i
invariant-loop-i l =
    let n = length l.vector in Grown l.to 0 l.i (λ E j. add binary64 (at l.vector j) (mul binary64 l.c (at (part l.from n E) j))) l.initial.w l.w
