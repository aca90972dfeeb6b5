use Rattle.std.proofs.Common.{◌≡◌, ◌+◌, ◌*◌, length}
use Rattle.vectors.specs.MemoryLaws.{Filled}
use Rattle.physics.specs.Integral.{integral_at}
use Rattle.physics.specs.Slots.{slots}
use Rattle.physics.proofs.integration.integrate.Given as goal

-- the integral stands before the turn's first point
abbrev pub invariant-loop-k : goal.invariant-loop-k
invariant-loop-k l = (length l.w ≡ length l.fn.w) × Filled l.to (2 * l.k + 1) (integral_at l.h (slots l.n l.fn.w 9)) l.fn.w l.w
