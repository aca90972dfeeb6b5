use Rattle.vectors.specs.Constants.{whole}
use Rattle.physics.specs.Fills.{Grown2}
use Rattle.physics.specs.Slots.{slots}
use Rattle.physics.specs.InitialPasses.{exponent_val}
use Rattle.physics.specs.Vector.{at}
use Rattle.physics.proofs.slots.Slots.initial_exponents.Given as goal

-- both vectors stand before i
abbrev pub invariant-loop-i : goal.invariant-loop-i
invariant-loop-i l = Grown2 l.field l.momentum 0 l.i (λ E j. whole 0) (λ E. exponent_val (at (slots l.n E 19))) l.initial.w l.w
