use lib.Ieee.{binary64, mul}
use Rattle.vectors.specs.Powers.{reciprocal_of}
use Rattle.physics.specs.Fills.{Grown2}
use Rattle.physics.specs.Slots.{slots}
use Rattle.physics.specs.Vector.{at}
use Rattle.physics.proofs.slots.Slots.normalise_lapse.Given as goal

-- before i the lapse is scaled and its inverse stands
abbrev pub invariant-loop-i : goal.invariant-loop-i
invariant-loop-i l =
    Grown2 l.lapse l.inverse 0 l.i (λ E j. mul binary64 l.factor (at (slots l.n E 6) j)) (λ E j. reciprocal_of (mul binary64 l.factor (at (slots l.n E 6) j))) l.initial.w l.w
