-- The invariant: the numbers before i are replaced, the others are as they were.
use lib.ListN.{get_or}
use lib.Ieee.{nan, binary64, mul}
use Rattle.vectors.specs.Dissipation.{radial_correction_of}
use Rattle.vectors.specs.Grid.{point_of}
use Rattle.vectors.specs.MemoryLaws.{Grown}
use Rattle.vectors.proofs.diff.correct.Given as goal

abbrev pub invariant-loop-i : goal.invariant-loop-i
invariant-loop-i l = Grown 0 0 l.i (λ E j. mul binary64 (radial_correction_of (point_of l.level j)) (get_or E j nan)) l.initial.values l.values
