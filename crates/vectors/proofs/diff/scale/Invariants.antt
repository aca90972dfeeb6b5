-- The invariant: the numbers before i are replaced, the others are as they were.
use lib.ListN.{get_or}
use lib.Ieee.{nan, binary64, mul}
use Rattle.vectors.specs.MemoryLaws.{Grown}
use Rattle.vectors.proofs.diff.scale.Given as goal

abbrev pub invariant-loop-value : goal.invariant-loop-value
invariant-loop-value l = Grown 0 0 l.value-index (λ E j. mul binary64 l.factor (get_or E j nan)) l.initial.values l.values
