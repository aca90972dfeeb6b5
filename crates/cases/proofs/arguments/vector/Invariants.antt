use Rattle.std.proofs.Common.{◌≡◌}
use Rattle.vectors.specs.Grid.{point_of}
use Rattle.vectors.specs.MemoryLaws.{Grown}
use Rattle.cases.specs.Arguments.{state_at, entry_of}
use Rattle.cases.proofs.arguments.vector.Given as goal

-- the entries before i are written, and s is the state for entry i
abbrev pub invariant-loop-i : goal.invariant-loop-i
invariant-loop-i l = record {
  grown : Grown 0 0 l.i (λ E k. entry_of l.kind (point_of l.level k) k (state_at l.initial.s k)) l.initial.values l.values;
  state : l.s ≡ state_at l.initial.s l.i;
}
