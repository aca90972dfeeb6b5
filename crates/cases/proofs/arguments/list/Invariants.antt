use Rattle.std.proofs.Common.{◌≡◌}
use Rattle.vectors.specs.MemoryLaws.{Grown}
use Rattle.cases.specs.Arguments.{state_at, argument_of}
use Rattle.cases.proofs.arguments.list.Given as goal

-- the numbers before x are written, and s is the state for x
abbrev pub invariant-loop-x : goal.invariant-loop-x
invariant-loop-x l = record {
  grown : Grown 0 0 l.x-index (λ E k. argument_of l.range (state_at l.seed k)) l.initial.values l.values;
  state : l.s ≡ state_at l.seed l.x-index;
}
