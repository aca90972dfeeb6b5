-- The invariant: the bytes so far.
use Rattle.std.proofs.Common.{◌+◌}
use Rattle.vectors.specs.MemoryLaws.{Filled}
use Rattle.run.specs.Bytes.{byte_at}
use Rattle.run.proofs.bytes.bytes_at.Given as goal

abbrev pub invariant-loop-k : goal.invariant-loop-k
invariant-loop-k g l = Filled 0 l.k (λ k. byte_at l.s (l.at + k)) l.initial.b-items l.b-items
