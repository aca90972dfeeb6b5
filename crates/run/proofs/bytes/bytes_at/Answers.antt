-- `run::bytes::bytes_at` meets its contract.
use Rattle.std.proofs.Common.{ℕ, ◌+◌, ◌<◌, ◌^◌, ◌≡◌, length, arith, min, List}
use Rattle.std.proofs.lemmas.Grind.{common_steps}
use Rattle.vectors.specs.MemoryLaws.{filled_none, step, filled_all}
use Rattle.run.specs.Bytes.{byte_at}
use Rattle.run.proofs.bytes.bytes_at.Goals as goal

pub loop-k-init : goal.loop-k-init
loop-k-init g c = filled_none 0 _ _

saturated : (s : List ℕ) (n : ℕ) → length s < 2 ^ 64 → byte_at s (min n 18446744073709551615) ≡ byte_at s n
saturated s n h = grind (arith, common_steps)

pub loop-k-preserved : goal.loop-k-preserved
loop-k-preserved g c = let h = saturated c.args.s.now (c.args.at + c.loop-k.k) (omega arith) in step c.loop-k.invariant (omega arith) cc

pub returns : goal.returns
returns g c = let e : c.loop-k.k ≡ g.row.N = omega arith in filled_all 0 (rw e at c.loop-k.invariant) (grind (arith, common_steps))
