-- `list` meets its contract.
use Rattle.std.proofs.Common.{refl, arith}
use lib.Ieee.{nan}
use Rattle.vectors.specs.MemoryLaws.{grown_all}
use Rattle.cases.specs.Arguments.{list_of}
use Rattle.cases.proofs.arguments.list.Goals as goal

pub returns : goal.returns
unfolding list_of
returns c = grown_all _ nan c.loop-x.invariant.grown (omega arith) refl
