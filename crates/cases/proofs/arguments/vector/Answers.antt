-- `vector` meets its contract.
use Rattle.std.proofs.Common.{refl, sym, arith}
use lib.Ieee.{nan}
use Rattle.vectors.specs.MemoryLaws.{grown_all}
use Rattle.cases.specs.Arguments.{vector_of}
use Rattle.cases.proofs.arguments.vector.Goals as goal

pub returns : goal.returns
unfolding vector_of
returns c = rw (sym c.mixed.ensures, sym c.mixed-s.ensures) (grown_all _ nan c.loop-i.invariant.grown (omega arith) refl)
