-- `copy_vector` meets its contract.
use Rattle.std.proofs.Common.{length, refl, ◌∙◌, arith}
use lib.Ieee.{nan}
use Rattle.vectors.specs.MemoryLaws.{grown_step, grown_put}
use Rattle.physics.specs.VectorLaws.{tab_all}
use Rattle.physics.proofs.slots.copy_vector.Goals as goal

pub loop-i-preserved : goal.loop-i-preserved
loop-i-preserved c = grown_step c.loop-i.invariant refl (λ E f. refl)

pub returns : goal.returns
returns c =
    let vector = c.args.vector.now in
    grown_put (length vector) nan c.loop-i.invariant (omega arith) (omega arith) ∙ rw (tab_all (length vector) vector refl)
