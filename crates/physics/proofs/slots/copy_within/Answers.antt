-- `copy_within` meets its contract.
use Rattle.std.proofs.Common.{refl, ◌∙◌, arith}
use lib.Ieee.{nan}
use Rattle.vectors.specs.Memory.{part}
use Rattle.vectors.specs.MemoryLaws.{grown_step, grown_put, filled_at, length_part}
use Rattle.physics.specs.VectorLaws.{tab_all}
use Rattle.physics.proofs.slots.copy_within.Goals as goal

pub loop-i-preserved : goal.loop-i-preserved
loop-i-preserved c =
    let a = c.args in
    grown_step c.loop-i.invariant refl (λ E f. filled_at a.n a.from a.n c.loop-i.i nan f (omega arith) c.requires.far (omega arith))

pub returns : goal.returns
returns c =
    let a = c.args in
    let n = a.n in
    let source = part a.from n a.w.now in
    grown_put n nan c.loop-i.invariant (omega arith) (omega arith) ∙ rw (tab_all n source (length_part a.from n a.w.now (omega arith)))
