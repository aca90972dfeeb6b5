-- `advance_by_sum` meets its contract.
use Rattle.std.proofs.Common.{refl, arith, length}
use lib.Ieee.{nan}
use Rattle.vectors.specs.MemoryLaws.{grown_step, grown_put, filled_at}
use Rattle.physics.specs.StepPasses.{advanced_by_sum}
use Rattle.physics.proofs.slots.advance_by_sum.Goals as goal

pub loop-i-preserved : goal.loop-i-preserved
loop-i-preserved c =
    let a = c.args in
    let n = length a.vector.now in
    let i = c.loop-i.i in
    grown_step c.loop-i.invariant refl (λ E f.
    rw (filled_at n a.sums n i nan f (omega arith) c.requires.far (omega arith), filled_at n a.rates n i nan f (omega arith) c.requires.far_other (omega arith)))

pub returns : goal.returns
unfolding advanced_by_sum
returns c = grown_put (length c.args.vector.now) nan c.loop-i.invariant (omega arith) (omega arith)
