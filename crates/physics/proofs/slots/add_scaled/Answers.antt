-- `add_scaled` meets its contract.
use Rattle.std.proofs.Common.{refl, arith}
use lib.Ieee.{nan}
use Rattle.vectors.specs.MemoryLaws.{grown_step, grown_put, filled_at, filled_mine}
use Rattle.physics.specs.Vector.{advanced_of}
use Rattle.physics.proofs.slots.add_scaled.Goals as goal

pub loop-i-preserved : goal.loop-i-preserved
loop-i-preserved c =
    let a = c.args in
    let n = a.n in
    grown_step c.loop-i.invariant refl (λ E f. rw (filled_at n a.from n c.loop-i.i nan f (omega arith) c.requires.far (omega arith), filled_mine n nan f (omega arith)))

pub returns : goal.returns
unfolding advanced_of
returns c = grown_put c.args.n nan c.loop-i.invariant (omega arith) (omega arith)
