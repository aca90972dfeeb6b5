-- `Slots::compute_integrand` meets its contract.
use Rattle.std.proofs.Common.{◌<◌, ◌≤◌, refl, ◌∙◌, arith}
use Rattle.vectors.specs.MemoryLaws.{grown_step}
use Rattle.physics.specs.Slots.{grown_slot, reads}
use Rattle.physics.specs.Vector.{at}
use Rattle.physics.specs.Passes.{integrand_val}
use Rattle.physics.proofs.slots.Slots.compute_integrand.Goals as goal

pub loop-i-preserved : goal.loop-i-preserved
loop-i-preserved c =
    let n = c.args.self.now.n in
    let i = c.loop-i.i in
    let lt : i < n = omega arith in
    let le : i ≤ n = omega arith in
    grown_step c.loop-i.invariant refl (λ E f. c.integrand_at.ensures ∙ rw (reads n 9 19 i f le refl lt, reads n 9 8 i f le refl lt, reads n 9 1 i f le refl lt))

pub returns : goal.returns
returns c =
    record {
      memory = refl;
      level = refl;
      points = refl;
      became = grown_slot 9 (λ S. integrand_val (at (S 19)) (S 8) (S 1)) c.loop-i.invariant (omega arith) (omega arith);
    }
