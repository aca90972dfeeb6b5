-- `Slots::calculate_dt_field` meets its contract.
use Rattle.std.proofs.Common.{◌<◌, ◌≤◌, refl, ◌∙◌, arith}
use Rattle.vectors.specs.MemoryLaws.{grown_step}
use Rattle.physics.specs.Slots.{grown_slot, reads, mine}
use Rattle.physics.specs.Passes.{field_rate_in}
use Rattle.physics.proofs.slots.Slots.calculate_dt_field.Goals as goal

pub loop-i-preserved : goal.loop-i-preserved
loop-i-preserved c =
    let n = c.args.self.now.n in
    let i = c.loop-i.i in
    let lt : i < n = omega arith in
    let le : i ≤ n = omega arith in
    grown_step c.loop-i.invariant refl (λ E f. c.dt_field_at.ensures ∙ rw (reads n 13 7 i f le refl lt, reads n 13 1 i f le refl lt, mine n 13 f lt))

pub returns : goal.returns
returns c =
    record {
      memory = refl;
      level = refl;
      points = refl;
      became = grown_slot 13 field_rate_in c.loop-i.invariant (omega arith) (omega arith);
    }
