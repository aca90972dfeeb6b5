-- `run::adaptive_time_step::is_framed` meets its contract.
use Rattle.vectors.specs.Constants.{constant_bits}
use Rattle.run.proofs.adaptive_time_step.is_framed.Goals as goal
use Rattle.run.proofs.adaptive_time_step.is_framed.Goals.{then-to_next, else-to_next}

pub returns-after-to_next : goal.returns-after-to_next
returns-after-to_next c =
    elim c.if-to_next.branch [
      | then-to_next w ↦ rw (w.result-is, constant_bits.4, w.if-to_next.true, c.if-not-s.true)
      | else-to_next w ↦ rw (w.result-is, constant_bits.4, w.if-to_next.false, c.if-not-s.true)
    ]
