-- `run::report::write_refusal` meets its contract.
use Rattle.std.proofs.Common.{refl, rules}
use Rattle.run.proofs.Texts.{written_take, as_text}
use Rattle.run.proofs.report.write_refusal.Goals as goal

pub returns : goal.returns
returns c =
    let memory = c.refusal.ensures.memory in
    let took = written_take refl c.refusal.ensures in
    as_text _ _ c.write_text.ensures (search rules)
