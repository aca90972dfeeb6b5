-- `threshold::ends::ends_verdict` meets its contract.
use Rattle.std.proofs.Common.{arith}
use Rattle.std.proofs.lemmas.Grind.{common_steps}
use Rattle.std.proofs.lemmas.Result.{err_from_is_err_and}
use Rattle.threshold.specs.Search.{ends_refusal}
use Rattle.threshold.proofs.ends.ends_verdict.Goals as goal

pub returns-in_err-begin_verdict : goal.returns-in_err-begin_verdict
unfolding ends_refusal
returns-in_err-begin_verdict c =
    let p = err_from_is_err_and c.from_residual.result c.from_residual.ensures.1 in rw (p.1, p.2) (grind (arith, common_steps, c.in_err-begin_verdict.ensures))

pub returns-in_err-begin_verdict-2 : goal.returns-in_err-begin_verdict-2
unfolding ends_refusal
returns-in_err-begin_verdict-2 c =
    let r = c.from_residual-in_err-begin_verdict-2 in
    let p = err_from_is_err_and r.result r.ensures.1 in rw (p.1, p.2) (grind (arith, common_steps, c.in_err-begin_verdict-2.ensures))
