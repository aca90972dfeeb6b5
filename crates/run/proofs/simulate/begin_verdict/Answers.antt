-- `run::simulate::begin_verdict` meets its contract.
use Rattle.std.proofs.Common.{arith}
use Rattle.std.proofs.lemmas.Grind.{common_steps}
use Rattle.std.proofs.lemmas.Result.{err_from_is_err_and}
use Rattle.run.specs.Calls.{lent_refusal}
use Rattle.run.proofs.simulate.begin_verdict.Goals as goal

pub returns-in_err-lent : goal.returns-in_err-lent
unfolding lent_refusal
returns-in_err-lent c =
    let p = err_from_is_err_and c.from_residual.result c.from_residual.ensures.1 in rw (p.1, p.2) (grind (arith, common_steps, c.in_err-lent.ensures))
