-- `run::simulate::begin` meets its contract.
use Rattle.std.proofs.Common.{arith}
use Rattle.std.proofs.lemmas.Grind.{common_steps}
use Rattle.std.proofs.lemmas.Result.{err_from_is_err_and}
use Rattle.run.specs.Calls.{begin_of, begin_refusal}
use Rattle.run.proofs.simulate.begin.Goals as goal

pub returns-in_err-begin_verdict-clause-frames_after : goal.returns-in_err-begin_verdict-clause-frames_after
unfolding begin_of begin_refusal
returns-in_err-begin_verdict-clause-frames_after c =
    let p = err_from_is_err_and c.from_residual.result c.from_residual.ensures.1 in rw (p.1, p.2) (grind (arith, common_steps, c.in_err-begin_verdict.ensures))
