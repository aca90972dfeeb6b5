-- `threshold::bracketed` meets its contract.
use Rattle.std.proofs.Common.{rules}
use Rattle.std.proofs.lemmas.Result.{err_from_is_err_and}
use Rattle.run.specs.Answers.{ran_of}
use Rattle.threshold.specs.SearchLaws.{found_refused, found_bracket}
use Rattle.threshold.proofs.bracketed.Goals as goal

pub returns-in_err-ends_verdict : goal.returns-in_err-ends_verdict
returns-in_err-ends_verdict c =
    let a = c.args in
    let low = c.run_at-at_low in
    let budget = c.high_budget in
    let high = c.run_at-at_high in
    let p = err_from_is_err_and c.from_residual.result c.from_residual.ensures.1 in
    rw (p.1, p.2)
    (found_refused a.runs.unit a.runs.settings a.low a.high a.halvings a.runs.budget a.state.now a.work.now
    (ran_of low.result) _ _ low.ensures (search rules) (search rules) budget.result budget.ensures (ran_of high.result) _ _ high.ensures
    _ c.in_err-ends_verdict.ensures)

pub returns : goal.returns
returns c =
    let a = c.args in
    let low = c.run_at-at_low in
    let budget = c.high_budget in
    let high = c.run_at-at_high in
    found_bracket a.runs.unit a.runs.settings a.low a.high a.halvings a.runs.budget a.state.now a.work.now
    (ran_of low.result) _ _ low.ensures (search rules) (search rules) budget.result budget.ensures (ran_of high.result) _ _ high.ensures
    c.in_ok-ends_verdict.ensures (search rules) (search rules) _ _ _ c.halve.ensures
