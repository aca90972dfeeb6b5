-- `run::model::step` meets its contract.
use Rattle.run.proofs.Leaves.{next_made}
use Rattle.run.proofs.model.step.Goals as goal

pub returns : goal.returns
returns c =
    let a = c.args in
    let all = next_made a.s a.time a.delta a.state.now _ a.work.now _ c.requires c.rk4_step.ensures.refused c.rk4_step.ensures.made in
    record { work_after = all.0; work_unchanged = all.1 }
