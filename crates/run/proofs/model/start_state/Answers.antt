-- `run::model::start_state` meets its contract.
use Rattle.run.proofs.Leaves.{first_made}
use Rattle.run.proofs.model.start_state.Goals as goal

pub returns : goal.returns
returns c =
    let all = first_made c.args.s _ c.args.work.now _ c.requires.s_value c.requires.s_in_bounds c.build_initial_state.ensures.refused c.build_initial_state.ensures.made in
    record { work_after = all.0; work_unchanged = all.1 }
