-- `run::model::has_nan` meets its contract.
use Rattle.std.proofs.Common.{ap, ◌∙◌}
use Rattle.physics.specs.Nan.{any_nan}
use Rattle.physics.specs.WorkLaws.{lent_made}
use Rattle.run.proofs.Leaves.{nan_next}
use Rattle.run.proofs.model.has_nan.Goals as goal

pub returns : goal.returns
returns c =
    let a = c.args in
    c.has_nan.ensures
    ∙ ap (any_nan a.time) (lent_made a.s.level _ a.work.now c.length_at_discretization-n.ensures)
    ∙ nan_next a.s a.work.now a.time
