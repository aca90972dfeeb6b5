-- `run::model::store_next` meets its contract.
use Rattle.physics.specs.WorkLaws.{stored_made}
use Rattle.run.specs.ModelLaws.{sound_level}
use Rattle.run.proofs.model.store_next.Goals as goal

pub returns : goal.returns
returns c =
    let a = c.args in
    let lent = c.requires in
    stored_made a.s.level _ c.store.result a.work.now a.state.now _
    (record { ranged = sound_level a.s lent.sound; state = lent.state_fits; work = lent.work_fits })
    c.length_at_discretization-n.ensures c.store.ensures.refused c.store.ensures.left
