-- `keep` meets its contract.
use Rattle.physics.specs.WorkLaws.{stored_made}
use Rattle.physics_c.proofs.keep.Goals as goal

pub returns : goal.returns
returns c =
    let a = c.args in
    stored_made a.level _ c.store.result a.work.now a.state.now _ c.requires c.length_at_discretization-n.ensures c.store.ensures.refused c.store.ensures.left
