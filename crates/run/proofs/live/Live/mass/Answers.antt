-- `run::live::Live::mass` meets its contract.
use Rattle.std.proofs.Common.{◌∙◌}
use Rattle.run.proofs.Leaves.{mass_in}
use Rattle.run.proofs.live.Live.mass.Goals as goal

pub returns : goal.returns
returns c =
    let a = c.args.self.now in
    c.black_hole_mass.ensures
    ∙ mass_in a.run.settings a.run.time a.state.now c.length_at_discretization-n.result c.length_at_discretization-n.ensures
