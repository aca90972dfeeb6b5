-- `run::live::Live::clock` meets its contract.
use Rattle.run.proofs.Leaves.{clock_in}
use Rattle.run.proofs.live.Live.clock.Goals as goal

pub returns : goal.returns
returns c =
    let a = c.args.self.now in
    clock_in a.run.settings a.run.time a.state.now c.length_at_discretization-n.result c.length_at_discretization-n.ensures c.next.ensures.0 c.next.ensures.1
