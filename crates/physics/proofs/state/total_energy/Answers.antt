-- `physics::state::total_energy` meets its contract.
use Rattle.std.proofs.Common.{rules}
use Rattle.std.proofs.lemmas.Option.{unwrap_or-slice_get}
use lib.Ieee.{of_bits}
use Rattle.physics.proofs.state.total_energy.Goals as goal

pub returns : goal.returns
unfolding of_bits
returns c = search (rules, unwrap_or-slice_get)
