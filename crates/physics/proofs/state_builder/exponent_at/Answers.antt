-- `exponent_at` meets its contract: the bits of its constants are those of the definition's.
use lib.Ieee.{of_bits, of_int, round}
use Rattle.physics.specs.InitialState.{exponent_at}
use Rattle.physics.proofs.state_builder.exponent_at.Goals as goal

pub returns : goal.returns
unfolding of_bits of_int round exponent_at
returns c = rw (c.square.ensures, c.tan.ensures)
