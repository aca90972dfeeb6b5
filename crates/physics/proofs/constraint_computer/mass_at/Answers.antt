-- `mass_at` meets its contract: the bits of its constants are those of the definition's.
use Rattle.std.proofs.Common.{refl}
use lib.Ieee.{of_bits, of_int, round}
use Rattle.physics.proofs.constraint_computer.mass_at.Goals as goal

pub returns : goal.returns
unfolding of_bits of_int round
returns c = refl
