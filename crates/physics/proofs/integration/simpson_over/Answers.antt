-- `simpson_over` meets its contract: the bits of its constants are those of the definition's.
use Rattle.std.proofs.Common.{refl}
use lib.Ieee.{of_bits, of_int}
use Rattle.physics.proofs.integration.simpson_over.Goals as goal

pub returns : goal.returns
unfolding of_bits of_int
returns c = refl
