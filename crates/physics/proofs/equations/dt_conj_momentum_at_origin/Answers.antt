-- `dt_conj_momentum_at_origin` meets its contract: the bits of its constants are those of the definition's.
use Rattle.std.proofs.Common.{refl}
use lib.Ieee.{of_bits, of_int}
use Rattle.physics.proofs.equations.dt_conj_momentum_at_origin.Goals as goal

pub returns : goal.returns
unfolding of_bits of_int
returns c = refl
