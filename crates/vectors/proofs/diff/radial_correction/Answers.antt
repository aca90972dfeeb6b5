-- `vectors::diff::radial_correction` meets its contract.
use lib.Ieee.{of_bits, of_int}
use Rattle.vectors.specs.Dissipation.{radial_correction_of}
use Rattle.vectors.proofs.diff.radial_correction.Goals as goal

pub returns : goal.returns
unfolding radial_correction_of of_bits of_int
returns c = rw c.square.ensures at c.fourth_power.ensures
