-- `vectors::tan::cosine_series` meets its contract: each constant is the coefficient of its place.

use lib.Ieee.{of_bits, of_int, div, neg}
use Rattle.vectors.specs.Tan.{cosine_series}
use Rattle.vectors.proofs.tan.cosine_series.Goals as goal

pub returns : goal.returns
unfolding cosine_series of_bits of_int div neg
returns c = c.horner.ensures
