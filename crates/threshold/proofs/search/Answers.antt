-- `threshold::search` meets its contract.
use lib.Ieee.{of_bits}
use Rattle.threshold.proofs.search.Goals as goal

pub returns : goal.returns
unfolding of_bits
returns c = c.search_in.ensures
