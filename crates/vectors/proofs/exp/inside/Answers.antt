-- `vectors::exp::inside` meets its contract.
use Rattle.std.proofs.lemmas.Bool.{OnTrue_from}
use lib.Ieee.{of_bits, neg}
use Rattle.vectors.proofs.exp.Limits.{between_limits}
use Rattle.vectors.proofs.exp.inside.Goals as goal

pub returns : goal.returns
unfolding of_bits neg
returns c = OnTrue_from _ _ (between_limits c.args.x)
