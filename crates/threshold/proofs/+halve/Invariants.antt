-- The measure is the halvings left.
use Rattle.threshold.proofs.+halve.Given as goal

abbrev pub decreases-halve : goal.decreases-halve
decreases-halve l = l.left
