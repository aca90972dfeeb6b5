-- `Writer::float` meets its contract.
use Rattle.run.specs.Report.{hex}
use Rattle.run.proofs.text.Writer+u8.float.Goals as goal

pub returns : goal.returns
unfolding hex
returns c = rw c.bits_of.ensures at c.digits.ensures
