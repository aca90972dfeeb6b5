-- `Writer::decimal` meets its contract.
use Rattle.std.proofs.Common.{arith}
use Rattle.run.specs.Report.{decimal}
use Rattle.run.specs.Written.{wider}
use Rattle.run.proofs.text.Writer+u8.decimal.Goals as goal

pub returns : goal.returns
unfolding decimal
returns c = wider (rw c.decimal_count.ensures.0 at c.digits.ensures) (omega arith)
