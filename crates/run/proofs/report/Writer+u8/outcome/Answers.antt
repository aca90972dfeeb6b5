-- `Writer::outcome` meets its contract.
use Rattle.std.proofs.Common.{arith}
use Rattle.run.specs.Report.{outcome_line}
use Rattle.run.specs.Written.{then, wider}
use Rattle.run.proofs.report.Writer+u8.outcome.Goals as goal

pub returns : goal.returns
unfolding outcome_line
returns c =
    let word = rw c.word_of.ensures.0 at c.extend.ensures in
    let most = c.word_of.ensures.1 in
    wider (then (then (then (then word c.decimal.ensures) c.float.ensures) c.mass.ensures) c.extend-2.ensures) (omega arith)
