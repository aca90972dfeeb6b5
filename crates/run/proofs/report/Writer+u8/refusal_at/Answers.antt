-- `Writer::refusal_at` meets its contract.
use Rattle.std.proofs.Common.{arith}
use Rattle.run.specs.Ascii.{bytes_of}
use Rattle.run.specs.Report.{refusal_at_line, refused_word}
use Rattle.run.specs.Written.{then, wider}
use Rattle.run.proofs.report.Writer+u8.refusal_at.Goals as goal

pub returns : goal.returns
unfolding refusal_at_line refused_word bytes_of
returns c = wider (then (then (then c.extend.ensures c.decimal.ensures) c.decimal-2.ensures) c.extend-2.ensures) (omega arith)
