-- `Writer::refusal` meets its contract.
use Rattle.std.proofs.Common.{arith}
use Rattle.run.specs.Ascii.{bytes_of}
use Rattle.run.specs.Report.{refusal_line, refused_word}
use Rattle.run.specs.Written.{then, wider}
use Rattle.run.proofs.report.Writer+u8.refusal.Goals as goal

pub returns : goal.returns
unfolding refusal_line refused_word bytes_of
returns c = wider (then (then c.extend.ensures c.decimal.ensures) c.extend-2.ensures) (omega arith)
