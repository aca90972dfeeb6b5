-- The invariant: the numbers before this one are written.
use Rattle.std.proofs.Common.{◌*◌, take}
use Rattle.run.specs.Report.{numbers}
use Rattle.run.specs.Written.{Written}
use Rattle.run.proofs.report.Writer+u8.frame.Given as goal

abbrev pub invariant-loop-x : goal.invariant-loop-x
invariant-loop-x l = Written (17 * l.x-index) (numbers (take l.x-index l.frame)) l.initial.self l.self
