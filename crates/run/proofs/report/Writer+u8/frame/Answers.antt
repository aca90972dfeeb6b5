-- `Writer::frame` meets its contract.
use Rattle.std.proofs.Common.{arith}
use Rattle.run.specs.Ascii.{bytes_of}
use Rattle.run.specs.Report.{frame_word, numbers}
use Rattle.run.specs.Written.{nothing, then, wider}
use Rattle.run.proofs.Texts.{numbers_turn, frame_text}
use Rattle.run.proofs.report.Writer+u8.frame.Goals as goal

pub loop-x-init : goal.loop-x-init
unfolding numbers
loop-x-init c = nothing _

pub loop-x-preserved : goal.loop-x-preserved
loop-x-preserved c =
    let turn = numbers_turn c.loop-x.x-index c.args.frame.now (omega arith) in
    wider (rw turn at (then c.loop-x.invariant c.float.ensures)) (omega arith)

pub returns : goal.returns
unfolding frame_word bytes_of
returns c =
    let all = frame_text c.loop-x.x-index c.args.frame.now (omega arith) in
    wider (rw all at (then (then c.extend.ensures c.loop-x.invariant) c.extend-2.ensures)) (omega arith)
