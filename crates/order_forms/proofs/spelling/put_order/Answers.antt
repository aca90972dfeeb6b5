-- `order_forms::spelling::put_order` meets its contract.
use Rattle.std.proofs.Common.{◌+◌, ◌*◌, arith}
use Rattle.run.specs.WriteLaws.{wrote_one}
use Rattle.order_forms.specs.Spelling.{spelled_of}
use Rattle.order_forms.proofs.Writing.{lent_bytes, then_wrote}
use Rattle.order_forms.proofs.spelling.put_order.Goals as goal

pub returns : goal.returns
unfolding spelled_of
returns c =
    let s = c.args.input.now in
    let p = c.args.p in
    let f = c.requires in
    let advances = lent_bytes (5 * p.count) s p.advances f.advances in
    let last = wrote_one (c.put_command-begin.result + 1 + 5 * p.count) 9 c.put_command.new.out (omega arith) in
    let end = then_wrote advances (omega arith, c.put_command.ensures.1) last in
    let begin = then_wrote (lent_bytes 1 s p.skip f.skip) c.put_command-begin.ensures end in
    let dx_level = then_wrote (lent_bytes 8 s p.interval f.interval) c.put_command-dx_level.ensures (then_wrote (lent_bytes 1 s p.dx_level f.dx_level) c.put_command-skip.ensures begin) in
    then_wrote (lent_bytes 8 s p.amplitude f.amplitude) c.put_command-level.ensures
    (then_wrote (lent_bytes 1 s p.level f.level) c.put_command-max_time.ensures
    (then_wrote (lent_bytes 8 s p.max_time f.max_time) c.put_command-interval.ensures dx_level))
