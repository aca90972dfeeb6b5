-- `Writer::push` meets its contract.
use Rattle.std.proofs.Common.{refl, sym, arith}
use Rattle.run.specs.WriteLaws.{put_one}
use Rattle.run.specs.Written.{written}
use Rattle.run.proofs.writer.Writer.push.Goals as goal

pub returns : goal.returns
returns g c = let s = c.args.self.now in written refl (sym (put_one s.at c.args.x s.out.now (omega arith))) refl (omega arith)
