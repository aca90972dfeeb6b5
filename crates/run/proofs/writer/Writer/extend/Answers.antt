-- `Writer::extend` meets its contract.
use Rattle.std.proofs.Common.{refl}
use Rattle.vectors.specs.MemoryLaws.{back}
use Rattle.run.specs.Written.{written}
use Rattle.run.proofs.writer.Writer.extend.Goals as goal

pub returns : goal.returns
returns g c = written refl (back _ _ _ _ _ c.copy_from_slice.ensures.after refl) refl c.requires
