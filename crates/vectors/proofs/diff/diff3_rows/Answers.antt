-- `vectors::diff::diff3_rows` meets its contract.
use lib.Ieee.{nan}
use Rattle.vectors.specs.MemoryLaws.{filled_none, filled_all}
use Rattle.vectors.specs.Stencil.{diff3_of, diff3_at}
use Rattle.vectors.proofs.diff.diff3_rows.Goals as goal

pub returns : goal.returns
unfolding diff3_of
returns c =
    let E = c.args.out.now in
    let xs = c.args.vector.now in
    filled_all nan
    (c.diff3_run-3.ensures.1.grow E (c.diff3_run-2.ensures.1.grow E (c.diff3_run.ensures.1.grow E (filled_none 0 (diff3_at xs) E))))
    c.requires.1
