-- `vectors::diff::diff3_run` meets its contract.
use mathlib.Core.Path.{refl, sym}
use native.Mathlib.Nat.{zero-add}
use Rattle.vectors.specs.MemoryLaws.{grown_step}
use Rattle.vectors.specs.Stencil.{diff3_row}
use Rattle.vectors.specs.StencilLaws.{diff3_by}
use Rattle.vectors.proofs.diff.diff3_run.Goals as goal

pub loop-i-preserved : goal.loop-i-preserved
unfolding diff3_row
loop-i-preserved c =
    grown_step c.loop-i.invariant (sym (zero-add _)) (λ E f. diff3_by _ _ refl _ _ (c.requires.1.each _ c.loop-i.auto.i c.loop-i-test.true) c.row_hollow.ensures)
