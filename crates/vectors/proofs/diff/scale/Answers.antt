-- `vectors::diff::scale` meets its contract.
use mathlib.Core.Path.{refl, sym}
use native.Mathlib.Nat.{zero-add}
use native.Mathlib.Omega.{arith}
use lib.Ieee.{nan}
use Rattle.vectors.specs.DissipationLaws.{scaled_by}
use Rattle.vectors.specs.MemoryLaws.{grown_step, grown_all, filled_later}
use Rattle.vectors.proofs.diff.scale.Goals as goal

pub loop-value-preserved : goal.loop-value-preserved
loop-value-preserved c = grown_step c.loop-value.invariant (sym (zero-add _)) (λ E f. rw (filled_later c.loop-value.value-index nan f (omega arith)))

pub returns : goal.returns
unfolding scaled_by
returns c = grown_all _ nan c.loop-value.invariant (omega arith) refl
