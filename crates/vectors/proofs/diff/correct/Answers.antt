-- `vectors::diff::correct` meets its contract.
use mathlib.Core.Path.{refl, sym}
use native.Mathlib.Nat.{zero-add}
use native.Mathlib.Omega.{arith}
use lib.Ieee.{nan}
use Rattle.vectors.specs.DissipationLaws.{corrected_by}
use Rattle.vectors.specs.MemoryLaws.{grown_step, grown_all, filled_later}
use Rattle.vectors.proofs.diff.correct.Goals as goal

pub loop-i-preserved : goal.loop-i-preserved
loop-i-preserved c =
    grown_step c.loop-i.invariant (sym (zero-add _)) (λ E f. rw (c.radial_correction.ensures, c.point.ensures, filled_later c.loop-i.i nan f (omega arith)))

pub returns : goal.returns
unfolding corrected_by
returns c = grown_all _ nan c.loop-i.invariant (omega arith) refl
