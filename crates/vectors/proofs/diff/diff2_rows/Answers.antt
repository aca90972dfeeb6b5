-- `vectors::diff::diff2_rows` meets its contract.
use Rattle.std.proofs.Common.{◌≡◌, ◌+◌, ◌-◌, length, refl, sym, zero-add, arith, length-set, length-drop, length-take}
use lib.Ieee.{nan}
use Rattle.vectors.specs.MemoryLaws.{step, filled_none, filled_all, grown_part, edged}
use Rattle.vectors.specs.Stencil.{diff2_of, diff2_left0, diff2_left1, diff2_inner, diff2_right1, diff2_right0}
use Rattle.vectors.specs.StencilLaws.{diff2_left0_lem, diff2_left1_lem, diff2_inner_lem, diff2_right1_lem, diff2_right0_lem}
use Rattle.vectors.proofs.diff.diff2_rows.Goals as goal

pub loop-i-init : goal.loop-i-init
loop-i-init c = filled_none 0 _ _

pub loop-i-preserved : goal.loop-i-preserved
unfolding diff2_inner
loop-i-preserved c =
    let i = c.loop-i.i in
    let e : i ≡ 2 + i - 2 = omega arith in
    step c.loop-i.invariant (sym (zero-add _)) (diff2_inner_lem _ _ _ _ refl refl (2 + i) (omega arith) (omega arith) (rw e at c.row-in-loop-i.ensures))

pub returns : goal.returns
unfolding diff2_of diff2_left0 diff2_left1 diff2_right1 diff2_right0
returns c =
    let a = c.args in
    let xs = a.vector.now in
    let n = length xs in
    let all : c.loop-i.i ≡ n - 4 = omega arith in
    let inner = filled_all nan (rw all at c.loop-i.invariant) (simp (length-take, length-drop, length-set) (omega arith)) in
    edged n nan a.out.now (omega arith) c.requires.1 refl (grown_part 2 (n - 4) (n - 2) nan _ inner (omega arith) (simp length-set (omega arith)))
    (diff2_left0_lem a.h _ xs xs refl refl c.row.ensures)
    (diff2_left1_lem a.h _ xs xs refl refl c.row-2.ensures)
    (diff2_right1_lem a.h _ xs xs refl refl (omega arith) c.row_descending.ensures)
    (diff2_right0_lem a.h _ xs xs refl refl (omega arith) c.row_descending-2.ensures)
