-- `vectors::diff::diff_rows` meets its contract.
use Rattle.std.proofs.Common.{◌≡◌, ◌+◌, ◌-◌, length, refl, sym, zero-add, arith, length-set, length-drop, length-take}
use lib.Ieee.{nan}
use Rattle.vectors.specs.MemoryLaws.{step, filled_none, filled_all, grown_part, edged}
use Rattle.vectors.specs.Stencil.{diff_of, diff_left0, diff_left1, diff_inner, diff_right1, diff_right0}
use Rattle.vectors.specs.StencilLaws.{diff_left0_lem, diff_left1_lem, diff_inner_lem, diff_right1_lem, diff_right0_lem}
use Rattle.vectors.proofs.diff.diff_rows.Goals as goal

pub loop-i-init : goal.loop-i-init
loop-i-init c = filled_none 0 _ _

pub loop-i-preserved : goal.loop-i-preserved
unfolding diff_inner
loop-i-preserved c =
    let i = c.loop-i.i in
    let e : i ≡ 2 + i - 2 = omega arith in
    step c.loop-i.invariant (sym (zero-add _)) (diff_inner_lem _ _ _ _ refl refl (2 + i) (omega arith) (omega arith) (rw e at c.row_hollow.ensures))

pub returns : goal.returns
unfolding diff_of diff_left0 diff_left1 diff_right1 diff_right0
returns c =
    let a = c.args in
    let xs = a.vector.now in
    let n = length xs in
    let all : c.loop-i.i ≡ n - 4 = omega arith in
    let inner = filled_all nan (rw all at c.loop-i.invariant) (simp (length-take, length-drop, length-set) (omega arith)) in
    edged n nan a.out.now (omega arith) c.requires.1 refl (grown_part 2 (n - 4) (n - 2) nan _ inner (omega arith) (simp length-set (omega arith)))
    (diff_left0_lem a.h _ xs xs refl refl c.row.ensures)
    (diff_left1_lem a.h _ xs xs refl refl c.row-2.ensures)
    (diff_right1_lem a.h _ xs xs refl refl (omega arith) c.row-3.ensures)
    (diff_right0_lem a.h _ xs xs refl refl (omega arith) c.row-4.ensures)
