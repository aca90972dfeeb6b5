-- `third_difference_run` meets its contract.
use Rattle.std.proofs.Common.{◌≡◌, ◌<◌, length, refl, sym, zero-add, arith}
use Rattle.vectors.specs.MemoryLaws.{grown_step}
use Rattle.vectors.specs.Stencil.{diff3_row}
use Rattle.vectors.specs.StencilLaws.{diff3_by}
use Rattle.physics.proofs.equations.third_difference_run.Goals as goal

pub loop-i-preserved : goal.loop-i-preserved
unfolding diff3_row
loop-i-preserved g c = λ f gives.
    let windows = c.requires.windows.1 in
    let lt : c.loop-i.i < length c.args.vector.now = omega (arith, windows.inside) in
    grown_step (c.loop-i.invariant f gives) (sym (zero-add _)) (λ E filled. rw (gives _ _ lt c.factor.ensures, diff3_by _ _ refl _ _ (windows.each _ c.loop-i.auto.i c.loop-i-test.true) c.row_hollow.ensures))

pub returns-clause-made : goal.returns-clause-made
returns-clause-made g c = λ f gives.
    let e : c.loop-i.i ≡ c.args.hi = omega (arith, c.requires.windows.1.ordered) in
    rw e at (c.loop-i.invariant f gives)
