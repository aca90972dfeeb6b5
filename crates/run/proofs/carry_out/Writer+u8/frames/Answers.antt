-- `Writer::frames` meets its contract.
use Rattle.std.proofs.Common.{◌∙◌, arith}
use Rattle.run.proofs.CarryOut.{writing_first, turn_room, turn, writing_done}
use Rattle.run.proofs.carry_out.Writer+u8.frames.Goals as goal

pub loop-frame-init : goal.loop-frame-init
loop-frame-init c =
    let a = c.args in
    let t = c.take-frame-items.ensures in
    rw (c.into_iter-frame-iterator.ensures.into_iter_gives, t.source, t.count, c.chunks_exact.ensures.rest)
    (c.chunks_exact.ensures.size, writing_first a.count a.size a.frames.now a.self.now c.requires.size_in_bounds)

pub frame-requires : goal.frame-requires
frame-requires c =
    let a = c.args in
    let p = c.requires in
    let w = c.loop-frame.invariant in
    let s = c.in-Some.ensures.steps in
    turn_room a.count a.size a.frames.now a.self.now p.le_size p.size_in_bounds _ _ _ w.1 s.1 s.0.1.0 (s.0.1.1 ∙ w.0) p.room

pub loop-frame-preserved : goal.loop-frame-preserved
loop-frame-preserved c =
    let a = c.args in
    let p = c.requires in
    let w = c.loop-frame.invariant in
    let s = c.in-Some.ensures.steps in
    (s.0.0 ∙ w.0, turn a.count a.size a.frames.now a.self.now p.le_size p.size_in_bounds _ _ _ w.1 s.1 s.0.1.0 (s.0.1.1 ∙ w.0) c.frame.ensures)

pub returns : goal.returns
returns c =
    let a = c.args in
    let w = c.loop-frame.invariant in
    writing_done a.count a.size a.frames.now a.self.now c.requires.le_size c.requires.size_in_bounds w.1 (λ more. omega (arith, (c.in-None.ensures.steps more).1.0, w.0))
