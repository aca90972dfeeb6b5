-- `run::state_output_builder::Sampled::reduce_spatial_resolution` meets its contract.
use Rattle.std.proofs.Common.{◌≡◌, ℕ, ◌+◌, ◌-◌, ◌*◌, length, get_or, take, drop, refl, arith, length-drop, length-take}
use lib.Ieee.{nan}
use Rattle.vectors.specs.MemoryLaws.{filled_none, step, filled_all, back, length_tab}
use Rattle.run.specs.Written.{written, wider}
use Rattle.run.proofs.state_output_builder.Sampled.reduce_spatial_resolution.Goals as goal

pub loop-j-init : goal.loop-j-init
loop-j-init c = filled_none 0 _ _

pub loop-j-preserved : goal.loop-j-preserved
loop-j-preserved c = step c.loop-j.invariant (omega arith) refl

pub returns : goal.returns
returns c =
    let a = c.args in
    let count = a.self.count in
    let f = a.frames.now in
    let long : length (take (f.at + count - f.at) (drop f.at f.out.now)) ≡ count = simp (length-take, length-drop) (omega arith) in
    let all : c.loop-j.j ≡ count = omega arith in
    let room = length_tab count (λ (j : ℕ). get_or a.vector.now (j * a.self.step) nan) in
    wider (written refl (back _ _ _ _ _ (filled_all nan (rw all at c.loop-j.invariant) long) (omega (arith, room))) (omega (arith, room)) (omega (arith, room))) (omega (arith, room))
