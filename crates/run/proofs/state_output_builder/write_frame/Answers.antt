-- `run::state_output_builder::write_frame` meets its contract.
use Rattle.std.proofs.Common.{◌≡◌, ℕ, ◌+◌, ◌-◌, ◌*◌, List, length, take, drop, refl, ap, ◌∙◌, arith, rules}
use lib.Ieee.{Float, nan}
use Rattle.vectors.specs.Grid.{points_of, spacing_of}
use Rattle.vectors.specs.Memory.{part, put}
use Rattle.vectors.specs.MemoryLaws.{lent, length_part, part_of_put}
use Rattle.vectors.specs.Stencil.{diff_of}
use Rattle.vectors.specs.StencilLaws.{length-diff_of}
use Rattle.physics.specs.State.{state_in}
use Rattle.run.specs.Frames.{frame_of}
use Rattle.run.specs.FramesLaws.{frame_size_in, dx_most}
use Rattle.run.specs.FrameWriting.{output_of, output_frame}
use Rattle.run.specs.WriteLaws.{Wrote, drop-put, wrote-length}
use Rattle.run.proofs.state_output_builder.write_frame.Goals as goal

pub write_output-requires : goal.write_output-requires
write_output-requires c =
    let n = c.new-sampled.result.n in
    let work = c.compute_radial_gradient.new.work in
    let at_most = c.requires in
    let long = ap length (lent (17 * n) (17 * n + n) n work refl) ∙ length_part (17 * n) n work (omega (arith, at_most.work)) in
    (long, omega (arith, at_most.frames, frame_size_in c.args.s.dx_level (dx_most at_most.settings)))

-- what was written is what is lent then
held : {from n : ℕ} {ys before work : List Float} → length ys ≡ n → Wrote from ys before work → take (from + n - from) (drop from work) ≡ ys
held {from} {n} {ys} {before} {work} long wrote =
    lent from (from + n) n work refl ∙ ap (part from n) wrote.is ∙ part_of_put from n ys before nan long (omega (arith, wrote.within))

pub returns : goal.returns
returns c =
    let a = c.args in
    let s = c.new-sampled.result in
    let e = c.new-sampled.ensures in
    let wrote = c.compute_radial_gradient.ensures in
    let field = part (0 * s.n) s.n a.state.now in
    let long : length (diff_of (spacing_of a.s.level) field) ≡ s.n = length-diff_of (spacing_of a.s.level) field ∙ length_part (0 * s.n) s.n a.state.now (omega (arith, c.requires.state)) in
    let rest = ap (drop (40 * points_of a.s.level)) wrote.is ∙ drop-put (17 * s.n) _ a.work.now (40 * points_of a.s.level) wrote.within (omega (arith, long)) in
    let frame = ap (output_of s.n s.step s.count s.state.now a.time) (held long wrote) ∙ rw (e.state, e.points, e.spaced, e.samples) (output_frame a.s a.time a.state.now) in
    let memory = c.write_output.ensures.memory in
    let became : c.write_output.new.frames.out.now ≡ put a.at (frame_of a.s (state_in (points_of a.s.level) a.time a.state.now)) a.frames.now = c.write_output.ensures.is ∙ ap (λ (l : List Float). put a.at l a.frames.now) frame in
    (search rules, rest, wrote-length wrote)
