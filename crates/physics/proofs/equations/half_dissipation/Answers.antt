-- `half_dissipation` meets its contract: the factor is the radial correction.
use Rattle.std.proofs.Common.{◌≡◌, ◌∙◌, ◌*◌, get_or, arith, rules}
use lib.Ieee.{nan}
use Rattle.vectors.specs.Memory.{tab, part}
use Rattle.vectors.specs.MemoryLaws.{length_part, length_tab}
use Rattle.physics.specs.Slots.{slots, slot_is, part_before, put_before}
use Rattle.physics.specs.Vector.{at}
use Rattle.physics.specs.Passes.{half_val}
use Rattle.physics.specs.EquationLaws.{half_tab}
use Rattle.physics.proofs.equations.half_dissipation.Goals as goal

pub returns : goal.returns
returns c =
    let a = c.args in
    let n = a.n in
    let w = a.w.now in
    let pre = c.requires in
    let parts = c.split_at_mut-w.ensures in
    let made = c.third_differences.ensures (at (slots n w 20)) (λ i x lt is.
    let it : x ≡ get_or c.split_at_mut-w.result.1.now i nan = search rules in
    it ∙ parts.by_index.1 i nan ∙ slot_is n 20 i w lt) in
    let half = half_val (at (slots n w 20)) (part a.from n w) in
    rw (made, parts.front, parts.back, part_before (20 * n) a.from n w (omega arith))
    (put_before (20 * n) a.to (tab n half) w (omega (arith, length_tab n half))
    ∙ rw (half_tab (at (slots n w 20)) (part a.from n w) n (length_part a.from n w (omega arith))))
