-- `Slots::dissipations` meets its contract: two passes, whose factor is scale.
use Rattle.std.proofs.Common.{refl, arith, rules}
use Rattle.vectors.specs.Memory.{tab}
use Rattle.vectors.specs.MemoryLaws.{length_tab}
use Rattle.physics.specs.Slots.{slots, wrote, both}
use Rattle.physics.specs.Passes.{damping_val}
use Rattle.physics.proofs.slots.Slots.dissipations.Goals as goal

pub returns : goal.returns
unfolding slots
returns c =
    let s = c.args.self.now in
    let n = c.args.self.now.n in
    let scale = c.args.scale in
    let field = wrote n 13 (λ S. tab n (damping_val scale (S 11))) _ _ (length_tab n _) (omega arith) (c.third_differences.ensures (λ i. scale) (λ i x lt is. search rules)) in
    let momentum = wrote n 14 (λ S. tab n (damping_val scale (S 12))) _ _ (length_tab n _) (omega arith) (c.third_differences-2.ensures (λ i. scale) (λ i x lt is. search rules)) in
    record {
      memory = refl;
      level = refl;
      points = refl;
      became = both field momentum;
    }
