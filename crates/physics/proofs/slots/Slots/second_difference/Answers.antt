-- `Slots::second_difference` meets its contract.
use Rattle.std.proofs.Common.{refl, arith}
use Rattle.vectors.specs.Grid.{spacing_of}
use Rattle.vectors.specs.Stencil.{diff2_of}
use Rattle.vectors.specs.StencilLaws.{length-diff2_of}
use Rattle.physics.specs.DifferenceLaws.{differed}
use Rattle.physics.proofs.slots.Slots.second_difference.Goals as goal

pub returns : goal.returns
returns c =
    let s = c.args.self.now in
    let h = spacing_of s.level in
    let parts = c.split_at_mut-before.ensures in
    record {
      memory = refl;
      level = refl;
      points = refl;
      became = differed s.level s.n 9 (diff2_of h) s.w.now _ _ _ c.diff2.result (omega arith) s.grid (omega arith) (omega arith) (omega arith) parts.front parts.back
          c.diff2.ensures.refused c.diff2.ensures.left (length-diff2_of h);
    }
