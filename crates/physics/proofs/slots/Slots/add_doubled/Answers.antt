-- `Slots::add_doubled` meets its contract.
use Rattle.std.proofs.Common.{◌*◌, List, refl, ap, ◌∙◌, arith}
use lib.Ieee.{Float, of_bits, of_int}
use Rattle.vectors.specs.Constants.{whole}
use Rattle.vectors.specs.Memory.{put}
use Rattle.vectors.specs.MemoryLaws.{apart_right}
use Rattle.physics.specs.NeighbourLaws.{advanced_three, wrote_three}
use Rattle.physics.specs.PassLaws.{renamed}
use Rattle.physics.specs.VectorLaws.{length-advanced_of}
use Rattle.physics.proofs.slots.Slots.add_doubled.Goals as goal

pub add_scaled-requires : goal.add_scaled-requires
add_scaled-requires c =
    let s = c.args.self.now in
    let n = c.args.self.now.n in
    record { source = omega arith; target = omega arith; far = apart_right (16 * n) (3 * n) (13 * n) (3 * n) (omega arith) }

pub returns : goal.returns
unfolding of_bits of_int
returns c =
    let s = c.args.self.now in
    let n = c.args.self.now.n in
    let w = c.args.self.now.w.now in
    record {
      memory = refl;
      level = refl;
      points = refl;
      became = renamed refl (wrote_three n 16 _ _ _ w (length-advanced_of n _ _ _) (length-advanced_of n _ _ _) (length-advanced_of n _ _ _) (omega arith)
          (c.add_scaled.ensures ∙ ap (λ (x : List Float). put (16 * n) x w) (advanced_three n (whole 2) w 16 w 13 (omega arith) (omega arith))));
    }
