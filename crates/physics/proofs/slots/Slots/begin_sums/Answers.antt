-- `Slots::begin_sums` meets its contract.
use Rattle.std.proofs.Common.{◌*◌, refl, arith}
use Rattle.vectors.specs.MemoryLaws.{apart_right}
use Rattle.physics.specs.NeighbourLaws.{copied_three}
use Rattle.physics.specs.PassLaws.{renamed}
use Rattle.physics.proofs.slots.Slots.begin_sums.Goals as goal

pub copy_within-requires : goal.copy_within-requires
copy_within-requires c =
    let s = c.args.self.now in
    let n = s.n in
    record { source = omega arith; target = omega arith; far = apart_right (16 * n) (3 * n) (13 * n) (3 * n) (omega arith) }

pub returns : goal.returns
returns c =
    let s = c.args.self.now in
    let w = s.w.now in
    record { memory = refl; level = refl; points = refl; became = renamed refl (copied_three s.n 16 13 w w (omega arith) (omega arith) c.copy_within.ensures) }
