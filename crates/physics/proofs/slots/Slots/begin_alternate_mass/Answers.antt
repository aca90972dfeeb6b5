-- `Slots::begin_alternate_mass` meets its contract.
use Rattle.std.proofs.Common.{refl, arith}
use Rattle.physics.specs.Slots.{slots, slots_apart, length_slot, wrote}
use Rattle.physics.proofs.slots.Slots.begin_alternate_mass.Goals as goal

pub copy_within-requires : goal.copy_within-requires
copy_within-requires c =
    let s = c.args.self.now in
    record { source = omega arith; target = omega arith; far = slots_apart s.n 2 4 refl }

pub returns : goal.returns
unfolding slots
returns c =
    let s = c.args.self.now in
    record {
      memory = refl;
      level = refl;
      points = refl;
      became = wrote s.n 2 (λ S. S 4) _ _ (length_slot s.n 4 _ (omega arith)) (omega arith) c.copy_within.ensures;
    }
