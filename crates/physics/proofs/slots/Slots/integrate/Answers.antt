-- `Slots::integrate` meets its contract.
use Rattle.std.proofs.Common.{refl, ◌∙◌, arith}
use Rattle.physics.specs.Integral.{integral_of}
use Rattle.physics.specs.IntegralLaws.{length-integral_of}
use Rattle.physics.specs.Slots.{slots_apart, times_less, length_slot, wrote}
use Rattle.physics.proofs.slots.Slots.integrate.Goals as goal

pub integrate-requires : goal.integrate-requires
integrate-requires c =
    let s = c.args.self.now in
    let fits = times_less _ _ s.n c.requires.0 in
    record { many = s.many; odd = s.odd; fits = omega arith; target = omega (arith, fits); far = slots_apart s.n c.args.to 9 c.requires.1 }

pub returns : goal.returns
returns c =
    let s = c.args.self.now in
    let h = c.args.h in
    let fits = times_less _ _ s.n c.requires.0 in
    record {
      memory = refl;
      level = refl;
      points = refl;
      became = wrote s.n c.args.to (λ S. integral_of h (S 9)) _ _ (length-integral_of h _ ∙ length_slot s.n 9 _ (omega arith)) (omega (arith, fits)) c.integrate.ensures;
    }
