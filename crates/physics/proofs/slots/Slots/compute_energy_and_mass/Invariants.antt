use Rattle.physics.specs.Fills.{Grown2}
use Rattle.physics.specs.Slots.{slots}
use Rattle.physics.specs.Vector.{at}
use Rattle.physics.specs.Passes.{energy_val, mass_val}
use Rattle.physics.proofs.slots.Slots.compute_energy_and_mass.Given as goal

-- both vectors stand before i
abbrev pub invariant-loop-i : goal.invariant-loop-i
invariant-loop-i l =
    Grown2 l.energy_density l.mass 0 l.i (λ E. energy_val (at (slots l.n E 19)) (slots l.n E 8) (slots l.n E 1)) (λ E. mass_val (at (slots l.n E 19)) (slots l.n E 5)) l.initial.w l.w
