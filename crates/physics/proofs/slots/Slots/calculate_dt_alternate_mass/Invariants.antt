use Rattle.vectors.specs.MemoryLaws.{Grown}
use Rattle.physics.specs.Slots.{slots}
use Rattle.physics.specs.Passes.{mass_rate_in}
use Rattle.physics.proofs.slots.Slots.calculate_dt_alternate_mass.Given as goal

-- the rates stand before i
abbrev pub invariant-loop-i : goal.invariant-loop-i
invariant-loop-i l = Grown l.to 0 l.i (λ E. mass_rate_in (slots l.n E)) l.initial.w l.w
