use Rattle.vectors.specs.MemoryLaws.{Grown}
use Rattle.physics.specs.Slots.{slots}
use Rattle.physics.specs.Passes.{field_rate_in}
use Rattle.physics.proofs.slots.Slots.calculate_dt_field.Given as goal

-- the rates stand before i, the dissipation from i on
abbrev pub invariant-loop-i : goal.invariant-loop-i
invariant-loop-i l = Grown l.to 0 l.i (λ E. field_rate_in (slots l.n E)) l.initial.w l.w
