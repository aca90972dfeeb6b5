use Rattle.vectors.specs.MemoryLaws.{Grown}
use Rattle.physics.specs.Slots.{slots}
use Rattle.physics.specs.Passes.{momentum_rate_in}
use Rattle.physics.proofs.slots.Slots.calculate_dt_conj_momentum.Given as goal

-- the rates stand from 1 to before i, the dissipation from i on
abbrev pub invariant-loop-i : goal.invariant-loop-i
invariant-loop-i l = Grown l.to 1 l.i (λ E. momentum_rate_in (slots l.n E)) l.initial.w l.w
