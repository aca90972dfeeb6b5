use Rattle.vectors.specs.Dissipation.{radial_correction_of}
use Rattle.vectors.specs.Grid.{point_of}
use Rattle.physics.specs.Fills.{Grown2}
use Rattle.physics.proofs.slots.Slots.fill_grid.Given as goal

-- both vectors stand before i
abbrev pub invariant-loop-i : goal.invariant-loop-i
invariant-loop-i l =
    Grown2 l.points l.correction 0 l.i (λ E. point_of l.level) (λ E j. radial_correction_of (point_of l.level j)) l.initial.w l.w
