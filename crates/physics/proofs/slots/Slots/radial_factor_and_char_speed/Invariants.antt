use Rattle.physics.specs.Fills.{Grown2}
use Rattle.physics.specs.Slots.{slots}
use Rattle.physics.specs.Vector.{at}
use Rattle.physics.specs.Passes.{radial_val, speed_val}
use Rattle.physics.proofs.slots.Slots.radial_factor_and_char_speed.Given as goal

-- from 1 to before i both vectors stand
abbrev pub invariant-loop-i : goal.invariant-loop-i
invariant-loop-i l =
    Grown2 l.radial_factor l.char_speed 1 l.i (λ E. radial_val (at (slots l.n E 19)) (slots l.n E 6) (slots l.n E 10) l.integral0) (λ E. speed_val (at (slots l.n E 19)) (slots l.n E 6) (slots l.n E 10) l.integral0) l.initial.w l.w
