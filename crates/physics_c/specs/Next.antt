-- The state that `physics_step` makes. Definitions only.
use Rattle.std.specs.Prelude.{List, ℕ, Float}
use Rattle.std.specs.Float.{binary64}
use Rattle.std.specs.Float.Ieee.{of_bits}
use Rattle.physics.specs.Rk4.{rk4_of}
use Rattle.vectors.specs.Grid.{points_of}
use Rattle.physics.specs.State.{State, state_in}

-- delta after the state in state memory, which has no time: it is taken as 0
abbrev pub next_of : ℕ → Float → List Float → State
next_of level delta state = rk4_of level delta (state_in (points_of level) (of_bits binary64 0) state)
