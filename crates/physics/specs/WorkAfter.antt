-- Work memory after a call that makes a state in it (01, "Plain run": "work memory (40n, contents afterwards free)"). Definitions only.
use Rattle.std.specs.Prelude.{◌≡◌, ℕ, zero, suc, ◌*◌, List, length, drop, Float}
use Rattle.vectors.specs.Grid.{points_of}
use Rattle.vectors.specs.Memory.{part}
use Rattle.physics.specs.State.{State, lay_out}

-- the state stands in numbers 8n to 16n; numbers from 40n on are as before; the others are free
pub record Made (level : ℕ) (s : State) (before after : List Float) : Type 0 where
  pub long : length after ≡ length before
  pub made : part (8 * points_of level) (8 * points_of level) after ≡ lay_out s
  pub beyond : drop (40 * points_of level) after ≡ drop (40 * points_of level) before

-- after a call whose answer has 01's number: 0, the state is made; else work memory is unchanged
abbrev pub WorkAfter : ℕ → ℕ → State → List Float → List Float → Type 0
WorkAfter zero level s before after = Made level s before after
WorkAfter (suc number) level s before after = after ≡ before
