-- What a run asks of the physics, of the clock and of the frames: every name that the plain run, the tally and the calls are defined by.
-- Definitions only; ModelLaws.antt has the laws that proofs may use of them.
use Rattle.std.specs.Prelude.{ℕ, ◌*◌, Bool, List, Float}
use Rattle.std.specs.Prelude.{Option}
use Rattle.std.specs.Float.Ieee.{lt}
use Rattle.vectors.specs.Grid.{points_of}
use Rattle.physics.specs.State as physics
use Rattle.physics.specs.State.{State}
use Rattle.physics.specs.InitialState.{initial_state_of}
use Rattle.physics.specs.Rk4.{rk4_of}
use Rattle.physics.specs.Nan.{state_has_nan}
use Rattle.physics.specs.BlackHole.{state_black_hole_mass}
use Rattle.run.specs.declared.settings.Settings.{Settings}
use Rattle.run.specs.Clock.{delta_of, is_frame_step}
use Rattle.run.specs.Frames as frames
use Rattle.run.specs.Frames.{frame_size_of}
use Rattle.run.specs.Inputs as inputs

-- "first 8n numbers", "work memory (40n ..)" (01, "Plain run")
abbrev pub cell_count : Settings → ℕ
cell_count s = 8 * points_of s.level

abbrev pub work_count : Settings → ℕ
work_count s = 40 * points_of s.level

-- "The state is the record's time and the eight vectors in state memory." (01, "Plain run")
abbrev pub state_in : Settings → Float → List Float → State
state_in s time memory = physics.state_in (points_of s.level) time memory

-- "a NaN in its time or any of its eight vectors"
abbrev pub holds_nan : State → Bool
holds_nan a = state_has_nan a

-- the mass at the first radial factor <= 0.01, where there is one
abbrev pub mass_at : State → Option Float
mass_at a = state_black_hole_mass a

-- "time > max time"
unfoldable pub is_late : Settings → State → Bool
is_late s a = lt s.max_time a.time

-- 01, "From the input": 5, 6 or 7
unfoldable pub fault_at : Settings → Option ℕ
fault_at s = inputs.fault_at s

-- F
unfoldable pub frame_count : Settings → ℕ
frame_count s = frame_size_of s

-- the initial state
unfoldable pub first_state : Settings → State
first_state s = initial_state_of s.level s.amplitude

-- the clock: by how much the next step moves time, and whether it is a frame step
unfoldable pub delta_next : Settings → State → Float
delta_next s a = delta_of s a.time a.radial_factor

unfoldable pub frames_next : Settings → State → Bool
frames_next s a = is_frame_step s a.time a.radial_factor

-- a step of this delta
unfoldable pub step_of : Settings → Float → State → State
step_of s delta a = rk4_of s.level delta a

-- a frame of this state
unfoldable pub frame_of : Settings → State → List Float
frame_of s a = frames.frame_of s a

-- "the next state is computed"
unfoldable pub next_state : Settings → State → State
next_state s a = step_of s (delta_next s a) a
