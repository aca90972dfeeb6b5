-- The clock (01, "Clock"; adaptive_time_step.rs): the next step's size, and whether it is a frame step. Definitions only.
use Rattle.std.specs.Prelude.{ℕ, ◌+◌, ◌-◌, ◌*◌, ◌/◌, Bool, true, false, cond, not, ◌&&◌, ◌||◌, List, Float}
use Rattle.std.specs.Float.{nan, inf, fin, binary64}
use Rattle.std.specs.Float.Ieee.{up, down, round, add, sub, mul, div, lt, le}
use Rattle.vectors.specs.Constants.{bh_radial_factor_tracking, bh_slowdown_factor, courant_number, eps}
use Rattle.vectors.specs.Grid.{spacing_of}
use Rattle.vectors.specs.Powers.{one}
use Rattle.vectors.specs.TotalOrder.{minimum_of}
use Rattle.run.specs.declared.settings.Settings.{Settings}

-- of a / d, for a d above 0: the largest whole number not above it, and the least not below it
abbrev pub whole_below : ℕ → ℕ → ℕ
whole_below a d = a / d

abbrev pub whole_above : ℕ → ℕ → ℕ
whole_above a d = (a + (d - 1)) / d

-- "Floor is the largest whole number not above its argument; NaN and infinities give themselves." A zero keeps its sign.
unfoldable pub floor_of : Float → Float
floor_of nan = nan
floor_of (inf s) = inf s
floor_of (fin false m e) = round binary64 false (whole_below (m * up e) (down e)) 1
floor_of (fin true m e) = round binary64 true (whole_above (m * up e) (down e)) 1

-- h × 0.95
abbrev pub courant_step_of : Settings → Float
courant_step_of s = mul binary64 (spacing_of s.level) courant_number

-- "Base is h × 0.95, then × 0.25 if the least radial factor < 0.1."
unfoldable pub base_step_of : Settings → List Float → Float
base_step_of s radial_factor =
    cond (lt (minimum_of radial_factor) bh_radial_factor_tracking) (mul binary64 (courant_step_of s) bh_slowdown_factor) (courant_step_of s)

-- "time to next": the next frame's time, (floor(time / interval) + 1) × interval, less the time
unfoldable pub time_to_next_of : Settings → Float → Float
time_to_next_of s time =
    sub binary64 (mul binary64 (add binary64 (floor_of (div binary64 time s.interval)) one) s.interval) time

-- "A step is a frame step exactly if output isn't skipped and neither (time to next <= 1e-12) nor (time to next > base) is true"
unfoldable pub is_frame_step : Settings → Float → List Float → Bool
is_frame_step s time radial_factor =
    not s.skip && not (le (time_to_next_of s time) eps || lt (base_step_of s radial_factor) (time_to_next_of s time))

-- a frame step takes the time to the next frame, any other the base
unfoldable pub delta_of : Settings → Float → List Float → Float
delta_of s time radial_factor = cond (is_frame_step s time radial_factor) (time_to_next_of s time) (base_step_of s radial_factor)
