-- How a run's record lies in a slice of twelve numbers: 0 amplitude, 1 level, 2 max time, 3 interval, 4 dx level, 5 skip, 6 time, 7 steps,
-- 8 broken mark, and of the last call's answer 9 frames, 10 attempts, 11 mass. Definitions only.
use Rattle.std.specs.Prelude.{ℕ, cond, List, [], ◌∷◌, ◌++◌, length, nat_le, slice_index_or, Float}
use Rattle.std.specs.Prelude.{Option, None, Some}
use Rattle.std.specs.Float.{nan}
use Rattle.vectors.specs.Constants.{whole}
use Rattle.run.specs.PlainRun.{option}
use Rattle.run.specs.declared.settings.Settings.{Settings}
use Rattle.run.specs.declared.settings.Record.{Record}
use Rattle.capi.specs.Numbers.{whole_in, switch_in, bit}

-- "settings" (01, "Plain run"): two whole numbers and a switch among them
unfoldable pub settings_of : (amplitude level max_time interval dx_level skip : Float) → Option Settings
settings_of amplitude level max_time interval dx_level skip =
    option (whole_in level)
    (λ l. option (whole_in dx_level)
    (λ d. option (switch_in skip)
    (λ s. Some (record { amplitude = amplitude; level = l; max_time = max_time; interval = interval; dx_level = d; skip = s }))
    None) None) None

-- "a record: settings .., time, steps, broken mark"
unfoldable pub record_of : Settings → (time steps broken : Float) → Option Record
record_of settings time steps broken =
    option (whole_in steps)
    (λ n. option (switch_in broken)
    (λ b. Some (record { settings = settings; time = time; steps = n; broken = b }))
    None) None

-- the number at a place
abbrev pub at : List Float → ℕ → Float
at slice place = slice_index_or slice place nan

-- the settings and the record that a slice holds, if it does
unfoldable pub settings_in : List Float → Option Settings
settings_in slice =
    cond (nat_le 12 (length slice))
    (settings_of (at slice 0) (at slice 1) (at slice 2) (at slice 3) (at slice 4) (at slice 5))
    None

unfoldable pub record_in : List Float → Option Record
record_in slice = option (settings_in slice) (λ s. record_of s (at slice 6) (at slice 7) (at slice 8)) None

-- the numbers of a record and of a call's answer
unfoldable pub settings_out : Settings → List Float
settings_out s =
    s.amplitude ∷ whole s.level ∷ s.max_time ∷ s.interval ∷ whole s.dx_level ∷ bit s.skip ∷ []

unfoldable pub progress_out : Record → (frames attempts : ℕ) → (mass : Float) → List Float
progress_out r frames attempts mass =
    r.time ∷ whole r.steps ∷ bit r.broken ∷ whole frames ∷ whole attempts ∷ mass ∷ []

unfoldable pub laid_out : Record → (frames attempts : ℕ) → (mass : Float) → List Float
laid_out r frames attempts mass = settings_out r.settings ++ progress_out r frames attempts mass
