-- When settings are refused (01, "From the input", 5 to 7). Definitions only.
use Rattle.std.specs.Prelude.{ℕ, Bool, cond, nat_lt}
use Rattle.std.specs.Prelude.{Option, None, Some}
use Rattle.std.specs.Float.{binary64}
use Rattle.std.specs.Float.Ieee.{mul, lt}
use Rattle.vectors.specs.Constants.{whole}
use Rattle.vectors.specs.Grid.{level_in_range, points_of}
use Rattle.vectors.specs.Powers.{one}
use Rattle.run.specs.declared.settings.Settings.{Settings}

-- "interval × n < 1": one rounded product, and no NaN is below 1
abbrev pub interval_too_short : Settings → Bool
interval_too_short s = lt (mul binary64 s.interval (whole (points_of s.level))) one

-- "dx level above level"
abbrev pub dx_too_fine : Settings → Bool
dx_too_fine s = nat_lt s.level s.dx_level

-- 01's number of the first fault: 5, "level below 5 or above 16"; 6; 7
unfoldable pub fault_at : Settings → Option ℕ
fault_at s = cond (level_in_range s.level) (cond (interval_too_short s) (Some 6) (cond (dx_too_fine s) (Some 7) None)) (Some 5)
