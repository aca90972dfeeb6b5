-- Which whole number and which switch a float of a record's slice stands for. Definitions only.
use Rattle.std.specs.Prelude.{ℕ, Bool, true, false, cond, pos, Float}
use Rattle.std.specs.Prelude.{Option, None, Some}
use Rattle.std.specs.Float.{fin}
use Rattle.std.specs.Float.Ieee.{eq, to_unsigned}
use Rattle.vectors.specs.Constants.{whole}
use Rattle.vectors.specs.Powers.{one}

-- 0 × 2^0
abbrev pub zero : Float
zero = fin false 0 (pos 0)

-- the whole number of 32 bits that a float equals, if there is one: `to_unsigned 32` takes a fraction off and any number outside the range to
-- its nearest end, so that only a whole number of the range comes back
unfoldable pub whole_in : Float → Option ℕ
whole_in x = cond (eq x (whole (to_unsigned 32 x))) (Some (to_unsigned 32 x)) None

-- "skip u8 (0 or 1)" (01, "Orders"): no and yes
unfoldable pub switch_in : Float → Option Bool
switch_in x = cond (eq x zero) (Some false) (cond (eq x one) (Some true) None)

-- a yes or no as a float
unfoldable pub bit : Bool → Float
bit b = cond b one zero
