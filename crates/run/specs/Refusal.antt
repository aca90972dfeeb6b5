-- The refusals of a begin and of an advance, by the numbers that 01 gives them ("From the input", "From the state"). Definitions only.
use Rattle.std.specs.Prelude.{ℕ, Result, Ok, Err}
use Rattle.std.specs.Prelude.{Option, None, Some}
use Rattle.run.specs.declared.refusal.Refusal.{Refusal}
use Rattle.run.specs.declared.refusal.Refusal.TheVariants.{Level, Interval, DxLevel, Memory, Frames, InitialNan, Steps}

-- 5: a level below 5 or above 16; 6: "interval × n < 1"; 7: "dx level above level"; 11: state or work memory too short; 12: frame memory too short
-- for begin's frame; 13: "initial state holds a NaN"; 14: more steps than a run may have
abbrev pub number_of : Refusal → ℕ
number_of Level = 5
number_of Interval = 6
number_of DxLevel = 7
number_of Memory = 11
number_of Frames = 12
number_of InitialNan = 13
number_of Steps = 14

-- the number where a call is refused
abbrev pub refusal_of : {A : Type 0} → Result A Refusal → Option ℕ
refusal_of (Ok a) = None
refusal_of (Err r) = Some (number_of r)
