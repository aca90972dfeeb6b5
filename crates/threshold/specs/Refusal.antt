-- The refusals of a search, by the numbers that 02 gives them, and by begin's, which 01 numbers. Definitions only.
use Rattle.std.specs.Prelude.{ℕ, Result, Ok, Err}
use Rattle.std.specs.Prelude.{Option, None, Some}
use Rattle.run.specs.Refusal as run
use Rattle.threshold.specs.declared.refusal.Refusal.{Refusal}
use Rattle.threshold.specs.declared.refusal.Refusal.TheVariants.{Ends, Sides, Run}

-- 15: "ends not low < high <= 2^42 or halvings above 40"; 16: "the low end's run isn't timeout or the high end's isn't collapse"
abbrev pub number_of : Refusal → ℕ
number_of Ends = 15
number_of Sides = 16
number_of (Run r) = run.number_of r

-- the number where the ends are refused
abbrev pub refusal_of : {A : Type 0} → Result A Refusal → Option ℕ
refusal_of (Ok a) = None
refusal_of (Err r) = Some (number_of r)
