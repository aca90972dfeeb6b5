-- The numbers between exp's limits, for which it makes no test.
use Rattle.std.specs.Prelude.{◌≡◌, true, false, pos, is_nan, Float}
use Rattle.std.specs.Float.{fin}
use Rattle.std.specs.Float.Ieee.{le}

-- x is a number, not 709 or more and not -708 or less
pub record Inside (x : Float) : Type 0 where
  pub number : is_nan x ≡ false
  pub under : le (fin false 709 (pos 0)) x ≡ false
  pub over : le x (fin true 177 (pos 2)) ≡ false
