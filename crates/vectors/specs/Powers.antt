-- 01, "Grid and vectors": "Powers, whose bodies no file holds: x² is x·x, x⁴ is (x²)·(x²), x^-1 is 1/x."
use Rattle.std.specs.Prelude.{false, pos, Float}
use Rattle.std.specs.Float.{fin, binary64}
use Rattle.std.specs.Float.Ieee.{mul, div}

-- "x² is x·x"
abbrev pub square_of : Float → Float
square_of x = mul binary64 x x

-- "x⁴ is (x²)·(x²)"
abbrev pub fourth_power_of : Float → Float
fourth_power_of x = mul binary64 (square_of x) (square_of x)

-- 1 × 2^0
abbrev pub one : Float
one = fin false 1 (pos 0)

-- "x^-1 is 1/x"
abbrev pub reciprocal_of : Float → Float
reciprocal_of x = div binary64 one x
