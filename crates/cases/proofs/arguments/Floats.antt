-- What a goal unfolds to compute the floats of constants, from bits and from decimals.
use lib.Ieee.{of_bits, of_int, round, neg, div}
use Rattle.std.specs.Prelude.{⊤}

unfoldable pub of_constants : ⊤
unfolding of_bits of_int round neg div
of_constants = tt
