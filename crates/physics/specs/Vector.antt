-- Vectors entry by entry (field_vector.rs). Definitions only.
use Rattle.std.specs.Prelude.{ℕ, List, slice_index_or, Float}
use Rattle.std.specs.Float.{nan, binary64}
use Rattle.std.specs.Float.Ieee.{add, mul}
use Rattle.vectors.specs.Memory.{tab}

-- entry i; NaN past the end
abbrev pub at : List Float → ℕ → Float
at xs i = slice_index_or xs i nan

-- x + c × u at each of n points
unfoldable pub advanced_of : ℕ → Float → List Float → List Float → List Float
unfolding tab
advanced_of n c xs us = tab n (λ i. add binary64 (at xs i) (mul binary64 c (at us i)))
