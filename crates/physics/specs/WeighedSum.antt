-- A sum of values with whole weights, as 01 and the Rust write them: from the left, and with no product by 1. Definitions only.
use Rattle.std.specs.Prelude.{ℕ, suc, cond, List, [], ◌∷◌, ℤ, pos, negsuc, ◌==◌, Float}
use Rattle.std.specs.Float.{binary64}
use Rattle.std.specs.Float.Ieee.{mul, neg}
use Rattle.vectors.specs.Constants.{whole}
use Rattle.vectors.specs.Stencil.{total}

-- k × x; 1 × x is x itself
abbrev pub multiple : ℕ → Float → Float
multiple k x = cond (k == 1) x (mul binary64 (whole k) x)

-- weight × x; -k × x is -(k × x)
abbrev pub weighed : ℤ → Float → Float
weighed (pos k) x = multiple k x
weighed (negsuc k) x = neg (multiple (suc k) x)

-- the weights in order, times value j, value j + 1, and so on
unfoldable pub weighed_from : ℕ → List ℤ → (ℕ → Float) → List Float
weighed_from j [] values = []
weighed_from j (w ∷ ws) values = weighed w (values j) ∷ weighed_from (suc j) ws values

-- their sum
unfoldable pub weighed_sum : ℕ → List ℤ → (ℕ → Float) → Float
unfolding total weighed_from
weighed_sum j weights values = total (weighed_from j weights values)
