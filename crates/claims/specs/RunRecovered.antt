-- The floats that a text of digits and a frame's line stand for. That what a run prints gives its floats back is proved in proofs/RunRecovered.antt.
use Rattle.std.specs.Prelude.{ℕ, ◌+◌, ◌*◌, List, Float, take, drop}
use Rattle.std.specs.Float.{binary64}
use Rattle.std.specs.Float.Ieee.{of_bits}
use Rattle.vectors.specs.Memory.{tab}
use Rattle.claims.specs.Recovered.{value_of}

-- the float of 16 hexadecimal digits
abbrev pub float_of : List ℕ → Float
float_of text = of_bits binary64 (value_of 16 text)

-- the first n floats of a frame's line: behind `frame` and a space, 16 digits and a space each
unfoldable pub floats_in : ℕ → List ℕ → List Float
floats_in n line = tab n (λ i. float_of (take 16 (drop (6 + 17 * i) line)))
