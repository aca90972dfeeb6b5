-- The dissipation of diff.rs: Kreiss-Oliger with a radial correction c, as D(c × D u), D the third difference. Definitions only.
use Rattle.std.specs.Prelude.{List, ℕ, length, Float}
use Rattle.std.specs.Float.{binary64}
use Rattle.std.specs.Float.Ieee.{sub, mul, div}
use Rattle.vectors.specs.Constants.{whole, dissipation_factor}
use Rattle.vectors.specs.Grid.{spacing_of, point_of}
use Rattle.vectors.specs.Memory.{tab}
use Rattle.vectors.specs.Powers.{square_of, fourth_power_of}
use Rattle.vectors.specs.Stencil.{diff3_at}

-- c at coordinate r: (1 - r²)⁴
unfoldable pub radial_correction_of : Float → Float
radial_correction_of r = fourth_power_of (sub binary64 (whole 1) (square_of r))

-- c × D u at point i
unfoldable pub half_dissipation_at : ℕ → List Float → ℕ → Float
unfolding radial_correction_of point_of diff3_at
half_dissipation_at level xs i = mul binary64 (radial_correction_of (point_of level i)) (diff3_at xs i)

unfoldable pub half_dissipation_of : ℕ → List Float → List Float
unfolding half_dissipation_at tab
half_dissipation_of level xs = tab (length xs) (half_dissipation_at level xs)

-- (0.01 / h) / 64
unfoldable pub dissipation_scale : Float → Float
unfolding dissipation_factor
dissipation_scale h = div binary64 (div binary64 dissipation_factor h) (whole 64)

-- that times D(c × D u) at point i
unfoldable pub dissipation_at : ℕ → List Float → ℕ → Float
unfolding dissipation_scale half_dissipation_of spacing_of
dissipation_at level xs i = mul binary64 (dissipation_scale (spacing_of level)) (diff3_at (half_dissipation_of level xs) i)

unfoldable pub dissipation_of : ℕ → List Float → List Float
unfolding dissipation_at
dissipation_of level xs = tab (length xs) (dissipation_at level xs)
