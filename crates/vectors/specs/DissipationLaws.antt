-- The dissipation by passes over whole vectors.
use Rattle.std.specs.Prelude.{◌≡◌, refl, List, ℕ, ◌<◌, length, get_or, Float}
use Rattle.std.proofs.Common.{sym, ap, arith}
use Rattle.std.specs.Float.{nan, binary64}
use Rattle.std.specs.Float.Ieee.{mul, div, of_bits, of_int}
use Rattle.vectors.specs.Constants.{whole, constant_bits}
use Rattle.vectors.specs.Dissipation.{radial_correction_of, half_dissipation_at, half_dissipation_of, dissipation_scale, dissipation_at, dissipation_of}
use Rattle.vectors.specs.Grid.{spacing_of, point_of}
use Rattle.vectors.specs.Memory.{tab}
use Rattle.vectors.specs.MemoryLaws.{length_tab, get_d_tab, tab_same}
use Rattle.vectors.specs.Stencil.{diff3_at, diff3_of}
use Rattle.vectors.specs.StencilLaws.{length-diff3_of}

-- c × u
unfoldable pub corrected_by : ℕ → List Float → List Float
unfolding tab
corrected_by level xs = tab (length xs) (λ i. mul binary64 (radial_correction_of (point_of level i)) (get_or xs i nan))

-- factor × u
unfoldable pub scaled_by : Float → List Float → List Float
unfolding tab
scaled_by factor xs = tab (length xs) (λ i. mul binary64 factor (get_or xs i nan))

diff3_at_lem : (xs : List Float) (i : ℕ) → i < length xs → get_or (diff3_of xs) i nan ≡ diff3_at xs i
unfolding diff3_of
diff3_at_lem xs i h = get_d_tab (length xs) (diff3_at xs) i nan h

pub corrected_is : (level : ℕ) (xs : List Float) → corrected_by level (diff3_of xs) ≡ half_dissipation_of level xs
unfolding corrected_by half_dissipation_of half_dissipation_at
corrected_is level xs =
    rw (length-diff3_of xs) (tab_same (length xs) _ _ nan (λ i h. ap (mul binary64 (radial_correction_of (point_of level i))) (diff3_at_lem xs i h)))

pub length_half : (level : ℕ) (xs : List Float) → length (half_dissipation_of level xs) ≡ length xs
unfolding half_dissipation_of
length_half level xs = length_tab (length xs) (half_dissipation_at level xs)

pub scaled_is : (level : ℕ) (xs : List Float) → scaled_by (dissipation_scale (spacing_of level)) (diff3_of (half_dissipation_of level xs)) ≡ dissipation_of level xs
unfolding scaled_by dissipation_of dissipation_at
scaled_is level xs =
    let hs = half_dissipation_of level xs in
    let l = length_half level xs in
    rw (length-diff3_of hs, l) (tab_same (length xs) _ _ nan (λ i h. ap (mul binary64 (dissipation_scale (spacing_of level))) (diff3_at_lem hs i (omega arith))))

sixty_four_lem : of_bits binary64 0x4050000000000000 ≡ whole 64
unfolding of_bits of_int
sixty_four_lem = refl

-- the factor as code writes it
pub scale_is : (h : Float) → div binary64 (div binary64 (of_bits binary64 0x3F847AE147AE147B) h) (of_bits binary64 0x4050000000000000) ≡ dissipation_scale h
unfolding dissipation_scale
scale_is h = rw (sym constant_bits.5, sixty_four_lem)
