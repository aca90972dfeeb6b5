-- Frames (01, "Frames"; state_output_builder.rs, state_output.rs, output_config.rs). Definitions only.
use Rattle.std.specs.Prelude.{ℕ, ◌+◌, ◌-◌, ◌*◌, ◌^◌, cond, List, ◌∷◌, ◌++◌, nat_le, slice_index_or, Float}
use Rattle.std.specs.Float.{nan}
use Rattle.vectors.specs.Grid.{spacing_of}
use Rattle.vectors.specs.Memory.{tab}
use Rattle.vectors.specs.Stencil.{diff_of}
use Rattle.physics.specs.State.{State}
use Rattle.physics.specs.TotalEnergy.{total_energy_of}
use Rattle.run.specs.declared.settings.Settings.{Settings}

-- samples of a vector at a dx level: 2^d + 1; none above 16, where no settings are without fault
unfoldable pub samples_of : ℕ → ℕ
samples_of dx = cond (nat_le dx 16) (2 ^ dx + 1) 0

-- "A frame is F = 2 + 9 × (2^d + 1) numbers"; 0 for a dx level above 16
unfoldable pub frame_size_at : ℕ → ℕ
frame_size_at dx = cond (nat_le dx 16) (2 + 9 * (2 ^ dx + 1)) 0

abbrev pub frame_size_of : Settings → ℕ
frame_size_of s = frame_size_at s.dx_level

-- "Sample j is point j × 2^(L - d), where d is the dx level, for j = 0 to 2^d."
unfoldable pub sample_of : ℕ → ℕ → List Float → List Float
unfolding samples_of tab
sample_of level dx xs = tab (samples_of dx) (λ j. slice_index_or xs (j * 2 ^ (level - dx)) nan)

-- at full resolution
abbrev pub radial_gradient_of : Settings → State → List Float
radial_gradient_of s a = diff_of (spacing_of s.level) a.field

abbrev pub sampled_by : Settings → List Float → List Float
sampled_by s xs = sample_of s.level s.dx_level xs

-- "in the field order of `StateOutput`"
unfoldable pub frame_of : Settings → State → List Float
frame_of s a =
    a.time
    ∷ (sampled_by s a.field
    ++ (sampled_by s (radial_gradient_of s a)
    ++ (sampled_by s a.conj_momentum
    ++ (sampled_by s a.mass
    ++ (sampled_by s a.radial_factor
    ++ (sampled_by s a.lapse
    ++ (sampled_by s a.char_speed
    ++ (sampled_by s a.energy_density
    ++ (total_energy_of a
    ∷ sampled_by s a.alternate_mass)))))))))
