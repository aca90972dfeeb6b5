-- What the functions that write a frame ask and leave, and that it is the frame.
use Rattle.run.specs.WriteLaws.{Wrote, wrote_both}
use Rattle.vectors.specs.MemoryLaws.{length_tab}
use Rattle.std.specs.Prelude.{[], length, refl, ◌≡◌, ℕ, ◌+◌, ◌-◌, ◌*◌, ◌^◌, ◌<◌, ◌≤◌, List, ◌∷◌, ◌++◌, slice_index_or, Float}
use Rattle.std.proofs.Common.{arith, length-append, append_assoc}
use Rattle.std.specs.Float.{nan}
use Rattle.vectors.specs.Grid.{points_of, spacing_of}
use Rattle.vectors.specs.GridLaws.{Level}
use Rattle.vectors.specs.Memory.{tab, part}
use Rattle.vectors.specs.Stencil.{diff_of}
use Rattle.physics.specs.State.{state_in}
use Rattle.physics.specs.TotalEnergy.{last_of, total_energy_of}
use Rattle.run.specs.declared.settings.Settings.{Settings}
use Rattle.run.specs.Frames.{samples_of, frame_size_of, sample_of, frame_of}
use Rattle.run.specs.FramesLaws.{sample_inside}
use Rattle.run.specs.InputsLaws.{Accepted}

-- ---- samples by their step and count
abbrev pub every_of : ℕ → ℕ → List Float → List Float
every_of step count xs = tab count (λ j. slice_index_or xs (j * step) nan)

-- every one of them is one of n numbers
pub record Sampling (n step count : ℕ) : Type 0 where
  pub inside : (j : ℕ) → j < count → j * step < n

pub sampling_points : {s : Settings} → Accepted s → Sampling (points_of s.level) (2 ^ (s.level - s.dx_level)) (samples_of s.dx_level)
sampling_points a = record { inside = sample_inside a }

-- ---- a frame in three groups, of a state whose vectors of n numbers each stand in a memory
module _ (n step count : ℕ) (state : List Float) where
  -- samples of vector k
  abbrev pub vector_samples : ℕ → List Float
  vector_samples k = every_of step count (part (k * n) n state)

  -- field, radial gradient, momentum
  abbrev pub fields_of : List Float → List Float
  fields_of gradient = vector_samples 0 ++ (every_of step count gradient ++ vector_samples 1)

  -- mass, radial factor, lapse, char speed, energy density
  abbrev pub constraints_of : List Float
  constraints_of = vector_samples 4 ++ (vector_samples 5 ++ (vector_samples 6 ++ (vector_samples 7 ++ vector_samples 3)))

  -- total energy, alternate mass
  abbrev pub energy_of : List Float
  energy_of = last_of (part (4 * n) n state) ∷ vector_samples 2

  -- the time and the three
  abbrev pub output_of : Float → List Float → List Float
  output_of time gradient = time ∷ (fields_of gradient ++ (constraints_of ++ energy_of))

  length_fields : (gradient : List Float) → length (fields_of gradient) ≡ 3 * count
  length_fields gradient = simp (length-append, length_tab) (omega arith)

  length_constraints : length constraints_of ≡ 5 * count
  length_constraints = simp (length-append, length_tab) (omega arith)

  -- written one after another
  pub wrote_output : {at b c d : ℕ} {xs₀ xs₁ xs₂ xs₃ xs₄ : List Float} (time : Float) (gradient : List Float)
      → Wrote at (time ∷ []) xs₀ xs₁ → Wrote b (fields_of gradient) xs₁ xs₂ → Wrote c constraints_of xs₂ xs₃ → Wrote d energy_of xs₃ xs₄
      → b ≡ at + 1 → c ≡ b + 3 * count → d ≡ c + 5 * count → Wrote at (output_of time gradient) xs₀ xs₄
  wrote_output time gradient t f g e p q r = wrote_both t (wrote_both f (wrote_both g e length_constraints r) (length_fields gradient) q) refl p

-- of a state in memory
pub output_frame : (s : Settings) (time : Float) (state : List Float) → let n = points_of s.level in
    output_of n (2 ^ (s.level - s.dx_level)) (samples_of s.dx_level) state time (diff_of (spacing_of s.level) (part (0 * n) n state)) ≡ frame_of s (state_in n time state)
unfolding frame_of sample_of state_in total_energy_of
output_frame s time state = simp append_assoc

-- where the radial gradient can be taken: a field of n points, and room for as many numbers from a place on
pub record GradientRoom (level n state_length work_length from : ℕ) : Type 0 where
  pub ranged : Level level
  pub points : n ≡ points_of level
  pub state : n ≤ state_length
  pub work : from + n ≤ work_length

-- where a frame can be written: settings without fault, and room in the three memories
pub record FrameRoom (s : Settings) (state_length work_length frames_length at : ℕ) : Type 0 where
  pub settings : Accepted s
  pub state : 8 * points_of s.level ≤ state_length
  pub work : 40 * points_of s.level ≤ work_length
  pub frames : at + frame_size_of s ≤ frames_length
