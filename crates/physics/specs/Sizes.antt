-- The states that a run makes have n numbers in each vector.
use Rattle.std.specs.Prelude.{◌≡◌, ℕ, List, length, Float}
use Rattle.std.proofs.Math.Path.{refl}
use Rattle.std.proofs.Common.{◌∙◌}
use Rattle.std.proofs.lemmas.List.{length-map}
use Rattle.std.specs.Float.Ieee.{binary64, add, mul, div, of_bits, of_int}
use Rattle.vectors.specs.Constants.{whole}
use Rattle.vectors.specs.Grid.{points_of}
use Rattle.vectors.specs.MemoryLaws.{length_tab}
use Rattle.physics.specs.Constraints.{half, constraints_of, radial_gradient_of, lapse_of, normalised_of, integrand_of, energy_density_of, radial_factor_of, mass_of, char_speed_of}
use Rattle.physics.specs.BoundaryLaws.{length-bounded_of}
use Rattle.physics.specs.InitialState.{initial_state_of, wave_profile_of}
use Rattle.physics.specs.Integral.{integral_of}
use Rattle.physics.specs.Rk4.{rk4_of, state_of, stage_of, stored_constraints, weighted_sum_of}
use Rattle.physics.specs.State.{State}
use Rattle.physics.specs.StateLaws.{Sized}
use Rattle.physics.specs.Equations.{equations_of, bounded_of}
use Rattle.physics.specs.Vector.{advanced_of}
use Rattle.physics.specs.VectorLaws.{length-advanced_of}

length_lapse : (level : ℕ) (gradient momentum : List Float) → length (lapse_of level gradient momentum) ≡ points_of level
unfolding lapse_of normalised_of integral_of integrand_of
length_lapse level gradient momentum = simp (length-map, length_tab)

module _ (level : ℕ) where
  -- a state made of vectors of n numbers
  sized_made : (time : Float) (field momentum alternate_mass : List Float) → length field ≡ points_of level → length momentum ≡ points_of level → length alternate_mass ≡ points_of level
      → Sized (points_of level) (state_of level time field momentum alternate_mass)
  unfolding state_of constraints_of energy_density_of mass_of radial_factor_of char_speed_of
  sized_made time field momentum alternate_mass f p a =
      record {
        field = f;
        conj_momentum = p;
        alternate_mass = a;
        energy_density = length_tab (points_of level) _;
        mass = length_tab (points_of level) _;
        radial_factor = length_tab (points_of level) _;
        lapse = length_lapse level (radial_gradient_of level field) momentum;
        char_speed = length_tab (points_of level) _;
      }

  -- the state that a step makes, whatever the rates are
  sized_after : (time c : Float) (f p a us vs ws : List Float) → let n = points_of level in
      Sized n (state_of level time (bounded_of (advanced_of n c f us)) (bounded_of (advanced_of n c p vs)) (advanced_of n c a ws))
  sized_after time c f p a us vs ws =
      let n = points_of level in
      sized_made time _ _ _
      (length-bounded_of (advanced_of n c f us) ∙ length-advanced_of n c f us)
      (length-bounded_of (advanced_of n c p vs) ∙ length-advanced_of n c p vs)
      (length-advanced_of n c a ws)

  -- whatever state it starts from
  pub sized_step : (delta : Float) (s : State) → Sized (points_of level) (rk4_of level delta s)
  unfolding rk4_of
  sized_step delta s =
      let n = points_of level in
      let u₁ = equations_of level s.field s.conj_momentum (stored_constraints s) in
      let u₂ = stage_of level s (mul binary64 half delta) u₁ in
      let u₃ = stage_of level s (mul binary64 half delta) u₂ in
      let u₄ = stage_of level s delta u₃ in
      sized_after (add binary64 s.time delta) (div binary64 delta (whole 6)) s.field s.conj_momentum s.alternate_mass
      (weighted_sum_of n u₁.dt_field u₂.dt_field u₃.dt_field u₄.dt_field)
      (weighted_sum_of n u₁.dt_conj_momentum u₂.dt_conj_momentum u₃.dt_conj_momentum u₄.dt_conj_momentum)
      (weighted_sum_of n u₁.dt_alternate_mass u₂.dt_alternate_mass u₃.dt_alternate_mass u₄.dt_alternate_mass)

  pub sized_initial : (amplitude : Float) → Sized (points_of level) (initial_state_of level amplitude)
  unfolding initial_state_of wave_profile_of constraints_of mass_of
  sized_initial amplitude = sized_made _ _ _ _ (length_tab (points_of level) _) (length_tab (points_of level) _) (length_tab (points_of level) _)

  pub initial_time : (amplitude : Float) → (initial_state_of level amplitude).time ≡ of_bits binary64 0x0
  unfolding initial_state_of state_of of_bits of_int
  initial_time amplitude = refl
