-- The definitions of constraints, state, stage and step as equations, so that a proof opens one of them at a time.
use Rattle.std.specs.Prelude.{ℕ, List, map, ◌≡◌, refl, Float}
use Rattle.std.specs.Float.{binary64}
use Rattle.std.specs.Float.Ieee.{add, mul, div}
use Rattle.vectors.specs.Constants.{whole}
use Rattle.vectors.specs.Exp.{exp_of}
use Rattle.vectors.specs.Grid.{points_of, spacing_of}
use Rattle.vectors.specs.Memory.{tab}
use Rattle.physics.specs.Constraints.{Constraints, half, constraints_of, radial_gradient_of, integrand_of, normalised_of, lapse_of}
use Rattle.physics.specs.Constraints.{energy_density_of, radial_factor_of, mass_of, char_speed_of}
use Rattle.physics.specs.Equations.{Equations, equations_of, dt_field_of, dt_conj_momentum_of, dt_alternate_mass_of, bounded_of}
use Rattle.physics.specs.InitialState.{wave_profile_of, initial_state_of}
use Rattle.physics.specs.Integral.{integral_of}
use Rattle.physics.specs.Rk4.{stored_constraints, state_of, stage_of, weighted_sum_of, rk4_of}
use Rattle.physics.specs.State.{State}
use Rattle.physics.specs.Vector.{advanced_of}

pub lapse_is :
    (level : ℕ) (gradient momentum : List Float) →
    lapse_of level gradient momentum ≡ normalised_of (map exp_of (integral_of (spacing_of level) (integrand_of level gradient momentum)))
unfolding lapse_of
lapse_is level gradient momentum = refl

pub constraints_is :
    (level : ℕ) (field momentum : List Float) →
    let gradient = radial_gradient_of level field in
    let lapse = lapse_of level gradient momentum in
    let radial_factor = radial_factor_of level lapse in
    constraints_of level field momentum
    ≡ record {
      energy_density = energy_density_of level gradient momentum;
      mass = mass_of level radial_factor;
      radial_factor = radial_factor;
      lapse = lapse;
      char_speed = char_speed_of level radial_factor lapse;
    }
unfolding constraints_of
constraints_is level field momentum = refl

pub state_is :
    (level : ℕ) (time : Float) (field momentum alternate_mass : List Float) →
    let c = constraints_of level field momentum in
    state_of level time field momentum alternate_mass
    ≡ record {
      time = time;
      field = field;
      conj_momentum = momentum;
      alternate_mass = alternate_mass;
      energy_density = c.energy_density;
      mass = c.mass;
      radial_factor = c.radial_factor;
      lapse = c.lapse;
      char_speed = c.char_speed;
    }
unfolding state_of
state_is level time field momentum alternate_mass = refl

pub initial_is :
    (level : ℕ) (amplitude : Float) →
    let field = tab (points_of level) (λ i. whole 0) in
    let momentum = wave_profile_of level amplitude in
    initial_state_of level amplitude ≡ state_of level (whole 0) field momentum (constraints_of level field momentum).mass
unfolding initial_state_of
initial_is level amplitude = refl

pub equations_is :
    (level : ℕ) (field momentum : List Float) (c : Constraints) →
    equations_of level field momentum c
    ≡ record {
      dt_field = dt_field_of level field momentum c;
      dt_conj_momentum = dt_conj_momentum_of level field momentum c;
      dt_alternate_mass = dt_alternate_mass_of level field momentum c;
    }
unfolding equations_of
equations_is level field momentum c = refl

pub stage_is :
    (level : ℕ) (s : State) (c : Float) (u : Equations) →
    let field = bounded_of (advanced_of (points_of level) c s.field u.dt_field) in
    let momentum = bounded_of (advanced_of (points_of level) c s.conj_momentum u.dt_conj_momentum) in
    stage_of level s c u ≡ equations_of level field momentum (constraints_of level field momentum)
unfolding stage_of
stage_is level s c u = refl

pub step_is :
    (level : ℕ) (delta : Float) (s : State) →
    let n = points_of level in
    let u₁ = equations_of level s.field s.conj_momentum (stored_constraints s) in
    let u₂ = stage_of level s (mul binary64 half delta) u₁ in
    let u₃ = stage_of level s (mul binary64 half delta) u₂ in
    let u₄ = stage_of level s delta u₃ in
    let c = div binary64 delta (whole 6) in
    rk4_of level delta s
    ≡ state_of level (add binary64 s.time delta)
    (bounded_of (advanced_of n c s.field (weighted_sum_of n u₁.dt_field u₂.dt_field u₃.dt_field u₄.dt_field)))
    (bounded_of
    (advanced_of n c s.conj_momentum
    (weighted_sum_of n u₁.dt_conj_momentum u₂.dt_conj_momentum u₃.dt_conj_momentum u₄.dt_conj_momentum)))
    (advanced_of n c s.alternate_mass
    (weighted_sum_of n u₁.dt_alternate_mass u₂.dt_alternate_mass u₃.dt_alternate_mass u₄.dt_alternate_mass))
unfolding rk4_of
step_is level delta s = refl

-- whatever the delta is, it is added to the time
pub step_time : (level : ℕ) (delta : Float) (s : State) → (rk4_of level delta s).time ≡ add binary64 s.time delta
unfolding rk4_of
step_time level delta s = refl
