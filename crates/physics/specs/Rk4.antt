-- Classical RK4 (01, "Stage and step"; `rk4_step` of integration.rs), on the grid of a level. Definitions only.
use Rattle.std.specs.Prelude.{ℕ, List, Float}
use Rattle.std.specs.Float.{binary64}
use Rattle.std.specs.Float.Ieee.{add, mul, div}
use Rattle.vectors.specs.Constants.{whole}
use Rattle.vectors.specs.Grid.{points_of}
use Rattle.vectors.specs.Memory.{tab}
use Rattle.physics.specs.Constraints.{Constraints, half, constraints_of}
use Rattle.physics.specs.Equations.{Equations, equations_of, bounded_of}
use Rattle.physics.specs.State.{State}
use Rattle.physics.specs.Vector.{at, advanced_of}

-- the constraints that a state stores
abbrev pub stored_constraints : State → Constraints
stored_constraints s =
    record { energy_density = s.energy_density; mass = s.mass; radial_factor = s.radial_factor; lapse = s.lapse; char_speed = s.char_speed }

-- `build_subsequent_state`: the constraints are those of the field and the momentum
unfoldable pub state_of : ℕ → Float → List Float → List Float → List Float → State
unfolding constraints_of
state_of level time field momentum alternate_mass =
    let c = constraints_of level field momentum in
    record {
      time = time;
      field = field;
      conj_momentum = momentum;
      alternate_mass = alternate_mass;
      energy_density = c.energy_density;
      mass = c.mass;
      radial_factor = c.radial_factor;
      lapse = c.lapse;
      char_speed = c.char_speed;
    }

-- the rates at the state that is c along the rates u from s, with boundary values and their constraints
unfoldable pub stage_of : ℕ → State → Float → Equations → Equations
unfolding equations_of constraints_of bounded_of advanced_of
stage_of level s c u =
    let field = bounded_of (advanced_of (points_of level) c s.field u.dt_field) in
    let momentum = bounded_of (advanced_of (points_of level) c s.conj_momentum u.dt_conj_momentum) in
    equations_of level field momentum (constraints_of level field momentum)

-- "The sums run ((u1 + 2u2) + 2u3) + u4"
unfoldable pub weighted_sum_of : ℕ → List Float → List Float → List Float → List Float → List Float
unfolding tab
weighted_sum_of n u₁ u₂ u₃ u₄ =
    tab n (λ i. add binary64 (add binary64 (add binary64 (at u₁ i) (mul binary64 (whole 2) (at u₂ i))) (mul binary64 (whole 2) (at u₃ i))) (at u₄ i))

-- the state a step of delta after s: the first stage takes the constraints that s stores; the sums are taken "times (delta/6)"
unfoldable pub rk4_of : ℕ → Float → State → State
unfolding stage_of state_of weighted_sum_of
rk4_of level delta s =
    let n = points_of level in
    let u₁ = equations_of level s.field s.conj_momentum (stored_constraints s) in
    let u₂ = stage_of level s (mul binary64 half delta) u₁ in
    let u₃ = stage_of level s (mul binary64 half delta) u₂ in
    let u₄ = stage_of level s delta u₃ in
    let c = div binary64 delta (whole 6) in
    state_of level (add binary64 s.time delta)
    (bounded_of (advanced_of n c s.field (weighted_sum_of n u₁.dt_field u₂.dt_field u₃.dt_field u₄.dt_field)))
    (bounded_of (advanced_of n c s.conj_momentum (weighted_sum_of n u₁.dt_conj_momentum u₂.dt_conj_momentum u₃.dt_conj_momentum u₄.dt_conj_momentum)))
    (advanced_of n c s.alternate_mass (weighted_sum_of n u₁.dt_alternate_mass u₂.dt_alternate_mass u₃.dt_alternate_mass u₄.dt_alternate_mass))
