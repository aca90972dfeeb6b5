-- `rk4_of` is the step that the tableau of classical RK4 describes, of which `rk4_order_four` speaks.
use Rattle.std.specs.Prelude.{◌≡◌, ℕ, zero, suc, cond, List, [], ◌∷◌, ◌++◌, map, pos, ◌==◌, slice_index_or, refl, Float}
use Rattle.std.specs.Float.{binary64}
use Rattle.std.specs.Float.Ieee.{add, mul, div}
use Rattle.vectors.specs.Constants.{whole, nearest_to}
use Rattle.vectors.specs.Grid.{points_of}
use Rattle.vectors.specs.Memory.{tab}
use Rattle.vectors.specs.Stencil.{total}
use Rattle.physics.specs.Equations.{Equations, equations_of, bounded_of}
use Rattle.physics.specs.State.{State}
use Rattle.physics.specs.Rk4.{stored_constraints, state_of, stage_of, weighted_sum_of, rk4_of}
use Rattle.physics.specs.Tableau.{stage_couplings, stage_weights, sum}
use Rattle.physics.specs.Vector.{at, advanced_of}
use Rattle.physics.specs.WeighedSum.{weighed_from, weighed_sum}

-- ---- a stage, by its row of a

-- an entry of a row that is not 0, and the stage whose rates it takes
pub record Coupling : Type 0 where
  pub half_steps : ℕ
  pub stage : ℕ

-- all such entries of a row whose entries are numbered from j on
unfoldable pub couplings_from : ℕ → List ℕ → List Coupling
couplings_from j [] = []
couplings_from j (zero ∷ row) = couplings_from (suc j) row
couplings_from j (suc a ∷ row) = record { half_steps = suc a; stage = j } ∷ couplings_from (suc j) row

-- a/2 of a step; a whole one is the step itself
abbrev pub along : ℕ → Float → Float
along a delta = cond (a == 2) delta (mul binary64 (nearest_to a 2) delta)

-- no numbers, of which every entry counts as NaN
abbrev pub no_rates : Equations
no_rates = record { dt_field = []; dt_conj_momentum = []; dt_alternate_mass = [] }

-- The rates of a stage, where us are those of the stages before. A row of zeros: those at the state, with the constraints that it stores. One entry
-- that is not 0: those as far along the rates of its stage. Classical RK4 has no row with two, and such a row, or an entry for a stage that is
-- not before, has no meaning here: it gives no numbers or NaN.
unfoldable pub stage_by : ℕ → Float → State → List Equations → List Coupling → Equations
stage_by level delta s us [] = equations_of level s.field s.conj_momentum (stored_constraints s)
stage_by level delta s us (c ∷ []) = stage_of level s (along c.half_steps delta) (slice_index_or us c.stage no_rates)
stage_by level delta s us (c ∷ d ∷ more) = no_rates

-- the rates of the stages us, and after them those of the rows
unfoldable pub rates_by : ℕ → Float → State → List Equations → List (List ℕ) → List Equations
unfolding stage_by couplings_from
rates_by level delta s us [] = us
rates_by level delta s us (row ∷ rows) = rates_by level delta s (us ++ (stage_by level delta s us (couplings_from 0 row) ∷ [])) rows

-- ---- the step, by b

-- with b_j as weight j over the sum of the weights: x + (delta / that sum) × (the sum of weight j × u_j), at each of n points
unfoldable pub step_by : ℕ → Float → List Float → List (List Float) → List Float
unfolding sum stage_weights weighed_sum tab advanced_of
step_by n delta xs us =
    advanced_of n (div binary64 delta (whole (sum stage_weights))) xs (tab n (λ i. weighed_sum 0 (map pos stage_weights) (λ j. at (slice_index_or us j []) i)))

unfoldable pub tableau_step : ℕ → Float → State → State
unfolding step_by rates_by state_of bounded_of
tableau_step level delta s =
    let n = points_of level in
    let us = rates_by level delta s [] stage_couplings in
    state_of level (add binary64 s.time delta)
    (bounded_of (step_by n delta s.field (map (λ (u : Equations). u.dt_field) us)))
    (bounded_of (step_by n delta s.conj_momentum (map (λ (u : Equations). u.dt_conj_momentum) us)))
    (step_by n delta s.alternate_mass (map (λ (u : Equations). u.dt_alternate_mass) us))

pub rk4_is_tableau : (level : ℕ) (delta : Float) (s : State) → rk4_of level delta s ≡ tableau_step level delta s
unfolding rk4_of tableau_step step_by rates_by stage_by couplings_from weighed_sum weighed_from total stage_couplings stage_weights sum weighted_sum_of
rk4_is_tableau level delta s = refl
