-- The slots after the passes of a step are the state that `rk4_of` defines.
use Rattle.std.specs.Prelude.{◌≡◌, ℕ, ◌*◌, ◌≤◌, List, ◌++◌, length, take, drop, Float}
use Rattle.std.proofs.Math.Path.{refl, ap}
use Rattle.std.proofs.Common.{◌∙◌}
use native.Mathlib.Omega.{arith}
use Rattle.std.specs.Float.{nan, binary64}
use Rattle.std.specs.Float.Ieee.{add, sub, mul, div, of_int}
use Rattle.vectors.specs.Constants.{whole}
use Rattle.vectors.specs.Grid.{points_of, spacing_of, point_of}
use Rattle.vectors.specs.GridLaws.{point_out}
use Rattle.vectors.specs.Dissipation.{radial_correction_of}
use Rattle.vectors.specs.Memory.{tab, part}
use Rattle.vectors.specs.MemoryLaws.{length_tab, get_d_tab}
use Rattle.physics.specs.Constraints.{half, radial_gradient_of, constraints_of}
use Rattle.physics.specs.Equations.{Equations, equations_of, bounded_of}
use Rattle.physics.specs.State.{State, lay_out}
use Rattle.physics.specs.Rk4.{stored_constraints, state_of, stage_of, weighted_sum_of, rk4_of}
use Rattle.physics.specs.NeighbourLaws.{one_more}
use Rattle.physics.specs.Passes.{Room, Ready, gradients, grids}
use Rattle.physics.specs.PassLaws.{renamed}
use Rattle.physics.specs.SlotNumbers.{field_slot, momentum_slot, alternate_mass_slot, energy_density_slot, mass_slot, radial_factor_slot, lapse_slot, char_speed_slot, gradient_slot, dt_field_slot, dt_momentum_slot, dt_mass_slot, field_sum_slot, momentum_sum_slot, mass_sum_slot, points_slot, correction_slot}
use Rattle.physics.specs.Slots.{Slots, slots, upd, Became}
use Rattle.physics.specs.StepPasses.{advanced_by_sum, doubles, first_stages, stages, doubled_stages, lasts, steps}
use Rattle.physics.specs.Vector.{at, advanced_of}
use Rattle.physics.specs.VectorLaws.{tab_same, tab_at}

-- ---- a step on slots, by the definitions

-- a state of eight slots
abbrev pub state_of_slots : Float → Slots → State
state_of_slots time S =
    record { time = time; field = S field_slot; conj_momentum = S momentum_slot; alternate_mass = S alternate_mass_slot; energy_density = S energy_density_slot; mass = S mass_slot; radial_factor = S radial_factor_slot; lapse = S lapse_slot; char_speed = S char_speed_slot }

abbrev rates_in : Slots → Equations
rates_in S = record { dt_field = S dt_field_slot; dt_conj_momentum = S dt_momentum_slot; dt_alternate_mass = S dt_mass_slot }

abbrev sums_in : Slots → Equations
sums_in S = record { dt_field = S field_sum_slot; dt_conj_momentum = S momentum_sum_slot; dt_alternate_mass = S mass_sum_slot }

-- a + 2 u
unfoldable plus_twice : ℕ → Equations → Equations → Equations
plus_twice n a u =
    record {
      dt_field = advanced_of n (whole 2) a.dt_field u.dt_field;
      dt_conj_momentum = advanced_of n (whole 2) a.dt_conj_momentum u.dt_conj_momentum;
      dt_alternate_mass = advanced_of n (whole 2) a.dt_alternate_mass u.dt_alternate_mass;
    }

-- rates and sums
record Holds (u a : Equations) (S : Slots) : Type 0 where
  rates : rates_in S ≡ u
  sums : sums_in S ≡ a

doubles_same : (n : ℕ) (S : Slots) → Holds (rates_in S) (plus_twice n (sums_in S) (rates_in S)) (doubles n S)
unfolding plus_twice
doubles_same n S = record { rates = refl; sums = refl }

doubles_hold : (n : ℕ) {u a : Equations} {S : Slots} → Holds u a S → Holds u (plus_twice n a u) (doubles n S)
doubles_hold n {u} {a} {S} H =
    let e : plus_twice n (sums_in S) (rates_in S) ≡ plus_twice n a u = cc (H.rates, H.sums) in
    record { rates = (doubles_same n S).rates ∙ H.rates; sums = (doubles_same n S).sums ∙ e }

-- the next state of the last rates u and the sums a before them
unfoldable end_of : ℕ → Float → Float → State → Equations → Equations → State
end_of level time c s a u =
    let n = points_of level in
    state_of level time
    (bounded_of (advanced_by_sum n c s.field a.dt_field u.dt_field))
    (bounded_of (advanced_by_sum n c s.conj_momentum a.dt_conj_momentum u.dt_conj_momentum))
    (advanced_by_sum n c s.alternate_mass a.dt_alternate_mass u.dt_alternate_mass)

module _ (level : ℕ) (time : Float) (T : Slots) where
  first_stage_holds : (S : Slots) → let s = state_of_slots time T in let u = equations_of level s.field s.conj_momentum (stored_constraints s) in Holds u u (first_stages level T S)
  unfolding equations_of
  first_stage_holds S = record { rates = refl; sums = refl }

  stage_same : (c : Float) (S : Slots) → Holds (stage_of level (state_of_slots time T) c (rates_in S)) (sums_in S) (stages level (points_of level) c T S)
  unfolding stage_of equations_of constraints_of
  stage_same c S = record { rates = refl; sums = refl }

  last_same : (c next : Float) (S : Slots) → state_of_slots next (lasts level (points_of level) c T S) ≡ end_of level next c (state_of_slots time T) (sums_in S) (rates_in S)
  unfolding end_of state_of constraints_of
  last_same c next S = refl

  stage_holds : (c : Float) {u a : Equations} {S : Slots} → Holds u a S → Holds (stage_of level (state_of_slots time T) c u) a (stages level (points_of level) c T S)
  stage_holds c {u} {a} {S} H = record { rates = (stage_same c S).rates ∙ ap (stage_of level (state_of_slots time T) c) H.rates; sums = (stage_same c S).sums ∙ H.sums }

  doubled_holds : (c : Float) {u a : Equations} {S : Slots} → Holds u a S
      → let v = stage_of level (state_of_slots time T) c u in Holds v (plus_twice (points_of level) a v) (doubled_stages level (points_of level) c T S)
  doubled_holds c H = doubles_hold (points_of level) (stage_holds c H)

  last_holds : (c next : Float) {u a : Equations} {S : Slots} → Holds u a S → state_of_slots next (lasts level (points_of level) c T S) ≡ end_of level next c (state_of_slots time T) a u
  last_holds c next {u} {a} {S} H =
      let e : end_of level next c (state_of_slots time T) (sums_in S) (rates_in S) ≡ end_of level next c (state_of_slots time T) a u = cc (H.rates, H.sums) in
      last_same c next S ∙ e

-- the sums that the passes make
sum_same : (n : ℕ) (c : Float) (xs u₁ u₂ u₃ u₄ : List Float) → advanced_by_sum n c xs (advanced_of n (whole 2) (advanced_of n (whole 2) u₁ u₂) u₃) u₄ ≡ advanced_of n c xs (weighted_sum_of n u₁ u₂ u₃ u₄)
unfolding advanced_by_sum advanced_of weighted_sum_of
sum_same n c xs u₁ u₂ u₃ u₄ = tab_same n _ _ (λ j l. rw (get_d_tab n _ j nan l, get_d_tab n _ j nan l, get_d_tab n _ j nan l))

end_is : (level : ℕ) (time c : Float) (s : State) (u₁ u₂ u₃ u₄ : Equations) → let n = points_of level in
    end_of level time c s (plus_twice n (plus_twice n u₁ u₂) u₃) u₄
    ≡ state_of level time
    (bounded_of (advanced_of n c s.field (weighted_sum_of n u₁.dt_field u₂.dt_field u₃.dt_field u₄.dt_field)))
    (bounded_of (advanced_of n c s.conj_momentum (weighted_sum_of n u₁.dt_conj_momentum u₂.dt_conj_momentum u₃.dt_conj_momentum u₄.dt_conj_momentum)))
    (advanced_of n c s.alternate_mass (weighted_sum_of n u₁.dt_alternate_mass u₂.dt_alternate_mass u₃.dt_alternate_mass u₄.dt_alternate_mass))
unfolding end_of plus_twice
end_is level time c s u₁ u₂ u₃ u₄ =
    let n = points_of level in
    rw (
      sum_same n c s.field u₁.dt_field u₂.dt_field u₃.dt_field u₄.dt_field,
      sum_same n c s.conj_momentum u₁.dt_conj_momentum u₂.dt_conj_momentum u₃.dt_conj_momentum u₄.dt_conj_momentum,
      sum_same n c s.alternate_mass u₁.dt_alternate_mass u₂.dt_alternate_mass u₃.dt_alternate_mass u₄.dt_alternate_mass,
    )

-- the eight slots after a step
pub step_is : (level : ℕ) (time delta : Float) (T S : Slots) → state_of_slots (add binary64 time delta) (steps level (points_of level) delta T S) ≡ rk4_of level delta (state_of_slots time T)
unfolding rk4_of
step_is level time delta T S =
    let s = state_of_slots time T in
    let c = mul binary64 half delta in
    last_holds level time T (div binary64 delta (whole 6)) (add binary64 time delta)
    (stage_holds level time T delta (doubled_holds level time T c (doubled_holds level time T c (first_stage_holds level time T S))))
    ∙ end_is level (add binary64 time delta) (div binary64 delta (whole 6)) s _ _ _ _

-- ---- the eight slots one after another

module _ (n : ℕ) (w : List Float) where
  pub slots_front : (time : Float) → take (8 * n) w ≡ lay_out (state_of_slots time (slots n w))
  unfolding lay_out slots part
  slots_front time =
      let z : 0 * n ≡ 0 = omega arith in
      let o : 1 * n ≡ n = omega arith in
      let s : take (8 * n) w ≡ take (8 * n) (drop (0 * n) w) = rw z in
      let l : take (1 * n) (drop (7 * n) w) ≡ slots n w char_speed_slot = ap (λ (j : ℕ). take j (drop (7 * n) w)) o in
      s ∙ one_more n w 0 7
      ∙ ap (λ (x : List Float). slots n w field_slot ++ x) (one_more n w 1 6
      ∙ ap (λ (x : List Float). slots n w momentum_slot ++ x) (one_more n w 2 5
      ∙ ap (λ (x : List Float). slots n w alternate_mass_slot ++ x) (one_more n w 3 4
      ∙ ap (λ (x : List Float). slots n w energy_density_slot ++ x) (one_more n w 4 3
      ∙ ap (λ (x : List Float). slots n w mass_slot ++ x) (one_more n w 5 2
      ∙ ap (λ (x : List Float). slots n w radial_factor_slot ++ x) (one_more n w 6 1
      ∙ ap (λ (x : List Float). slots n w lapse_slot ++ x) l))))))

-- ---- the grid

correction_nan : radial_correction_of nan ≡ nan
unfolding radial_correction_of sub mul of_int
correction_nan = refl

past : (level n : ℕ) → n ≡ points_of level → (i : ℕ) → n ≤ i → point_of level i ≡ nan
past level n p i h = point_out level i (rw p at h)

pub grid_points : (level n : ℕ) → n ≡ points_of level → at (tab n (point_of level)) ≡ point_of level
grid_points level n p = tab_at n (point_of level) (past level n p)

pub grid_ready : (level n : ℕ) (w w' : List Float) → n ≡ points_of level → Room n (length w) → Became n (grids level n) w w' → Ready level n w'
grid_ready level n w w' p R B =
    let l = B.long in
    record {
      many = R.many;
      odd = R.odd;
      fits = rw l R.fits;
      grid = p;
      points = ap (λ (S : Slots). at (S points_slot)) B.holds ∙ grid_points level n p;
      correction = ap (λ (S : Slots). at (S correction_slot)) B.holds ∙ tab_at n (λ i. radial_correction_of (point_of level i)) (λ i h. rw (past level n p i h) correction_nan);
    }

pub length-advanced_by_sum : (n : ℕ) (c : Float) (xs sums us : List Float) → length (advanced_by_sum n c xs sums us) ≡ n
unfolding advanced_by_sum
length-advanced_by_sum n c xs sums us = length_tab n _

-- the gradient of the field, on the grid of a level
pub gradient_pass : (level : ℕ) {n : ℕ} {h : Float} {w w' : List Float} → h ≡ spacing_of level → Became n (gradients h) w w' → Became n (λ S. upd gradient_slot (radial_gradient_of level (S field_slot)) S) w w'
unfolding radial_gradient_of
gradient_pass level {n} {h} {w} e B = renamed (ap (λ (x : Float). gradients x (slots n w)) e) B
