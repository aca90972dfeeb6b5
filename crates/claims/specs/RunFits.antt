-- Every number of every state and frame of a run fits binary64, whatever the settings are: it is the result of a float operation.
use Prim.Native.Nat.{ℕ, zero, suc, ◌-◌, ◌*◌, ◌^◌}
use Rattle.std.specs.Prelude.{Bool, ◌≡◌, refl, eqb, length, set}
use Rattle.std.proofs.Math.Bool.{true, false, cond}
use mathlib.Core.List.{List, [], ◌∷◌, ◌++◌, map}
use Rattle.std.proofs.Common.{sym, subst}
use Rattle.std.specs.Float.Ieee.{Float, binary64, add, mul, div}
use Rattle.std.specs.Float.{nan}
use Rattle.std.specs.Float.Ieee.Fits.{cond-fits, add-fits, mul-fits, div-fits, of_int-fits}
use Rattle.std.proofs.Math.ListN.{get_or}
use Rattle.vectors.specs.Constants.{whole}
use Rattle.vectors.specs.Exp.{exp_of}
use Rattle.vectors.specs.Grid.{points_of, spacing_of, point_of}
use Rattle.vectors.specs.Memory.{tab}
use Rattle.vectors.specs.Powers.{reciprocal_of}
use Rattle.vectors.specs.Stencil.{diff_at, diff_of, neumann_of}
use Rattle.physics.specs.Constraints.{Constraints, radial_gradient_of, integrand_of, normalised_of, lapse_of, energy_density_at, energy_density_of}
use Rattle.physics.specs.Constraints.{radial_factor_at, radial_factor_of, mass_at, mass_of, char_speed_of, constraints_of}
use Rattle.physics.specs.Equations.{bounded_of}
use Rattle.physics.specs.InitialState.{exponent_at, wave_profile_of, initial_state_of}
use Rattle.physics.specs.Integral.{integral_of}
use Rattle.physics.specs.Rk4.{stored_constraints, state_of, rk4_of}
use Rattle.physics.specs.State.{State}
use Rattle.physics.specs.TotalEnergy.{total_energy_of}
use Rattle.physics.specs.Vector.{at, advanced_of}
use Rattle.run.specs.declared.settings.Settings.{Settings}
use Rattle.run.specs.Frames as frames
use Rattle.run.specs.Frames.{samples_of, sample_of, sampled_by}
use Rattle.run.specs.Model.{first_state, next_state, step_of, delta_next, frames_next, frame_of, holds_nan}
use Rattle.run.specs.PlainRun.{Machine, has_ended, start, attempt, plain_run}
use Rattle.run.specs.PlainRunLaws.{attempt_ended, attempt_breaks, attempt_steps}
use Rattle.claims.specs.DefinitionLaws.{constraints_is, state_is, initial_is, step_is}
use Rattle.claims.specs.FitLaws.{Fits, AllFit, cons_fit, append_fit, set_fit, map_fit, tab_fit, EachFits, none_fits, snoc_fits}

-- ---- vectors, each by its last operation
module _ (level : ℕ) where
  energy_density_fits : (gradient momentum : List Float) → AllFit (energy_density_of level gradient momentum)
  unfolding energy_density_of
  energy_density_fits gradient momentum =
      tab_fit (points_of level) (λ i. energy_density_at (point_of level i) (at gradient i) (at momentum i)) (λ i. mul-fits binary64 _ _)

  mass_fits : (radial_factor : List Float) → AllFit (mass_of level radial_factor)
  unfolding mass_of
  mass_fits radial_factor = tab_fit (points_of level) (λ i. mass_at (point_of level i) (at radial_factor i)) (λ i. mul-fits binary64 _ _)

  radial_factor_fits : (lapse : List Float) → AllFit (radial_factor_of level lapse)
  unfolding radial_factor_of
  radial_factor_fits lapse =
      let integral = integral_of (spacing_of level) (map reciprocal_of lapse) in
      let value : ℕ → Float = λ i. radial_factor_at (at lapse i) (point_of level i) (at integral i) (at integral 0) in
      tab_fit (points_of level) (λ i. cond (eqb i 0) (whole 1) (value i))
      (λ i. cond-fits binary64 (eqb i 0) (whole 1) (value i) (of_int-fits binary64 _) (mul-fits binary64 _ _))

  char_speed_fits : (radial_factor lapse : List Float) → AllFit (char_speed_of level radial_factor lapse)
  unfolding char_speed_of
  char_speed_fits radial_factor lapse = tab_fit (points_of level) (λ i. div binary64 (at radial_factor i) (at lapse i)) (λ i. div-fits binary64 _ _)

  wave_profile_fits : (amplitude : Float) → AllFit (wave_profile_of level amplitude)
  unfolding wave_profile_of
  wave_profile_fits amplitude =
      tab_fit (points_of level) (λ i. mul binary64 amplitude (exp_of (exponent_at (point_of level i)))) (λ i. mul-fits binary64 _ _)

normalised_fits : (xs : List Float) → AllFit (normalised_of xs)
unfolding normalised_of
normalised_fits xs = map_fit (mul binary64 (reciprocal_of (at xs (length xs - 1)))) xs (λ x. mul-fits binary64 _ x)

lapse_fits : (level : ℕ) (gradient momentum : List Float) → AllFit (lapse_of level gradient momentum)
unfolding lapse_of
lapse_fits level gradient momentum = normalised_fits (map exp_of (integral_of (spacing_of level) (integrand_of level gradient momentum)))

diff_fits : (h : Float) (xs : List Float) → AllFit (diff_of h xs)
unfolding diff_of
diff_fits h xs = tab_fit (length xs) (diff_at h xs) (λ i. div-fits binary64 _ _)

advanced_fits : (n : ℕ) (c : Float) (xs us : List Float) → AllFit (advanced_of n c xs us)
unfolding advanced_of
advanced_fits n c xs us = tab_fit n (λ i. add binary64 (at xs i) (mul binary64 c (at us i))) (λ i. add-fits binary64 _ _)

bounded_fits : {xs : List Float} → AllFit xs → AllFit (bounded_of xs)
unfolding bounded_of
bounded_fits {xs} h =
    set_fit (set xs 0 (neumann_of xs)) (length xs - 1) (whole 0) (set_fit xs 0 (neumann_of xs) h (div-fits binary64 _ _)) (of_int-fits binary64 _)

-- ---- states
pub record ConstraintsFit (c : Constraints) : Type 0 where
  pub energy_density : AllFit c.energy_density
  pub mass : AllFit c.mass
  pub radial_factor : AllFit c.radial_factor
  pub lapse : AllFit c.lapse
  pub char_speed : AllFit c.char_speed

pub record StateFits (a : State) : Type 0 where
  pub time : Fits a.time
  pub field : AllFit a.field
  pub conj_momentum : AllFit a.conj_momentum
  pub alternate_mass : AllFit a.alternate_mass
  pub constraints : ConstraintsFit (stored_constraints a)

module _ (level : ℕ) where
  constraints_fit : (field momentum : List Float) → ConstraintsFit (constraints_of level field momentum)
  constraints_fit field momentum =
      let gradient = radial_gradient_of level field in
      let lapse = lapse_of level gradient momentum in
      let radial_factor = radial_factor_of level lapse in
      subst ConstraintsFit (sym (constraints_is level field momentum))
      (record {
        energy_density = energy_density_fits level gradient momentum;
        mass = mass_fits level radial_factor;
        radial_factor = radial_factor_fits level lapse;
        lapse = lapse_fits level gradient momentum;
        char_speed = char_speed_fits level radial_factor lapse;
      })

  state_of_fits : (time : Float) {field momentum alternate_mass : List Float} → Fits time → AllFit field → AllFit momentum → AllFit alternate_mass
      → StateFits (state_of level time field momentum alternate_mass)
  state_of_fits time {field} {momentum} {alternate_mass} t f m a =
      subst StateFits (sym (state_is level time field momentum alternate_mass))
      (record { time = t; field = f; conj_momentum = m; alternate_mass = a; constraints = constraints_fit field momentum })

  initial_fits : (amplitude : Float) → StateFits (initial_state_of level amplitude)
  initial_fits amplitude =
      let field = tab (points_of level) (λ i. whole 0) in
      subst StateFits (sym (initial_is level amplitude))
      (state_of_fits (whole 0) (of_int-fits binary64 _) (tab_fit (points_of level) (λ i. whole 0) (λ i. of_int-fits binary64 _)) (wave_profile_fits level amplitude)
      (constraints_fit field (wave_profile_of level amplitude)).mass)

  step_fits : (delta : Float) (a : State) → StateFits (rk4_of level delta a)
  step_fits delta a =
      subst StateFits (sym (step_is level delta a))
      (state_of_fits (add binary64 a.time delta) (add-fits binary64 _ _) (bounded_fits (advanced_fits _ _ _ _)) (bounded_fits (advanced_fits _ _ _ _))
      (advanced_fits _ _ _ _))

-- ---- frames
module _ (s : Settings) where
  sampled_fits : (xs : List Float) → AllFit xs → AllFit (sampled_by s xs)
  unfolding sample_of
  sampled_fits xs h = tab_fit (samples_of s.dx_level) (λ j. get_or xs (j * 2 ^ (s.level - s.dx_level)) nan) (λ j. h.at _)

  frame_fits : (a : State) → StateFits a → AllFit (frame_of s a)
  unfolding frame_of frames.frame_of total_energy_of
  frame_fits a h =
      cons_fit h.time
      (append_fit _ (sampled_fits _ h.field)
      (append_fit _ (sampled_fits _ (diff_fits _ _))
      (append_fit _ (sampled_fits _ h.conj_momentum)
      (append_fit _ (sampled_fits _ h.constraints.mass)
      (append_fit _ (sampled_fits _ h.constraints.radial_factor)
      (append_fit _ (sampled_fits _ h.constraints.lapse)
      (append_fit _ (sampled_fits _ h.constraints.char_speed)
      (append_fit _ (sampled_fits _ h.constraints.energy_density)
      (cons_fit (h.constraints.mass.at _)
      (sampled_fits _ h.alternate_mass))))))))))

  -- ---- the run
  pub record MachineFits (m : Machine) : Type 0 where
    pub state : StateFits m.state
    pub frames : EachFits m.frames

  first_fits : StateFits (first_state s)
  unfolding first_state
  first_fits = initial_fits s.level s.amplitude

  next_fits : (a : State) → StateFits (next_state s a)
  unfolding next_state step_of
  next_fits a = step_fits s.level (delta_next s a) a

  start_fits : MachineFits (start s)
  unfolding start
  start_fits = record { state = first_fits; frames = go s.skip }
    where
      go : (skip : Bool) → EachFits (cond skip [] (frame_of s (first_state s) ∷ []))
      go true = none_fits
      go false = snoc_fits [] none_fits (frame_fits (first_state s) first_fits)

  attempt_fits : (m : Machine) → MachineFits m → MachineFits (attempt s m)
  attempt_fits m h = go (has_ended s m) refl (holds_nan n) refl
    where
      n : State
      n = next_state s m.state

      framed : (b : Bool) → EachFits (cond b (m.frames ++ frame_of s n ∷ []) m.frames)
      framed true = snoc_fits m.frames h.frames (frame_fits n (next_fits m.state))
      framed false = h.frames

      go : (e : Bool) → has_ended s m ≡ e → (b : Bool) → holds_nan n ≡ b → MachineFits (attempt s m)
      go true p b q = subst MachineFits (sym (attempt_ended s m p)) h
      go false p true q = subst MachineFits (sym (attempt_breaks s m p q)) (record { state = h.state; frames = h.frames })
      go false p false q =
          subst MachineFits (sym (attempt_steps s m p q)) (record { state = next_fits m.state; frames = framed (frames_next s m.state) })

  pub run_fits : (k : ℕ) → MachineFits (plain_run s k)
  unfolding plain_run
  run_fits zero = start_fits
  run_fits (suc k) = attempt_fits (plain_run s k) (run_fits k)
