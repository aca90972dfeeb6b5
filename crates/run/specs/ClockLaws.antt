-- Laws of the clock: that a floor is the largest whole number not above, and the cases of a step.
use Rattle.std.specs.Prelude.{◌≡◌, ℕ, ◌+◌, ◌-◌, ◌*◌, ◌<◌, ◌≤◌, Bool, true, false, cond, not, ◌&&◌, ◌||◌, List, from_bits, Float}
use Rattle.std.proofs.Math.Path.{refl, ap}
use Rattle.std.proofs.Common.{div-add-mod', mod-lt, arith}
use Rattle.std.specs.Float.{binary64}
use Rattle.std.specs.Float.Ieee.{lt, le, mul}
use Rattle.vectors.specs.Constants.{eps, constant_bits}
use Rattle.vectors.specs.Grid.{spacing_of}
use Rattle.vectors.specs.TotalOrder.{minimum_of}
use Rattle.run.specs.declared.settings.Settings.{Settings}
use Rattle.run.specs.Clock.{whole_below, whole_above, base_step_of, time_to_next_of, is_frame_step, delta_of}

-- ---- a floor: the whole number is not above, and the next one is
pub whole_below_lem : (a d : ℕ) → 0 < d → (whole_below a d * d ≤ a) × (a < whole_below a d * d + d)
whole_below_lem a d D =
    let e = div-add-mod' a d in
    let l = mod-lt a D in
    (omega arith, omega arith)

-- not below, and the one before is
pub whole_above_lem : (a d : ℕ) → 0 < d → (a ≤ whole_above a d * d) × (whole_above a d * d < a + d)
whole_above_lem a d D =
    let e = div-add-mod' (a + (d - 1)) d in
    let l = mod-lt (a + (d - 1)) D in
    (omega arith, omega arith)

-- ---- the base, of a spacing and a least radial factor, with the constants' bits
abbrev courant : Float
courant = from_bits binary64 0x3FEE666666666666

abbrev tracking : Float
tracking = from_bits binary64 0x3FB999999999999A

abbrev slowdown : Float
slowdown = from_bits binary64 0x3FD0000000000000

module _ (s : Settings) (radial_factor : List Float) {h least : Float} (spacing : h ≡ spacing_of s.level) (minimum : least ≡ minimum_of radial_factor) where
  base_by : {b : Bool} → lt least tracking ≡ b → cond b (mul binary64 (mul binary64 h courant) slowdown) (mul binary64 h courant) ≡ base_step_of s radial_factor
  unfolding base_step_of
  base_by e = cc (constant_bits.0, constant_bits.2, constant_bits.3)

  pub base_slowed : lt least tracking ≡ true → mul binary64 (mul binary64 h courant) slowdown ≡ base_step_of s radial_factor
  base_slowed e = base_by e

  pub base_full : lt least tracking ≡ false → mul binary64 h courant ≡ base_step_of s radial_factor
  base_full e = base_by e

-- ---- a step
module _ (s : Settings) (time : Float) (radial_factor : List Float) where
  framed_by : Bool → Bool → Bool → Bool
  framed_by skip near far = not skip && not (near || far)

  framed_by_lem : framed_by s.skip (le (time_to_next_of s time) eps) (lt (base_step_of s radial_factor) (time_to_next_of s time)) ≡ is_frame_step s time radial_factor
  unfolding framed_by is_frame_step
  framed_by_lem = refl

  tests : {a b c : Bool} → s.skip ≡ a → le (time_to_next_of s time) eps ≡ b → lt (base_step_of s radial_factor) (time_to_next_of s time) ≡ c
      → framed_by a b c ≡ is_frame_step s time radial_factor
  tests p q r = cc framed_by_lem

  by_frame : {b : Bool} → b ≡ is_frame_step s time radial_factor → cond b (time_to_next_of s time) (base_step_of s radial_factor) ≡ delta_of s time radial_factor
  unfolding delta_of
  by_frame e = ap (λ b. cond b (time_to_next_of s time) (base_step_of s radial_factor)) e

  -- the base, and no frame
  unframed : false ≡ is_frame_step s time radial_factor → (base_step_of s radial_factor ≡ delta_of s time radial_factor) × (false ≡ is_frame_step s time radial_factor)
  unframed e = (by_frame e, e)

  pub step_skipped : s.skip ≡ true → (base_step_of s radial_factor ≡ delta_of s time radial_factor) × (false ≡ is_frame_step s time radial_factor)
  unfolding framed_by
  step_skipped p = unframed (tests p refl refl)

  pub step_near : s.skip ≡ false → le (time_to_next_of s time) eps ≡ true
      → (base_step_of s radial_factor ≡ delta_of s time radial_factor) × (false ≡ is_frame_step s time radial_factor)
  unfolding framed_by
  step_near p q = unframed (tests p q refl)

  pub step_far : s.skip ≡ false → le (time_to_next_of s time) eps ≡ false → lt (base_step_of s radial_factor) (time_to_next_of s time) ≡ true
      → (base_step_of s radial_factor ≡ delta_of s time radial_factor) × (false ≡ is_frame_step s time radial_factor)
  unfolding framed_by
  step_far p q r = unframed (tests p q r)

  pub step_framed : s.skip ≡ false → le (time_to_next_of s time) eps ≡ false → lt (base_step_of s radial_factor) (time_to_next_of s time) ≡ false
      → (time_to_next_of s time ≡ delta_of s time radial_factor) × (true ≡ is_frame_step s time radial_factor)
  unfolding framed_by
  step_framed p q r = let e : true ≡ is_frame_step s time radial_factor = tests p q r in (by_frame e, e)
