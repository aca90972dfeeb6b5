-- All that proofs may use of the definitions of Model.antt.
use Rattle.std.specs.Prelude.{◌≡◌, ℕ, ◌<◌, ◌≤◌, true, false, length, ◌≢◌}
use Rattle.std.specs.Prelude.{None, Some}
use Rattle.std.proofs.Common.{sym, arith}
use Rattle.vectors.specs.Grid.{points_of}
use Rattle.vectors.specs.GridLaws.{Level}
use Rattle.physics.specs.Sizes.{sized_initial, sized_step}
use Rattle.physics.specs.State.{State}
use Rattle.physics.specs.StateLaws.{Sized}
use Rattle.run.specs.declared.settings.Settings.{Settings}
use Rattle.run.specs.ClockLaws.{step_skipped}
use Rattle.run.specs.FramesLaws.{frame_size_accepted, length_frame}
use Rattle.run.specs.InputsLaws.{Accepted, accepted}
use Rattle.run.specs.Model.{fault_at, frame_count, first_state, delta_next, frames_next, step_of, next_state, frame_of}

pub some_not_none : {A : Type 0} (a : A) → Some a ≢ None
some_not_none a e = let z : ◌≡◌ {A = ℕ} 0 1 = cc in omega arith

-- settings with skip have no frame step
pub frames_next_skipped : (s : Settings) (a : State) → s.skip ≡ true → frames_next s a ≡ false
unfolding frames_next
frames_next_skipped s a h = sym (step_skipped s a.time a.radial_factor h).1

module _ (s : Settings) (sound : fault_at s ≡ None) where
  pub sound_settings : Accepted s
  unfolding fault_at
  sound_settings = accepted s sound

  pub sound_level : Level s.level
  sound_level = sound_settings.level

  pub frame_some : 0 < frame_count s
  unfolding frame_count
  frame_some = omega (arith, frame_size_accepted sound_settings)

  pub frame_large : 6 ≤ frame_count s
  unfolding frame_count
  frame_large = omega (arith, frame_size_accepted sound_settings)

  pub first_state_sized : Sized (points_of s.level) (first_state s)
  unfolding first_state
  first_state_sized = sized_initial s.level s.amplitude

  pub next_state_sized : (a : State) → Sized (points_of s.level) a → Sized (points_of s.level) (next_state s a)
  unfolding next_state step_of
  next_state_sized a z = sized_step s.level (delta_next s a) a

  pub frame_of-length : (a : State) → Sized (points_of s.level) a → length (frame_of s a) ≡ frame_count s
  unfolding frame_of frame_count
  frame_of-length a z = length_frame sound_settings a
