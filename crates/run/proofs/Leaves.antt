-- What the functions of src/model.rt return, from what the functions of the layers below ensure.
use Rattle.std.proofs.Common.{◌≡◌, ℕ, ◌+◌, ◌-◌, ◌*◌, ◌≤◌, Bool, ◌&&◌, List, length, take, drop, sym, refl, ap, ◌∙◌, ap₂, arith, le-leb}
use Rattle.std.specs.Prelude.{None}
use lib.Ieee.{Float, binary64, of_bits, add, lt}
use Rattle.vectors.specs.Fault.{fault_of}
use Rattle.vectors.specs.Grid.{points_of}
use Rattle.vectors.specs.Memory.{part}
use Rattle.vectors.specs.MemoryLaws.{lent}
use Rattle.physics.specs.State.{State, lay_out, vector_of}
use Rattle.physics.specs.State as physics
use Rattle.physics.specs.StateLaws.{Sized, vector_state_in, lay_out-state_in, state_in-lay_out}
use Rattle.physics.specs.Built.{room_to_build}
use Rattle.physics.specs.InitialState.{initial_state_of}
use Rattle.physics.specs.Rk4.{rk4_of}
use Rattle.physics.specs.Sizes.{sized_initial, sized_step, initial_time}
use Rattle.physics.specs.Stepped.{room_to_step}
use Rattle.physics.specs.WorkAfter.{WorkAfter, Made}
use Rattle.physics.specs.WorkLaws.{stepped_time_lem, made_accepted, take_made}
use Rattle.physics.specs.Nan.{any_nan}
use Rattle.physics.specs.NanLaws.{any_nan-lay_out}
use Rattle.physics.specs.BlackHole.{black_hole_mass_of, state_black_hole_mass}
use Rattle.run.specs.declared.settings.Settings.{Settings}
use Rattle.run.specs.declared.adaptive_time_step.TimeStep.{TimeStep}
use Rattle.run.specs.Clock.{delta_of, is_frame_step}
use Rattle.run.specs.Model.{fault_at, cell_count, work_count, frame_count, state_in, holds_nan, mass_at, is_late, first_state, delta_next, frames_next, step_of}
use Rattle.run.specs.FrameWriting.{FrameRoom}
use Rattle.run.specs.ModelLaws.{sound_level, sound_settings}
use Rattle.run.specs.Answers.{next_in, ClockOf, Lent}

pub time_in : (s : Settings) (time : Float) (memory : List Float) → (state_in s time memory).time ≡ time
unfolding physics.state_in
time_in s time memory = refl

pub late_in : (s : Settings) (time : Float) (memory : List Float) → lt s.max_time time ≡ is_late s (state_in s time memory)
unfolding is_late
late_in s time memory = ap (lt s.max_time) (sym (time_in s time memory))

-- the parts of a state memory that are lent for the mass
module _ (s : Settings) (time : Float) (memory : List Float) where
  abbrev n : ℕ
  n = points_of s.level

  radial_in : part (5 * n) n memory ≡ (state_in s time memory).radial_factor
  unfolding vector_of
  radial_in = sym (vector_state_in n time memory 5 (omega arith))

  mass_of_in : part (4 * n) n memory ≡ (state_in s time memory).mass
  unfolding vector_of
  mass_of_in = sym (vector_state_in n time memory 4 (omega arith))

  pub mass_in :
      (k : ℕ) → k ≡ n →
      black_hole_mass_of (take (6 * k - 5 * k) (drop (5 * k) memory)) (take (5 * k - 4 * k) (drop (4 * k) memory)) ≡ mass_at (state_in s time memory)
  unfolding state_black_hole_mass
  mass_in k e =
      rw (lent (5 * k) (6 * k) k memory (omega arith), lent (4 * k) (5 * k) k memory (omega arith), e, radial_in, mass_of_in)

-- the part of work memory where a state is made
module _ (s : Settings) (work : List Float) where
  pub lay_out_next : (time : Float) → lay_out (next_in s time work) ≡ part (cell_count s) (cell_count s) work
  lay_out_next time = lay_out-state_in (points_of s.level) time (part (cell_count s) (cell_count s) work) ∙ take_made s.level work

  pub nan_next : (time : Float) → any_nan time (part (cell_count s) (cell_count s) work) ≡ holds_nan (next_in s time work)
  nan_next time =
      ap₂ any_nan (sym (time_in s time (part (cell_count s) (cell_count s) work))) (sym (lay_out_next time)) ∙ any_nan-lay_out (next_in s time work)

-- ---- the clock, by the part of state memory that holds the radial factor
module _ (s : Settings) (time : Float) (memory : List Float) (k : ℕ) (e : k ≡ points_of s.level) where
  lent_radial : take (6 * k - 5 * k) (drop (5 * k) memory) ≡ (state_in s time memory).radial_factor
  unfolding vector_of
  lent_radial = lent (5 * k) (6 * k) k memory (omega arith) ∙ rw e (sym (vector_state_in (points_of s.level) time memory 5 (omega arith)))

  pub clock_in : {c : TimeStep} → c.delta ≡ delta_of s time (take (6 * k - 5 * k) (drop (5 * k) memory))
      → c.framed ≡ is_frame_step s time (take (6 * k - 5 * k) (drop (5 * k) memory)) → ClockOf s (state_in s time memory) c
  unfolding delta_next frames_next
  clock_in d f =
      record {
        delta = d ∙ ap (delta_of s time) lent_radial ∙ ap (λ (t : Float). delta_of s t (state_in s time memory).radial_factor) (sym (time_in s time memory));
        framed = f ∙ ap (is_frame_step s time) lent_radial ∙ ap (λ (t : Float). is_frame_step s t (state_in s time memory).radial_factor) (sym (time_in s time memory));
      }

-- ---- the memories of a run, as the writer of a frame asks for them
pub frame_room : (s : Settings) (state work frames at : ℕ) → Lent s state work → at + frame_count s ≤ frames → FrameRoom s state work frames at
unfolding frame_count
frame_room s state work frames at lent fits =
    record { settings = sound_settings s lent.sound; state = lent.state_fits; work = lent.work_fits; frames = fits }

-- ---- a state that the physics made in work memory
module _ (s : Settings) where
  made_next : (a : State) (time : Float) (work work' : List Float) → a.time ≡ time → Sized (points_of s.level) a → Made s.level a work work'
      → (next_in s time work' ≡ a) × (drop (work_count s) work' ≡ drop (work_count s) work)
  made_next a time work work' t z m = (
    ap (λ (l : List Float). state_in s time l) m.made ∙ ap (λ (x : Float). state_in s x (lay_out a)) (sym t) ∙ state_in-lay_out z,
    m.beyond,
  )

  pub first_made : (number : ℕ) (work work' : List Float) → fault_at s ≡ None → work_count s ≤ length work
      → number ≡ fault_of s.level (room_to_build s.level (length work)) → WorkAfter number s.level (initial_state_of s.level s.amplitude) work work'
      → (next_in s (of_bits binary64 0x0) work' ≡ first_state s) × (drop (work_count s) work' ≡ drop (work_count s) work)
  unfolding first_state
  first_made number work work' sound wide e m =
      made_next (initial_state_of s.level s.amplitude) _ work work' first_time (sized_initial s.level s.amplitude)
      (made_accepted s.level number _ _ work work' (sound_level s sound) (le-leb (40 * points_of s.level) (length work) wide) e m)
    where
      first_time : (initial_state_of s.level s.amplitude).time ≡ of_bits binary64 0x0
      first_time = initial_time s.level s.amplitude

  pub next_made : (time delta : Float) (state : List Float) (number : ℕ) (work work' : List Float) → Lent s (length state) (length work)
      → number ≡ fault_of s.level (room_to_step s.level (length state) (length work)) → WorkAfter number s.level (rk4_of s.level delta (state_in s time state)) work work'
      → (next_in s (add binary64 time delta) work' ≡ step_of s delta (state_in s time state)) × (drop (work_count s) work' ≡ drop (work_count s) work)
  unfolding step_of
  next_made time delta state number work work' room e m =
      made_next (rk4_of s.level delta (state_in s time state)) (add binary64 time delta) work work' (sym (stepped_time_lem s.level time delta state)) (sized_step s.level delta (state_in s time state))
      (made_accepted s.level number _ _ work work' (sound_level s room.sound)
      (ap₂ (λ (x y : Bool). x && y) (le-leb (8 * points_of s.level) (length state) room.state_fits) (le-leb (40 * points_of s.level) (length work) room.work_fits)) e m)
