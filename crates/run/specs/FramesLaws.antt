-- Laws of frames: their length, and that every sample is a point of the grid.
use Rattle.std.specs.Prelude.{◌≡◌, ℕ, ◌+◌, ◌-◌, ◌*◌, ◌^◌, ◌<◌, ◌≤◌, List, length, Float}
use Rattle.std.proofs.Common.{sym, ap, ◌∙◌, inl, inr, mul-le-mul_right, arith, le-leb, length-append, pow-add, pow_mono}
use Rattle.std.proofs.lemmas.Bool.{lt-leb}
use Rattle.vectors.specs.Grid.{points_of}
use Rattle.vectors.specs.GridLaws.{points_in}
use Rattle.vectors.specs.MemoryLaws.{side, length_tab}
use Rattle.physics.specs.State.{State}
use Rattle.run.specs.declared.settings.Settings.{Settings}
use Rattle.run.specs.Frames.{samples_of, frame_size_at, frame_size_of, sample_of, frame_of}
use Rattle.run.specs.InputsLaws.{Accepted}

-- ---- the number of samples
pub samples_in : (dx : ℕ) → dx ≤ 16 → samples_of dx ≡ 2 ^ dx + 1
unfolding samples_of
samples_in dx h = rw (le-leb dx 16 h)

pub samples_out : (dx : ℕ) → 16 < dx → samples_of dx ≡ 0
unfolding samples_of
samples_out dx h = rw (lt-leb dx 16 h)

pub samples_most : (dx : ℕ) → samples_of dx ≤ 65537
samples_most dx = elim (side 16 dx) [
  | inl h ↦ omega (arith, samples_out dx h)
  | inr h ↦ omega (arith, samples_in dx h, pow_mono {i = dx} {j = 16} h)
]

pub length_sample : (level dx : ℕ) (xs : List Float) → length (sample_of level dx xs) ≡ samples_of dx
unfolding sample_of
length_sample level dx xs = length_tab (samples_of dx) _

-- ---- the size of a frame
pub frame_size_in : (dx : ℕ) → dx ≤ 16 → frame_size_at dx ≡ 2 + 9 * samples_of dx
unfolding frame_size_at samples_of
frame_size_in dx h = rw (le-leb dx 16 h)

pub frame_size_out : (dx : ℕ) → 16 < dx → frame_size_at dx ≡ 0
unfolding frame_size_at
frame_size_out dx h = rw (lt-leb dx 16 h)

pub dx_most : {s : Settings} → Accepted s → s.dx_level ≤ 16
dx_most a = omega (arith, a.dx, a.level.most)

-- F of settings without fault, as 01 writes it
pub frame_size_accepted : {s : Settings} → Accepted s → frame_size_of s ≡ 2 + 9 * (2 ^ s.dx_level + 1)
unfolding frame_size_at
frame_size_accepted {s} a = rw (le-leb s.dx_level 16 (dx_most a))

pub length_frame : {s : Settings} → Accepted s → (a : State) → length (frame_of s a) ≡ frame_size_of s
unfolding frame_of
length_frame {s} sound a = simp (length-append, length_sample) (omega (arith, frame_size_in s.dx_level (dx_most sound)))

-- ---- samples are points
pub sample_inside : {s : Settings} → Accepted s → (j : ℕ) → j < samples_of s.dx_level → j * 2 ^ (s.level - s.dx_level) < points_of s.level
sample_inside {s} a j h =
    let L = s.level in
    let d = s.dx_level in
    let l : d ≤ L = a.dx in
    let w : d + (L - d) ≡ L = omega arith in
    let p : 2 ^ L ≡ 2 ^ d * 2 ^ (L - d) = ap (λ (k : ℕ). 2 ^ k) (sym w) ∙ pow-add 2 d (L - d) in
    let b : j ≤ 2 ^ d = omega (arith, samples_in d (dx_most a)) in
    omega (arith, points_in a.level, mul-le-mul_right (2 ^ (L - d)) b)
