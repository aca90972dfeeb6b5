-- What each pass of `build_initial_state` makes of the slots of work memory.
use Rattle.std.specs.Prelude.{ℕ, List, map, Float}
use Rattle.std.specs.Float.{binary64}
use Rattle.std.specs.Float.Ieee.{mul}
use Rattle.vectors.specs.Constants.{whole}
use Rattle.vectors.specs.Exp.{exp_of}
use Rattle.vectors.specs.Memory.{tab}
use Rattle.physics.specs.InitialState.{exponent_at}
use Rattle.physics.specs.Passes.{full_constraints}
use Rattle.physics.specs.SlotNumbers.{field_slot, momentum_slot, alternate_mass_slot, mass_slot, points_slot}
use Rattle.physics.specs.Slots.{Slots, upd}
use Rattle.physics.specs.Vector.{at}

-- with r i the coordinate of point i
abbrev pub exponent_val : (ℕ → Float) → ℕ → Float
exponent_val r i = exponent_at (r i)

abbrev pub exponents : ℕ → Slots → Slots
exponents n S = upd momentum_slot (tab n (exponent_val (at (S points_slot)))) (upd field_slot (tab n (λ i. whole 0)) S)

abbrev pub scales : Float → Slots → Slots
scales amplitude S = upd momentum_slot (map (mul binary64 amplitude) (S momentum_slot)) S

abbrev pub profile_on : ℕ → Float → (ℕ → Float) → List Float
profile_on n amplitude r = map (mul binary64 amplitude) (map exp_of (tab n (exponent_val r)))

-- the field and the momentum
abbrev pub variables : ℕ → Float → Slots → Slots
variables n amplitude S = upd momentum_slot (profile_on n amplitude (at (S points_slot))) (upd field_slot (tab n (λ i. whole 0)) S)

-- the eight vectors
abbrev pub initials : ℕ → ℕ → Float → Slots → Slots
initials level n amplitude S = let T = full_constraints level (variables n amplitude S) in upd alternate_mass_slot (T mass_slot) T
