-- What each pass of a step makes of the slots of work memory, with T the slots of state memory.
use Rattle.std.specs.Prelude.{◌≡◌, ℕ, ◌+◌, ◌≤◌, true, List, Float}
use Rattle.std.specs.Float.{binary64}
use Rattle.std.specs.Float.Ieee.{add, mul, div}
use Rattle.vectors.specs.Constants.{whole}
use Rattle.vectors.specs.Memory.{tab}
use Rattle.vectors.specs.MemoryLaws.{apart}
use Rattle.physics.specs.Constraints.{half, radial_gradient_of}
use Rattle.physics.specs.Passes.{constraints, full_constraints, derivatives, bounds}
use Rattle.physics.specs.SlotNumbers.{field_slot, momentum_slot, alternate_mass_slot, radial_factor_slot, lapse_slot, char_speed_slot, gradient_slot, dt_field_slot, dt_momentum_slot, dt_mass_slot, field_sum_slot, momentum_sum_slot, mass_sum_slot}
use Rattle.physics.specs.Slots.{Slots, upd}
use Rattle.physics.specs.Vector.{at, advanced_of}

-- n numbers from sums on, n from rates on, and n from to on that lie apart from both
pub record TwoInside (len sums rates to n : ℕ) : Type 0 where
  pub source : sums + n ≤ len
  pub other : rates + n ≤ len
  pub target : to + n ≤ len
  pub far : apart to n sums n ≡ true
  pub far_other : apart to n rates n ≡ true

-- x + c × (a + u)
unfoldable pub advanced_by_sum : ℕ → Float → List Float → List Float → List Float → List Float
unfolding tab
advanced_by_sum n c xs sums us = tab n (λ i. add binary64 (at xs i) (mul binary64 c (add binary64 (at sums i) (at us i))))

abbrev pub loads_variables : Slots → Slots → Slots
loads_variables T S = upd momentum_slot (T momentum_slot) (upd field_slot (T field_slot) S)

abbrev pub loads_constraints : Slots → Slots → Slots
loads_constraints T S = upd char_speed_slot (T char_speed_slot) (upd lapse_slot (T lapse_slot) (upd radial_factor_slot (T radial_factor_slot) S))

abbrev pub loads : Slots → Slots → Slots
loads T S = loads_constraints T (loads_variables T S)

-- the sums begin with the rates of the first stage
abbrev pub begins : Slots → Slots
begins S = upd mass_sum_slot (S dt_mass_slot) (upd momentum_sum_slot (S dt_momentum_slot) (upd field_sum_slot (S dt_field_slot) S))

-- twice the rates added to the sums
abbrev pub doubles : ℕ → Slots → Slots
doubles n S =
    upd mass_sum_slot (advanced_of n (whole 2) (S mass_sum_slot) (S dt_mass_slot))
    (upd momentum_sum_slot (advanced_of n (whole 2) (S momentum_sum_slot) (S dt_momentum_slot))
    (upd field_sum_slot (advanced_of n (whole 2) (S field_sum_slot) (S dt_field_slot)) S))

abbrev pub first_stages : ℕ → Slots → Slots → Slots
first_stages level T S = let L = loads T S in begins (derivatives level (upd gradient_slot (radial_gradient_of level (L field_slot)) L))

-- field and momentum c along the rates
abbrev pub moves : ℕ → Float → Slots → Slots → Slots
moves n c T S = upd momentum_slot (advanced_of n c (T momentum_slot) (S dt_momentum_slot)) (upd field_slot (advanced_of n c (T field_slot) (S dt_field_slot)) S)

abbrev pub forms : ℕ → ℕ → Float → Slots → Slots → Slots
forms level n c T S = constraints level (bounds (moves n c T S))

abbrev pub stages : ℕ → ℕ → Float → Slots → Slots → Slots
stages level n c T S = derivatives level (forms level n c T S)

abbrev pub doubled_stages : ℕ → ℕ → Float → Slots → Slots → Slots
doubled_stages level n c T S = doubles n (stages level n c T S)

-- the field variables of the next state
abbrev pub ends : ℕ → Float → Slots → Slots → Slots
ends n c T S =
    upd alternate_mass_slot (advanced_by_sum n c (T alternate_mass_slot) (S mass_sum_slot) (S dt_mass_slot))
    (upd momentum_slot (advanced_by_sum n c (T momentum_slot) (S momentum_sum_slot) (S dt_momentum_slot))
    (upd field_slot (advanced_by_sum n c (T field_slot) (S field_sum_slot) (S dt_field_slot)) S))

abbrev pub lasts : ℕ → ℕ → Float → Slots → Slots → Slots
lasts level n c T S = full_constraints level (bounds (ends n c T S))

abbrev pub steps : ℕ → ℕ → Float → Slots → Slots → Slots
steps level n delta T S =
    lasts level n (div binary64 delta (whole 6)) T
    (stages level n delta T
    (doubled_stages level n (mul binary64 half delta) T (doubled_stages level n (mul binary64 half delta) T
    (first_stages level T S))))
