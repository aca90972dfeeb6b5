-- The slots of work memory by their numbers, which src/slots.rt names alike: the vectors of a state in the order of 01, and what a step needs besides them.
use Rattle.std.specs.Prelude.{ℕ}

abbrev pub field_slot : ℕ
field_slot = 0

abbrev pub momentum_slot : ℕ
momentum_slot = 1

abbrev pub alternate_mass_slot : ℕ
alternate_mass_slot = 2

abbrev pub energy_density_slot : ℕ
energy_density_slot = 3

abbrev pub mass_slot : ℕ
mass_slot = 4

abbrev pub radial_factor_slot : ℕ
radial_factor_slot = 5

abbrev pub lapse_slot : ℕ
lapse_slot = 6

abbrev pub char_speed_slot : ℕ
char_speed_slot = 7

-- the radial gradient of the field
abbrev pub gradient_slot : ℕ
gradient_slot = 8

-- an integrand, 1 over the lapse, the second difference of the field
abbrev pub scratch_slot : ℕ
scratch_slot = 9

-- the running integral of 1 over the lapse
abbrev pub integral_slot : ℕ
integral_slot = 10

-- the half dissipations of field and momentum
abbrev pub half_field_slot : ℕ
half_field_slot = 11

abbrev pub half_momentum_slot : ℕ
half_momentum_slot = 12

-- the rates
abbrev pub dt_field_slot : ℕ
dt_field_slot = 13

abbrev pub dt_momentum_slot : ℕ
dt_momentum_slot = 14

abbrev pub dt_mass_slot : ℕ
dt_mass_slot = 15

-- their sums
abbrev pub field_sum_slot : ℕ
field_sum_slot = 16

abbrev pub momentum_sum_slot : ℕ
momentum_sum_slot = 17

abbrev pub mass_sum_slot : ℕ
mass_sum_slot = 18

-- the points of the grid, and the radial correction there
abbrev pub points_slot : ℕ
points_slot = 19

abbrev pub correction_slot : ℕ
correction_slot = 20

-- how many there are
abbrev pub slot_count : ℕ
slot_count = 21

-- with n points, the slots are numbers slots_start × n to slots_end × n of work memory
abbrev pub slots_start : ℕ
slots_start = 8

abbrev pub slots_end : ℕ
slots_end = 29
