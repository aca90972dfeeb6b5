-- A state (state.rs, constraints.rs): its time and eight vectors, and how a memory holds them. Definitions only.
use Rattle.std.specs.Prelude.{ℕ, ◌*◌, List, [], ◌∷◌, ◌++◌, slice_index_or, Float}
use Rattle.vectors.specs.Memory.{part}

-- the fields of `State` and of its `Constraints`
pub record State : Type 0 where
  pub time : Float
  pub field : List Float
  pub conj_momentum : List Float
  pub alternate_mass : List Float
  pub energy_density : List Float
  pub mass : List Float
  pub radial_factor : List Float
  pub lapse : List Float
  pub char_speed : List Float

-- "field, momentum, alternate mass, energy density, mass, radial factor, lapse, char speed, one after another" (01, "Plain run")
unfoldable pub lay_out : State → List Float
lay_out s =
    s.field ++ (s.conj_momentum ++ (s.alternate_mass ++ (s.energy_density ++ (s.mass ++ (s.radial_factor ++ (s.lapse ++ s.char_speed))))))

-- the vectors by their number in that order, 0 to 7; no numbers for any other
unfoldable pub vector_of : State → ℕ → List Float
vector_of s k =
    slice_index_or (s.field ∷ s.conj_momentum ∷ s.alternate_mass ∷ s.energy_density ∷ s.mass ∷ s.radial_factor ∷ s.lapse ∷ s.char_speed ∷ []) k []

-- the state at this time whose vectors, of n numbers each, stand at the front of a memory
unfoldable pub state_in : ℕ → Float → List Float → State
state_in n time memory =
    record {
      time = time;
      field = part (0 * n) n memory;
      conj_momentum = part (1 * n) n memory;
      alternate_mass = part (2 * n) n memory;
      energy_density = part (3 * n) n memory;
      mass = part (4 * n) n memory;
      radial_factor = part (5 * n) n memory;
      lapse = part (6 * n) n memory;
      char_speed = part (7 * n) n memory;
    }
