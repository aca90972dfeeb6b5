-- The arguments of the cases, as in oracle/arguments.rs: the states of a generator, and the numbers made of a state. Definitions only.
use Rattle.std.specs.Prelude.{true, false, cond, List, [], ◌∷◌, ℕ, zero, suc, ◌+◌, ◌*◌, ◌/◌, ◌%◌, ◌^◌, eqb, pos, get_or, Float}
use Rattle.std.specs.Float.{nan, inf, fin, binary64}
use Rattle.std.specs.Float.Ieee.{add, sub, mul, div, of_bits}
use Rattle.vectors.specs.Constants.{whole, nearest_to}
use Rattle.vectors.specs.Grid.{point_of}
use Rattle.vectors.specs.Memory.{tab}
use Rattle.cases.specs.Digest.{mixed_of}

-- ---- states
unfoldable pub next_of : ℕ → ℕ
next_of s = mixed_of s 1

-- 32 bits of a state
unfoldable pub half_of : ℕ → ℕ
half_of s = s / 256 % 2 ^ 32

-- 64 bits of a state and the next
unfoldable pub pattern_of : ℕ → ℕ
pattern_of s = half_of s * 2 ^ 32 + half_of (next_of s)

-- the state after these two
unfoldable pub after_of : ℕ → ℕ
after_of s = next_of (next_of s)

-- the state for number i of a list
unfoldable pub state_at : ℕ → ℕ → ℕ
state_at seed zero = seed
state_at seed (suc i) = after_of (state_at seed i)

-- a number from -1 up to 1, from the 52 low bits of the pattern
unfoldable pub unit_of : ℕ → Float
unit_of s = sub binary64 (mul binary64 (of_bits binary64 (0x3FF0000000000000 + pattern_of s % 2 ^ 52)) (whole 2)) (whole 3)

-- ---- vectors on the grid
-- u, with infinities at every 11th point
unfoldable pub infinite_of : ℕ → Float → Float
infinite_of i u = cond (eqb (i % 11) 5) (div binary64 u (whole 0)) u

-- u, with NaN at every 13th point
unfoldable pub missing_of : ℕ → Float → Float
missing_of i u = cond (eqb (i % 13) 6) nan u

-- u, with +infinity at point kind - 16 of every 4096
unfoldable pub spike_of : ℕ → ℕ → Float → Float
spike_of kind i u = cond (eqb (i % 4096 + 16) kind) (inf false) u

-- entry i, at the coordinate r, with the generator in state s, of vectors of kinds 0 to 10
unfoldable pub entries_of : Float → ℕ → ℕ → List Float
entries_of r i s =
    mul binary64 (mul binary64 r (sub binary64 (whole 1) r)) (sub binary64 r (nearest_to 3 10))
    ∷ unit_of s
    ∷ of_bits binary64 (pattern_of s)
    ∷ mul binary64 (nearest_to (10 ^ 300) 1) (unit_of s)
    ∷ mul binary64 (nearest_to (17 * 10 ^ 307) 1) (unit_of s)
    ∷ mul binary64 (nearest_to 1 (10 ^ 310)) (unit_of s)
    ∷ fin true 0 (pos 0)
    ∷ mul binary64 (whole 0) (unit_of s)
    ∷ infinite_of i (unit_of s)
    ∷ missing_of i (unit_of s)
    ∷ sub binary64 (whole 1) r
    ∷ []

-- the same of a vector of a kind; from kind 11 on a spike
unfoldable pub entry_of : ℕ → Float → ℕ → ℕ → Float
entry_of kind r i s = get_or (entries_of r i s) kind (spike_of kind i (unit_of s))

-- n numbers of a vector of a kind at a level
unfoldable pub vector_of : ℕ → ℕ → ℕ → List Float
vector_of level kind n = tab n (λ i. entry_of kind (point_of level i) i (state_at (mixed_of (mixed_of 17 level) kind) i))

-- ---- lists of numbers
-- a number of ranges 0 to 4: any pattern, -710 to 711, near zero, 0 to pi/2, -10 to 10
unfoldable pub ranges_of : ℕ → List Float
ranges_of s =
    of_bits binary64 (pattern_of s)
    ∷ add binary64 (nearest_to 1 2) (mul binary64 (nearest_to 1421 2) (unit_of s))
    ∷ mul binary64 (nearest_to 2 100) (unit_of s)
    ∷ mul binary64 (nearest_to 7853981633974483 (10 ^ 16)) (add binary64 (whole 1) (unit_of s))
    ∷ mul binary64 (whole 10) (unit_of s)
    ∷ []

-- a number of a range; from range 5 on -1 to 1
unfoldable pub argument_of : ℕ → ℕ → Float
argument_of range s = get_or (ranges_of s) range (unit_of s)

-- n numbers of a range, by the states from the seed on
unfoldable pub list_of : ℕ → ℕ → ℕ → List Float
list_of range seed n = tab n (λ i. argument_of range (state_at seed i))
