-- 01, "Orders (added)": "little-endian operands". Definitions only.
use Rattle.std.specs.Prelude.{ℕ, zero, suc, ◌+◌, ◌*◌, List, from_bits, slice_index, Float}
use Rattle.std.specs.Float.{binary64}

-- the byte at `at`; past the end 0
abbrev pub byte_at : List ℕ → ℕ → ℕ
byte_at s at = slice_index s at

-- "little-endian": n bytes from `at` on as a number, the least byte first
unfoldable pub little : ℕ → List ℕ → ℕ → ℕ
little zero s at = 0
little (suc n) s at = byte_at s at + 256 * little n s (at + 1)

-- "f64": the float of the eight bytes from `at` on
unfoldable pub float_at : List ℕ → ℕ → Float
float_at s at = from_bits binary64 (little 8 s at)
