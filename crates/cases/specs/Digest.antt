-- The digest of a list of floats, as in oracle/digest.rs. Definitions only.
use Rattle.std.specs.Prelude.{ℕ, ◌+◌, ◌*◌, ◌/◌, ◌%◌, ◌^◌, List, Float}
use Rattle.std.specs.Float.{binary64}
use Rattle.std.specs.Float.Ieee.{to_bits}
use Rattle.std.specs.List.{fold}

-- d × 1000003 + x modulo a prime below 2^40; of x its 32 low bits
unfoldable pub mixed_of : ℕ → ℕ → ℕ
mixed_of d x = (d * 1000003 + x % 2 ^ 32) % 1099511627689

-- d with one more float: the high half of its bits, then the low half
unfoldable pub with_of : ℕ → Float → ℕ
with_of d x = mixed_of (mixed_of d (to_bits binary64 x / 2 ^ 32)) (to_bits binary64 x % 2 ^ 32)

-- 1 with each float of the list in turn
unfoldable pub digest_of : List Float → ℕ
digest_of xs = fold with_of 1 xs
