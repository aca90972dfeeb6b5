-- Orders that are spelled, computed.
use Rattle.std.specs.Prelude.{ℕ, ◌≤◌, ◌<◌, false, List, [], ◌∷◌, ◌≡◌, refl, length}
use Rattle.std.proofs.Common.{arith, le-leb}
use Rattle.std.proofs.lemmas.Bool.{lt-leb}
use Rattle.std.specs.Float.{binary64}
use Rattle.std.specs.Float.Ieee.{of_bits}
use Rattle.vectors.specs.Memory.{put}
use Rattle.run.specs.Bytes.{little, float_at}
use Rattle.run.specs.Order.{is_known, operand_size, switch_of, command_of, is_cut, command_at, next_at, places, noted, begun, complete}
use Rattle.run.specs.Order.{setting_fault, begin_fault, unless_begun, command_fault, settings_at, unless_fault, ended, order_from, read_order}
use Rattle.run.specs.Order.{Order}
use Rattle.order_forms.specs.Spelling.{spelled_of, ends_at, refused, refused_at, spelling_read, spelling, bytes_at}

-- the settings the other way round, level 99, two NaNs with payloads, advances of 0 and 67305985
abbrev pub turned : List ℕ
turned =
    6 ∷ 0 ∷ 5 ∷ 5 ∷ 4 ∷ 1 ∷ 2 ∷ 3 ∷ 4 ∷ 5 ∷ 6 ∷ 248 ∷ 127 ∷ 3 ∷ 0 ∷ 0 ∷ 0 ∷ 0 ∷ 0 ∷ 0 ∷ 240 ∷ 63 ∷ 2 ∷ 99 ∷ 1 ∷ 7 ∷ 0 ∷ 0 ∷ 0 ∷ 0 ∷ 0 ∷ 248 ∷ 255
    ∷ 7 ∷ 8 ∷ 0 ∷ 0 ∷ 0 ∷ 0 ∷ 8 ∷ 1 ∷ 2 ∷ 3 ∷ 4 ∷ 9 ∷ []

abbrev pub straight : List ℕ
straight =
    1 ∷ 7 ∷ 0 ∷ 0 ∷ 0 ∷ 0 ∷ 0 ∷ 248 ∷ 255 ∷ 2 ∷ 99 ∷ 3 ∷ 0 ∷ 0 ∷ 0 ∷ 0 ∷ 0 ∷ 0 ∷ 240 ∷ 63 ∷ 4 ∷ 1 ∷ 2 ∷ 3 ∷ 4 ∷ 5 ∷ 6 ∷ 248 ∷ 127 ∷ 5 ∷ 5 ∷ 6 ∷ 0
    ∷ 7 ∷ 8 ∷ 0 ∷ 0 ∷ 0 ∷ 0 ∷ 8 ∷ 1 ∷ 2 ∷ 3 ∷ 4 ∷ 9 ∷ []

pub turned_spelled : spelled_of turned (places 25 23 14 5 3 1 34 2) ≡ straight
unfolding spelled_of bytes_at
turned_spelled = refl

pub turned_read : read_order turned
    ≡ Order
    (record {
      amplitude = of_bits binary64 0xFFF8000000000007;
      level = 99;
      max_time = of_bits binary64 0x3FF0000000000000;
      interval = of_bits binary64 0x7FF8060504030201;
      dx_level = 5;
      skip = false;
    })
    (places 25 23 14 5 3 1 34 2)
unfolding read_order order_from unless_fault command_fault setting_fault begin_fault unless_begun begun complete noted ended settings_at
    command_at is_known is_cut next_at command_of operand_size switch_of float_at little
turned_read = refl

-- with room for it, and with too little
pub turned_written : (memory : List ℕ) → 45 ≤ length memory → spelling turned memory ≡ record { answer = ends_at 45; bytes = put 0 straight memory }
unfolding spelling spelling_read
turned_written memory h = rw (turned_read, le-leb 45 (length memory) h, turned_spelled)

pub turned_short : (memory : List ℕ) → length memory < 45 → spelling turned memory ≡ record { answer = refused 17; bytes = memory }
unfolding spelling spelling_read
turned_short memory h = rw (turned_read, lt-leb 45 (length memory) h)

-- what is no order is refused before 17
pub empty_refused : spelling [] [] ≡ record { answer = refused_at 1 0; bytes = [] }
unfolding spelling spelling_read read_order order_from
empty_refused = refl

-- two orders that differ in a NaN's payload alone
abbrev pub quiet : (payload : ℕ) → List ℕ
quiet payload =
    1 ∷ payload ∷ 0 ∷ 0 ∷ 0 ∷ 0 ∷ 0 ∷ 248 ∷ 127 ∷ 2 ∷ 9 ∷ 3 ∷ 0 ∷ 0 ∷ 0 ∷ 0 ∷ 0 ∷ 0 ∷ 240 ∷ 63 ∷ 4 ∷ 0 ∷ 0 ∷ 0 ∷ 0 ∷ 0 ∷ 0 ∷ 240 ∷ 63 ∷ 5 ∷ 5 ∷ 6 ∷ 0
    ∷ 7 ∷ 9 ∷ []

pub quiet_read : (payload : ℕ) → read_order (quiet payload) ≡ Order (settings_at (quiet payload) (places 1 10 12 21 30 32 34 0)) (places 1 10 12 21 30 32 34 0)
unfolding read_order order_from unless_fault command_fault setting_fault begin_fault unless_begun begun complete noted ended
    command_at is_known is_cut next_at command_of operand_size switch_of
quiet_read payload = refl

pub quiet_settings : settings_at (quiet 7) (places 1 10 12 21 30 32 34 0) ≡ settings_at (quiet 8) (places 1 10 12 21 30 32 34 0)
unfolding settings_at float_at little of_bits
quiet_settings = refl

pub quiet_spelled : (payload : ℕ) → spelled_of (quiet payload) (places 1 10 12 21 30 32 34 0) ≡ quiet payload
unfolding spelled_of bytes_at
quiet_spelled payload = refl

pub quiet_apart : quiet 7 ≡ quiet 8 → ⊥
quiet_apart e = let z : ◌≡◌ {A = ℕ} 7 8 = cc in omega arith
