-- 01, "From the input", 1 to 4, and "Reader": why an order is refused with a number at a position, said of the bytes (`HasFault`) and of the
-- reader's steps (`Faulty`). Definitions only; proofs/FaultExactly and specs/RefusedExactly have the theorems.
use Rattle.std.specs.Prelude.{ℕ, suc, ◌+◌, ◌<◌, ◌≤◌, cond, List, [], ◌∷◌, ◌++◌, ◌⊎◌, ◌≡◌, eqb, length}
use Rattle.run.specs.Bytes.{byte_at}
use Rattle.run.specs.Order.{operand_size, command_at, next_at, no_places, noted, command_fault}
use Rattle.run.specs.Order.{Command, Amplitude, Level, MaxTime, Interval, DxLevel, Skip, Begin, Advance, End, Wrong}
use Rattle.run.specs.declared.order.Places.{Places}
use Rattle.claims.specs.OrderForm.{Encodes}

-- ---- of the bytes
-- the kinds of commands: 0 to 5 are the settings, 6 is 07, 7 is 08, 8 is 09
unfoldable pub kind : Command → ℕ
kind (Amplitude x) = 0
kind (Level x) = 1
kind (MaxTime x) = 2
kind (Interval x) = 3
kind (DxLevel x) = 4
kind (Skip x) = 5
kind Begin = 6
kind (Advance n) = 7
kind End = 8
kind (Wrong n) = 9

-- how many commands of a kind came
unfoldable pub times : ℕ → List Command → ℕ
times k [] = 0
times k (c ∷ cs) = cond (eqb (kind c) k) (suc (times k cs)) (times k cs)

-- a command that may not stand after these commands, and the number of that fault
pub data Misplaced (cs : List Command) : Command → ℕ → Type 0 where
  -- 3: "setting repeated"
  repeated : (c : Command) → kind c < 6 → 0 < times (kind c) cs → Misplaced cs c 3
  -- "or after 07"
  after_begin : (c : Command) → kind c < 6 → 0 < times 6 cs → Misplaced cs c 3
  -- "second 07"
  second_begin : 0 < times 6 cs → Misplaced cs Begin 3
  -- "08 before 07"
  early_advance : (n : ℕ) → times 6 cs ≡ 0 → Misplaced cs (Advance n) 3
  -- 4: "07 with a setting missing"
  missing : (k : ℕ) → k < 6 → times k cs ≡ 0 → times 6 cs ≡ 0 → Misplaced cs Begin 4
  -- "09 before 07"
  early_end : times 6 cs ≡ 0 → Misplaced cs End 4

abbrev pub InPlace : List Command → Command → Type 0
InPlace cs c = (n : ℕ) → Misplaced cs c n → ⊥

-- bytes that are these commands, one after another, each in place and none of them 09
pub data Sound : List ℕ → List Command → Type 0 where
  empty : Sound [] []
  and : {front b : List ℕ} {cs : List Command} {c : Command} → Sound front cs → Encodes c b → InPlace cs c → kind c < 8
      → Sound (front ++ b) (cs ++ (c ∷ []))

-- "first command at fault, its first byte the position of 2 to 4 too": what stands before it is sound
pub data HasFault (s : List ℕ) : (number position : ℕ) → Type 0 where
  -- 2: "byte outside 01 to 09"
  unknown : (front rest : List ℕ) (cs : List Command) (code : ℕ) → Sound front cs → s ≡ front ++ (code ∷ rest)
      → (code ≡ 0) ⊎ (9 < code) → HasFault s 2 (length front)
  -- 1: "an operand runs past the end (position of its command)"
  cut : (front rest : List ℕ) (cs : List Command) (code : ℕ) → Sound front cs → s ≡ front ++ (code ∷ rest)
      → 1 ≤ code → code ≤ 9 → length rest < operand_size code → HasFault s 1 (length front)
  -- 2: "or switch above 1"
  switch : (front rest : List ℕ) (cs : List Command) (x : ℕ) → Sound front cs → s ≡ front ++ (6 ∷ x ∷ rest)
      → 1 < x → HasFault s 2 (length front)
  -- 3 and 4
  misplaced : (front b rest : List ℕ) (cs : List Command) (c : Command) (n : ℕ) → Sound front cs → s ≡ front ++ (b ++ rest)
      → Encodes c b → Misplaced cs c n → HasFault s n (length front)
  -- 1: "no 09 came (position: the length)"
  no_end : (cs : List Command) → Sound s cs → HasFault s 1 (length s)
  -- 3: "byte after 09"; "after 09 only 3"
  after_end : (front rest : List ℕ) (cs : List Command) (x : ℕ) → Sound front cs → s ≡ front ++ (9 ∷ x ∷ rest)
      → InPlace cs End → HasFault s 3 (length front + 1)

-- ---- of the reader's steps, by its own faults and places: a step on the way to `HasFault`
-- every command before `at` has no fault after those before it, and none of them is 09; p says which came
pub data Reached (s : List ℕ) : ℕ → Places → Type 0 where
  first : Reached s 0 no_places
  next : {at : ℕ} {p : Places} → Reached s at p → at < length s → command_fault p (command_at s at) ≡ 0 → (byte_at s at ≡ 9 → ⊥)
      → Reached s (next_at s at) (noted p (command_at s at) (at + 1))

-- the three causes
pub data Faulty (s : List ℕ) (number position : ℕ) : Type 0 where
  -- "first command at fault, its first byte the position"
  at_command : (p : Places) → Reached s position p → position < length s
      → command_fault p (command_at s position) ≡ number → 0 < number → Faulty s number position
  -- 1: "no 09 came (position: the length)"
  at_length : (at : ℕ) (p : Places) → Reached s at p → length s ≤ at → number ≡ 1 → position ≡ length s → Faulty s number position
  -- 3: "byte after 09"
  behind_end : (at : ℕ) (p : Places) → Reached s at p → command_at s at ≡ End → command_fault p End ≡ 0
      → at + 1 < length s → number ≡ 3 → position ≡ at + 1 → Faulty s number position
