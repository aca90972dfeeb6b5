-- How much of the input a program reads.
use Rattle.std.specs.Prelude.{ℕ, suc, ◌≡◌, ◌<◌, ◌≤◌, List, length, take, Option, Result, Ok, Err}
use Rattle.std.specs.Io.KnownBytes.{Consumes, IsAtEnd}
use Rattle.program_io.specs.declared.Failure.{Failure}
use Rattle.program_io.specs.declared.Filled.{Filled}
use Rattle.program_io.specs.declared.Failure.TheVariants.{Input, Output}

-- 01, "8: the program's input is above 4,096 bytes": one byte more than an order may have tells whether it is
abbrev pub lent_input : ℕ
lent_input = suc 4096

-- The buffer begins with so many bytes, the next of the input: as many as the buffer has, or fewer, and then the input is at its end, and the last
-- read gave nothing. Where a read failed, so many were read before.
abbrev pub Counted : (left left' : Option (List ℕ)) → (buffer : List ℕ) → Result Filled Failure → Type 0
Counted left left' buffer (Ok filled) =
    (filled.count ≤ length buffer) × Consumes left left' (take filled.count buffer) × (filled.count < length buffer → IsAtEnd left')
    × (filled.count < length buffer → filled.last ≡ 0)
Counted left left' buffer (Err (Input error)) = (count : ℕ) × (count < length buffer) × Consumes left left' (take count buffer)
Counted left left' buffer (Err (Output error)) = ⊥
