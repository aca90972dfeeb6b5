-- `run::bytes::number_at` meets its contract.
use Rattle.std.proofs.Common.{◌≡◌, ◌+◌, ℕ, List, ◌∙◌, add-zero, add_assoc, arith}
use Rattle.std.specs.Int.{w32, from_le_bytes}
use Rattle.vectors.specs.Memory.{tab_from, tab}
use Rattle.run.specs.Bytes.{byte_at, little}
use Rattle.run.proofs.bytes.number_at.Goals as goal

four : (s : List ℕ) (at : ℕ) → from_le_bytes w32 (tab 4 (λ k. byte_at s (at + k))) ≡ little 4 s at
unfolding tab tab_from little
four s at = simp (add-zero, add_assoc) (omega arith)

pub returns : goal.returns
returns c = rw c.bytes_at.ensures at c.from_le_bytes.ensures ∙ four _ _
