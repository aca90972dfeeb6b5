-- `run::bytes::float_at` meets its contract.
use Rattle.std.proofs.Common.{◌≡◌, ◌+◌, ℕ, List, ap, ◌∙◌, add-zero, add_assoc, arith}
use lib.Ieee.{binary64, of_bits}
use Rattle.std.specs.Int.{w64, from_le_bytes}
use Rattle.vectors.specs.Memory.{tab_from, tab}
use Rattle.run.specs.Bytes.{byte_at, little, float_at}
use Rattle.run.proofs.bytes.float_at.Goals as goal

eight : (s : List ℕ) (at : ℕ) → from_le_bytes w64 (tab 8 (λ k. byte_at s (at + k))) ≡ little 8 s at
unfolding tab tab_from little
eight s at = simp (add-zero, add_assoc) (omega arith)

pub returns : goal.returns
unfolding float_at
returns c = c.of_bits.ensures ∙ ap (of_bits binary64) (rw c.bytes_at.ensures at c.from_le_bytes.ensures ∙ eight _ _)
