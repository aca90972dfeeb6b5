-- `collapse::print_answer` meets its contract.
use Rattle.std.proofs.Common.{◌≡◌, ◌<◌, ◌≤◌, ℕ, List, Option, None, Some, Result, Ok, Err, length, take, ap, ◌∙◌, subst, arith}
use Rattle.std.specs.Prelude.{⊤}
use Rattle.std.specs.Io.KnownBytes.{Consumes, IsAtEnd}
use Rattle.run.specs.Lines.{Line, texts_of}
use Rattle.run.specs.OrderLines.{lines_of}
use Rattle.program_io.specs.declared.Failure.{Failure}
use Rattle.program_io.specs.declared.Failure.TheVariants.{Input, Output}
use Rattle.program_io.specs.Input.{lent_input}
use Rattle.program_io.specs.InputLaws.{counted_takes}
use Rattle.program_io.specs.Output.{Sent}
use Rattle.collapse.specs.Input.{cut_prints, Prints}
use Rattle.collapse.proofs.print_answer.Goals as goal

sent_prints :
    (bytes : List ℕ) (held held' : Option (List ℕ)) (r : Result ⊤ Failure) → Sent held held' (texts_of (lines_of bytes)) r → Prints (Some bytes) held held' r
sent_prints bytes held held' (Ok done) s = s
sent_prints bytes held held' (Err (Output cut)) s = s
sent_prints bytes held held' (Err (Input error)) s = absurd s

-- what was sent of the lines of the bytes that were read
prints :
    (input left held held' : Option (List ℕ)) (buffer : List ℕ) (count : ℕ) → length buffer ≡ lent_input → count ≤ length buffer →
    Consumes input left (take count buffer) → (count < length buffer → IsAtEnd left) → (r : Result ⊤ Failure) →
    Sent held held' (texts_of (lines_of (take count buffer))) r → Prints input held held' r
prints None left held held' buffer count room within consumed ended r s = tt
prints (Some bytes) left held held' buffer count room within consumed ended r s =
    let same = ap lines_of (counted_takes bytes left buffer count room within consumed ended) ∙ cut_prints bytes in
    sent_prints bytes held held' r (subst (λ (lines : List Line). Sent held held' (texts_of lines) r) same s)

pub returns : goal.returns
returns g c =
    let (within, consumed, ended, none) = c.in_ok-filled.ensures in
    prints _ _ _ _ c.read_input.new.buffer c.in_ok-filled.filled.count (omega arith) within consumed ended _ c.answer.ensures.carried.all
