-- 01, "8: the program's input is above 4,096 bytes": how much of the input tells what it prints.
use Rattle.std.specs.Prelude.{ℕ, List, [], ◌∷◌, ◌≡◌, take, Option, None, Some, ⊤, Result, Ok, Err}
use Rattle.std.specs.Io.KnownBytes.{Appends, Keeps}
use Rattle.run.specs.Order.{read_order}
use Rattle.run.specs.Lines.{texts_of, refusal}
use Rattle.run.specs.OrderLines.{read_lines, lines_of}
use Rattle.program_io.specs.declared.Failure.{Failure}
use Rattle.program_io.specs.declared.Failure.TheVariants.{Input, Output}
use Rattle.program_io.specs.Input.{lent_input}
use Rattle.program_io.specs.InputLaws.{cut_tells}
use Rattle.program_io.specs.Output.{SentPart}

-- so many bytes of an input tell what it prints
pub cut_prints : (input : List ℕ) → lines_of (take lent_input input) ≡ lines_of input
unfolding lines_of
cut_prints input = cut_tells (refusal 8 ∷ []) (λ order. read_lines order (read_order order)) input

-- of an input whose bytes are known the output got the lines, or a part of them where it failed, or nothing where the input failed
abbrev pub Prints : (input held held' : Option (List ℕ)) → Result ⊤ Failure → Type 0
Prints None held held' result = ⊤
Prints (Some bytes) held held' (Ok done) = Appends held held' (texts_of (lines_of bytes))
Prints (Some bytes) held held' (Err (Output cut)) = SentPart held held' (texts_of (lines_of bytes))
Prints (Some bytes) held held' (Err (Input error)) = Keeps held held'
