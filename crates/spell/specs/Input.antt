-- 01, "8: the program's input is above 4,096 bytes": how much of the input tells the reply.
use Rattle.std.specs.Prelude.{ℕ, List, ◌≡◌, take, ⊤, Option, None, Some, Result, Ok, Err}
use Rattle.std.specs.Io.KnownBytes.{Keeps}
use Rattle.run.specs.Order.{read_order}
use Rattle.program_io.specs.declared.Failure.TheVariants as stream
use Rattle.program_io.specs.Input.{lent_input}
use Rattle.program_io.specs.InputLaws.{cut_tells}
use Rattle.spell.specs.declared.NotSpelled.{NotSpelled}
use Rattle.spell.specs.declared.NotSpelled.TheVariants.{Refused, Failed}
use Rattle.spell.specs.Reply.{refused, reply_read, reply_of}
use Rattle.spell.specs.Answers.{Answers}

-- so many bytes of an input tell the reply
pub cut_replies : (input : List ℕ) → reply_of (take lent_input input) ≡ reply_of input
unfolding reply_of
cut_replies input = cut_tells (refused 8) (λ order. reply_read order (read_order order)) input

-- to an input whose bytes are known the program answers with the reply; where the input failed, nothing was written
abbrev pub Replies : (input held held' : Option (List ℕ)) → Result ⊤ NotSpelled → Type 0
Replies None held held' result = ⊤
Replies (Some bytes) held held' (Ok done) = Answers (reply_of bytes) held held' (Ok done)
Replies (Some bytes) held held' (Err (Refused refusal)) = Answers (reply_of bytes) held held' (Err (Refused refusal))
Replies (Some bytes) held held' (Err (Failed (stream.Output cut))) = Answers (reply_of bytes) held held' (Err (Failed (stream.Output cut)))
Replies (Some bytes) held held' (Err (Failed (stream.Input error))) = Keeps held held'
