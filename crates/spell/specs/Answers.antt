-- What the program answers: why it wrote no spelling, or how much of it was written.
use Rattle.std.specs.Prelude.{ℕ, List, ◌≡◌, ⊤, Option, Result, Ok, Err}
use Rattle.std.specs.Io.KnownBytes.{Appends, Keeps}
use Rattle.run.specs.OrderAnswers as order
use Rattle.order_forms.specs.declared.spelling.SpellError.TheVariants.{Faulty, NoRoom}
use Rattle.program_io.specs.Output.{Sent, CutAfter}
use Rattle.spell.specs.declared.Refusal.{Refusal}
use Rattle.spell.specs.declared.Refusal.TheVariants.{TooLong, Unspelled}
use Rattle.spell.specs.declared.NotSpelled.{NotSpelled}
use Rattle.spell.specs.declared.NotSpelled.TheVariants.{Refused, Failed}
use Rattle.spell.specs.Reply.{Reply, refused, refused_at, spelled}

-- 01: "8: the program's input is above 4,096 bytes"; the reader's 1 to 4; 02: "17 for that shortage"
abbrev pub number_of : Refusal → ℕ
number_of TooLong = 8
number_of (Unspelled (Faulty misread)) = order.number_of misread.fault
number_of (Unspelled NoRoom) = 17

-- the reply that a refusal tells
abbrev pub told : Refusal → Reply
told TooLong = refused (number_of TooLong)
told (Unspelled (Faulty misread)) = refused_at (number_of (Unspelled (Faulty misread))) misread.position
told (Unspelled NoRoom) = refused (number_of (Unspelled NoRoom))

-- All bytes of the spelling went to the output, or so many of them where it failed; or nothing, and the refusal tells the reply.
abbrev pub Answers : Reply → (held held' : Option (List ℕ)) → Result ⊤ NotSpelled → Type 0
Answers reply held held' (Ok done) = (bytes : List ℕ) × (reply ≡ spelled bytes) × Appends held held' bytes
Answers reply held held' (Err (Failed failure)) =
    (bytes : List ℕ) × (reply ≡ spelled bytes) × Sent held held' bytes (Err failure) × CutAfter held held' bytes (Err failure)
Answers reply held held' (Err (Refused refusal)) = (reply ≡ told refusal) × Keeps held held'
