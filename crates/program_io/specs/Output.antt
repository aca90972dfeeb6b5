-- How much of a text was written.
use Rattle.std.specs.Prelude.{ℕ, ◌≡◌, ◌<◌, List, ◌++◌, length, take, ⊤, Option, Result, Ok, Err}
use Rattle.std.specs.Io.KnownBytes.{Appends}
use Rattle.program_io.specs.declared.Failure.{Failure}
use Rattle.program_io.specs.declared.Failure.TheVariants.{Input, Output}

-- after what it held the output holds a part of the text, and not all
abbrev pub SentPart : (held held' : Option (List ℕ)) → (text : List ℕ) → Type 0
SentPart held held' text = (part left : List ℕ) × (text ≡ part ++ left) × (0 < length left) × Appends held held' part

-- The output holds the whole text after what it held; or, where a write failed or took nothing, a part of it.
abbrev pub Sent : (held held' : Option (List ℕ)) → (text : List ℕ) → Result ⊤ Failure → Type 0
Sent held held' text (Ok done) = Appends held held' text
Sent held held' text (Err (Output cut)) = SentPart held held' text
Sent held held' text (Err (Input error)) = ⊥

-- Where a write failed or took nothing, so many bytes of the text were written before, and not all.
abbrev pub CutAfter : (held held' : Option (List ℕ)) → (text : List ℕ) → Result ⊤ Failure → Type 0
CutAfter held held' text (Ok done) = ⊤
CutAfter held held' text (Err (Output cut)) = (cut.done < length text) × (cut.taken ≡ 0) × Appends held held' (take cut.done text)
CutAfter held held' text (Err (Input error)) = ⊥
