-- `spell::print_reply` meets its contract.
use Rattle.std.proofs.Common.{◌≡◌, ◌<◌, ◌≤◌, ℕ, List, Option, None, Some, Result, Ok, Err, length, take, ap, ◌∙◌, subst, arith}
use Rattle.std.specs.Prelude.{⊤}
use Rattle.std.specs.Io.KnownBytes.{Consumes, IsAtEnd}
use Rattle.program_io.specs.declared.Failure.TheVariants.{Input, Output}
use Rattle.program_io.specs.Input.{lent_input}
use Rattle.program_io.specs.InputLaws.{counted_takes}
use Rattle.spell.specs.declared.NotSpelled.{NotSpelled}
use Rattle.spell.specs.declared.NotSpelled.TheVariants.{Refused, Failed}
use Rattle.spell.specs.Reply.{Reply, reply_of}
use Rattle.spell.specs.Answers.{Answers}
use Rattle.spell.specs.Input.{cut_replies, Replies}
use Rattle.spell.proofs.print_reply.Goals as goal

answers_reply :
    (bytes : List ℕ) (held held' : Option (List ℕ)) (r : Result ⊤ NotSpelled) → Answers (reply_of bytes) held held' r → Replies (Some bytes) held held' r
answers_reply bytes held held' (Ok done) a = a
answers_reply bytes held held' (Err (Refused refusal)) a = a
answers_reply bytes held held' (Err (Failed (Output cut))) a = a
answers_reply bytes held held' (Err (Failed (Input error))) (text, is, sent, cut) = absurd sent

-- what was answered to the bytes that were read
replies :
    (input left held held' : Option (List ℕ)) (buffer : List ℕ) (count : ℕ) → length buffer ≡ lent_input → count ≤ length buffer →
    Consumes input left (take count buffer) → (count < length buffer → IsAtEnd left) → (r : Result ⊤ NotSpelled) →
    Answers (reply_of (take count buffer)) held held' r → Replies input held held' r
replies None left held held' buffer count room within consumed ended r a = tt
replies (Some bytes) left held held' buffer count room within consumed ended r a =
    let same = ap reply_of (counted_takes bytes left buffer count room within consumed ended) ∙ cut_replies bytes in
    answers_reply bytes held held' r (subst (λ (y : Reply). Answers y held held' r) same a)

pub returns : goal.returns
returns g c =
    let (within, consumed, ended, none) = c.in_ok-filled.ensures in
    replies _ _ _ _ c.read_input.new.buffer c.in_ok-filled.filled.count (omega arith) within consumed ended _ c.reply.ensures
