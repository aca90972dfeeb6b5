-- Laws of what the call for a spelling answers: from the answer of the crate order_forms to the call's.
use Rattle.std.specs.Prelude.{◌≡◌, ℕ, List, Result}
use Rattle.std.proofs.Common.{ap}
use Rattle.order_forms.specs.Spelling.{AfterSpelling, answered_by, after_spelling, spelling}
use Rattle.order_forms.specs.declared.spelling.SpellError.{SpellError}
use Rattle.capi.specs.SpellCall.{spell_number, spell_position, after_spell, spelled_call, spell_call}

-- the number that is told of an answer, and the position that is left
abbrev pub Tells : (number after : ℕ) → Result ℕ SpellError → (before : ℕ) → Type 0
Tells number after a before = (number ≡ spell_number (answered_by a)) × (after ≡ spell_position (answered_by a) before)

-- an answer whose case is known
pub spelled_is : {a b : Result ℕ SpellError} (number after before : ℕ) → a ≡ b → Tells number after b before → Tells number after a before
spelled_is number after before e t = rw e t

pub spell_told : (order bytes bytes' : List ℕ) (number after before : ℕ) (a : Result ℕ SpellError) → after_spelling a bytes' ≡ spelling order bytes
    → Tells number after a before → after_spell number bytes' after ≡ spell_call order bytes before
unfolding spelled_call spell_call
spell_told order bytes bytes' number after before a e t = rw (t.0, t.1) (ap (λ (x : AfterSpelling). spelled_call x before) e)
