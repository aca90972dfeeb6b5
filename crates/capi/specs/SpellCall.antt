-- What `collapse_spell` answers, and leaves in the lent bytes and in the position: the spelling of the crate order_forms. Definitions only.
use Rattle.std.specs.Prelude.{ℕ, List}
use Rattle.order_forms.specs.Spelling.{Answered, refused_at, refused, ends_at, AfterSpelling, spelling}

-- 0 for an order that is written, else the refusal's number
unfoldable pub spell_number : Answered → ℕ
spell_number (refused_at n at) = n
spell_number (refused n) = n
spell_number (ends_at end) = 0

-- "for 1 to 4 the byte position" (01, "Orders (added)"); with any other answer it stays
unfoldable pub spell_position : Answered → ℕ → ℕ
spell_position (refused_at n at) position = at
spell_position (refused n) position = position
spell_position (ends_at end) position = position

-- the answer's number, the lent bytes and the position
pub record AfterSpell : Type 0 where
  pub number : ℕ
  pub bytes : List ℕ
  pub position : ℕ

abbrev pub after_spell : (number : ℕ) (bytes : List ℕ) (position : ℕ) → AfterSpell
after_spell number bytes position = record { number = number; bytes = bytes; position = position }

unfoldable pub spelled_call : AfterSpelling → ℕ → AfterSpell
spelled_call a position = after_spell (spell_number a.answer) a.bytes (spell_position a.answer position)

unfoldable pub spell_call : (order bytes : List ℕ) (position : ℕ) → AfterSpell
spell_call order bytes position = spelled_call (spelling order bytes) position
