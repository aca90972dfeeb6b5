-- What the program replies to an input: 02, "One spelling for each order", for an order of at most 4,096 bytes. Definitions only.
use Rattle.std.specs.Prelude.{ℕ, cond, List, ltb, length}
use Rattle.run.specs.Order.{read_order}
use Rattle.run.specs.Order.{Read, Refused, Order}
use Rattle.order_forms.specs.Spelling.{spelled_of}

-- a refusal's number, its number and the position, or the bytes to write
pub data Reply : Type 0 where
  refused : (number : ℕ) → Reply
  refused_at : (number position : ℕ) → Reply
  spelled : (bytes : List ℕ) → Reply

-- "the reader's 1 to 4"; else the order with its "settings as 01 to 06, and consecutive advances unchanged"
unfoldable pub reply_read : List ℕ → Read → Reply
reply_read order (Refused number position) = refused_at number position
reply_read order (Order settings places) = spelled (spelled_of order places)

-- 01: "8: the program's input is above 4,096 bytes; before all else, no position"
unfoldable pub reply_of : List ℕ → Reply
reply_of input = cond (ltb 4096 (length input)) (refused 8) (reply_read input (read_order input))
