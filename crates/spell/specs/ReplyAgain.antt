-- Bytes that the program replied with are an order: it replies with them again, and they print what the input prints.
use Rattle.std.specs.Prelude.{ℕ, ◌≤◌, Bool, List, length}
use Rattle.std.proofs.Math.Bool.{true, false, cond}
use Rattle.std.proofs.Math.Path.{◌≡◌, refl, ap}
use Rattle.std.proofs.Common.{sym, ◌∙◌, arith}
use Rattle.std.proofs.Math.Dec.{ltb}
use borrow.Author.Tests.{ltb-false, le-ltb}
use Rattle.run.specs.Order.{read_order}
use Rattle.run.specs.OrderLines.{lines_of}
use Rattle.run.specs.declared.settings.Settings.{Settings}
use Rattle.run.specs.declared.order.Places.{Places}
use Rattle.run.specs.Order.{Read, Refused, Order}
use Rattle.order_forms.specs.Spelling.{spelled_of}
use Rattle.order_forms.specs.SpellingLaws.{spelled_length}
use Rattle.order_forms.specs.SpelledRead.{spelled_read}
use Rattle.order_forms.specs.OneSpelling.{spelled_again, spelled_prints}
use Rattle.spell.specs.Reply.{refused, spelled, reply_read, reply_of}

-- an order that the reader accepts, and its spelling
pub record Accepted (input bytes : List ℕ) : Type 0 where
  pub settings : Settings
  pub places : Places
  pub read : read_order input ≡ Order settings places
  pub few : length input ≤ 4096
  pub are : bytes ≡ spelled_of input places

module _ (input bytes : List ℕ) (h : reply_of input ≡ spelled bytes) where
  pub accepted : Accepted input bytes
  unfolding reply_of reply_read
  accepted = go (ltb 4096 (length input)) refl (read_order input) refl h
    where
      go :
          (long : Bool) → ltb 4096 (length input) ≡ long → (r : Read) → read_order input ≡ r →
          cond long (refused 8) (reply_read input r) ≡ spelled bytes → Accepted input bytes
      go true l r e h = let z : ◌≡◌ {A = ℕ} 0 1 = cc in absurd (omega arith)
      go false l (Refused n at) e h = let z : ◌≡◌ {A = ℕ} 0 1 = cc in absurd (omega arith)
      go false l (Order set p) e h = record { settings = set; places = p; read = e; few = ltb-false 4096 (length input) l; are = cc }

  -- "Writing an order already written this way returns it."
  pub reply_again : reply_of bytes ≡ spelled bytes
  unfolding reply_of reply_read
  reply_again =
      let a = accepted in
      let s = spelled_of input a.places in
      let l = spelled_length input a.settings a.places a.read in
      let read = spelled_read input a.settings a.places a.read in
      let same = spelled_again input a.settings a.places a.read in
      let again : reply_of s ≡ spelled s = rw (le-ltb 4096 (length s) (omega arith), read, same) in
      ap reply_of a.are ∙ again ∙ ap spelled (sym a.are)

  -- what the program collapse prints for them
  pub reply_prints : lines_of bytes ≡ lines_of input
  reply_prints = let a = accepted in ap lines_of a.are ∙ spelled_prints input a.settings a.places a.read
