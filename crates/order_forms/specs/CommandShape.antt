-- One command of an order: its byte, how far it reaches, and what its bytes encode; and the advances, one after another.
use Prim.Native.Nat.{ℕ, zero, suc, ◌+◌, ◌-◌, ◌*◌, ◌≤◌, ◌<◌}
use Rattle.std.specs.Prelude.{List, ◌∷◌, ◌++◌, ◌≡◌, refl, length, get_or}
use Rattle.std.proofs.Common.{sym, ◌∙◌, subst}
use Rattle.std.proofs.Math.Path.{ap, ap₂}
use native.Mathlib.Omega.{arith}
use Rattle.run.specs.Bytes.{byte_at}
use Rattle.run.specs.Order.{operand_size, command_of, command_at, next_at, read_order, budget_at}
use Rattle.run.specs.OrderLaws.{Stands, read_budgets}
use Rattle.run.specs.declared.settings.Settings.{Settings}
use Rattle.run.specs.Order.{Command, Advance, Order}
use Rattle.run.specs.declared.order.Places.{Places}
use Rattle.claims.proofs.BytesExactly.{whole_at}
use Rattle.claims.specs.CommandBytesLaws.{operand_at, operand_cons, encodes}
use Rattle.claims.specs.OrderFaults.{kind}
use Rattle.claims.specs.OrderForm.{Encodes, is01, is02, is03, is04, is05, is06_no, is06_yes, is07, is08, is09}
use Rattle.order_forms.specs.Spelling.{bytes_at}
use Rattle.order_forms.specs.BytesAtLaws.{bytes_split}

-- bytes that stand inside are those of the list
bytes_inside : (n : ℕ) (s : List ℕ) (from : ℕ) → from + n ≤ length s → operand_at n s from ≡ bytes_at n s from
unfolding bytes_at
bytes_inside zero s from h = refl
bytes_inside (suc n) s from h =
    operand_cons n s from (omega arith) ∙ ap (λ (l : List ℕ). byte_at s from ∷ l) (bytes_inside n s (from + 1) (omega arith))

-- the commands of the kinds 0 to 8 have the bytes 01 to 09
first_byte : {c : Command} {bytes : List ℕ} → Encodes c bytes → get_or bytes 0 0 ≡ suc (kind c)
unfolding kind
first_byte (is01 operand n) = refl
first_byte (is02 x) = refl
first_byte (is03 operand n) = refl
first_byte (is04 operand n) = refl
first_byte (is05 x) = refl
first_byte is06_no = refl
first_byte is06_yes = refl
first_byte is07 = refl
first_byte (is08 operand n) = refl
first_byte is09 = refl

-- a command that is not wrong by itself, `from` the position after its byte
pub record Placed (s : List ℕ) (at from : ℕ) (c : Command) : Type 0 where
  pub code : byte_at s at ≡ suc (kind c)
  pub read : command_of s from (suc (kind c)) ≡ c
  pub next : next_at s at ≡ from + operand_size (suc (kind c))
  pub bytes : Encodes c (suc (kind c) ∷ bytes_at (operand_size (suc (kind c))) s from)

pub placed : (s : List ℕ) (at : ℕ) (c : Command) → command_at s at ≡ c → kind c < 9 → Placed s at (at + 1) c
placed s at c e k =
    let w = whole_at s at c e k in
    let here = encodes s (at + 1) (byte_at s at) c w.inside w.read k in
    let code : byte_at s at ≡ suc (kind c) = first_byte here in
    let bytes = subst (λ (o : List ℕ). Encodes c (byte_at s at ∷ o)) (bytes_inside (operand_size (byte_at s at)) s (at + 1) w.inside) here in
    record {
      code = code;
      read = ap (command_of s (at + 1)) (sym code) ∙ w.read;
      next = w.after ∙ ap (λ (j : ℕ). at + 1 + operand_size j) code;
      bytes = subst (λ (j : ℕ). Encodes c (j ∷ bytes_at (operand_size j) s (at + 1))) code bytes;
    }

pub setting_placed : (s : List ℕ) (place : ℕ) (c : Command) → Stands s place c → kind c < 9 → Placed s (place - 1) place c
setting_placed s place c o k =
    subst (λ (j : ℕ). Placed s (place - 1) j c) (let z : place - 1 + 1 ≡ place = omega (arith, o.after) in z) (placed s (place - 1) c o.is k)

-- ---- the advances of an accepted order
module _ (s : List ℕ) (set : Settings) (p : Places) (read : read_order s ≡ Order set p) where
  pub advance_placed : (k : ℕ) → k < p.count → Placed s (p.advances + 5 * k) (p.advances + 5 * k + 1) (Advance (budget_at s p.advances k))
  unfolding kind
  advance_placed k h =
      placed s (p.advances + 5 * k) (Advance (budget_at s p.advances k)) (read_budgets s set p read k h) (omega arith)

  -- the k-th and n after it
  pub advance_bytes : (n k : ℕ) → k < p.count
      → bytes_at (5 * suc n) s (p.advances + 5 * k) ≡ 8 ∷ (bytes_at 4 s (p.advances + 5 * k + 1) ++ bytes_at (5 * n) s (p.advances + 5 * (k + 1)))
  unfolding bytes_at kind
  advance_bytes n k h =
      let at = p.advances + 5 * k in
      ap (λ (m : ℕ). bytes_at m s at) (let z : 5 * suc n ≡ 5 + 5 * n = omega arith in z)
      ∙ bytes_split 5 (5 * n) s at
      ∙ ap₂ (λ (code i : ℕ). code ∷ (bytes_at 4 s (at + 1) ++ bytes_at (5 * n) s i)) (advance_placed k h).code
      (let z : at + 5 ≡ p.advances + 5 * (k + 1) = omega arith in z)
