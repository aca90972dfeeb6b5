-- One spelling for each order: how long it is, and which orders are spelled so already.
use Rattle.std.specs.Prelude.{ℕ, suc, ◌+◌, ◌-◌, ◌*◌, ◌<◌, true, List, [], ◌∷◌, ◌++◌, ◌≡◌, refl, length}
use Rattle.std.proofs.Common.{sym, ap, ◌∙◌, arith}
use Rattle.std.proofs.Math.ListN.{length-append}
use Rattle.run.specs.Bytes.{byte_at}
use Rattle.run.specs.Order.{places, read_order}
use Rattle.run.specs.OrderLaws.{Stands, Operands, read_settings}
use Rattle.run.specs.declared.settings.Settings.{Settings}
use Rattle.run.specs.Order.{Command, Amplitude, Level, MaxTime, Interval, DxLevel, Skip, Order}
use Rattle.run.specs.declared.order.Places.{Places}
use Rattle.order_forms.specs.OrderShape.{order_length, ascending_places, begin_byte, end_byte}
use Rattle.order_forms.specs.Spelling.{spelled_of, ascending, bytes_at}
use Rattle.claims.specs.OrderFaults.{kind}
use Rattle.order_forms.specs.CommandShape.{setting_placed}
use Rattle.order_forms.specs.BytesAtLaws.{length_bytes, bytes_split, bytes_all}

-- where the commands of a spelled order stand
abbrev pub spelled_places : ℕ → Places
spelled_places count = places 1 10 12 21 30 32 34 count

module _ (s : List ℕ) (set : Settings) (p : Places) (read : read_order s ≡ Order set p) where
  pub spelled_length : length (spelled_of s p) ≡ length s
  unfolding spelled_of bytes_at
  spelled_length =
      let tail = bytes_at (5 * p.count) s p.advances in
      omega (arith, order_length s set p read, length-append tail (9 ∷ []), length_bytes (5 * p.count) s p.advances)

  -- an order whose settings stand as 01 to 06
  module _ (e : ascending p ≡ true) where
    at_places : p ≡ spelled_places p.count
    at_places = ascending_places s set p read e

    abbrev operands : Operands s set p
    operands = read_settings s set p read

    -- the byte before a setting's place
    code : {place : ℕ} (k : ℕ) (c : Command) → Stands s place c → kind c < 9 → place ≡ k → byte_at s (k - 1) ≡ suc (kind c)
    code {place} k c o h e = ap (λ (i : ℕ). byte_at s (i - 1)) (sym e) ∙ (setting_placed s place c o h).code

    codes : (byte_at s 0 ≡ 1) × (byte_at s 9 ≡ 2) × (byte_at s 11 ≡ 3) × (byte_at s 20 ≡ 4) × (byte_at s 29 ≡ 5) × (byte_at s 31 ≡ 6)
    unfolding kind
    codes = (
      code 1 (Amplitude set.amplitude) operands.amplitude (omega arith) (ap (λ (q : Places). q.amplitude) at_places),
      code 10 (Level set.level) operands.level (omega arith) (ap (λ (q : Places). q.level) at_places),
      code 12 (MaxTime set.max_time) operands.max_time (omega arith) (ap (λ (q : Places). q.max_time) at_places),
      code 21 (Interval set.interval) operands.interval (omega arith) (ap (λ (q : Places). q.interval) at_places),
      code 30 (DxLevel set.dx_level) operands.dx_level (omega arith) (ap (λ (q : Places). q.dx_level) at_places),
      code 32 (Skip set.skip) operands.skip (omega arith) (ap (λ (q : Places). q.skip) at_places),
    )

    split : s ≡ bytes_at 34 s 0 ++ (bytes_at (5 * p.count) s 34 ++ bytes_at 1 s (34 + 5 * p.count))
    split =
        bytes_all s
        ∙ ap (λ (n : ℕ). bytes_at n s 0) (order_length s set p read ∙ (let z : 35 + 5 * p.count ≡ 34 + (5 * p.count + 1) = omega arith in z))
        ∙ bytes_split 34 (5 * p.count + 1) s 0
        ∙ ap (λ (l : List ℕ). bytes_at 34 s 0 ++ l) (bytes_split (5 * p.count) 1 s 34)

    front_same : spelled_of s (spelled_places p.count) ≡ bytes_at 34 s 0 ++ (bytes_at (5 * p.count) s 34 ++ bytes_at 1 s (34 + 5 * p.count))
    unfolding spelled_of bytes_at
    front_same =
        rw (codes.0, codes.1, codes.2, codes.3, codes.4, codes.5)
        (rw (begin_byte s set p read, end_byte s set p read) refl)

    pub spelled_same : spelled_of s p ≡ s
    spelled_same = ap (spelled_of s) at_places ∙ front_same ∙ sym split
