-- The reader accepts a spelled order, and reads the same settings there.
use Prim.Native.Nat.{ℕ, zero, suc, ◌+◌, ◌*◌, ◌≤◌, ◌<◌}
use Rattle.std.specs.Prelude.{true, false, ◌≡◌, eqb, length}
use mathlib.Core.List.{List, [], ◌∷◌}
use Rattle.std.proofs.Math.Path.{refl, sym, ap}
use Rattle.std.proofs.Common.{◌∙◌, get_or-drop}
use native.Mathlib.Omega.{arith}
use Rattle.std.proofs.Math.ListN.{get_or-append}
use Rattle.std.proofs.Math.Seq.{get_or_at}
use borrow.Author.Tests.{le-ltb, lt-leb}
use Rattle.run.specs.Bytes.{byte_at, little, float_at}
use Rattle.run.specs.Order.{is_known, operand_size, switch_of, command_of, is_cut, command_at, next_at, places, no_places, noted, begun, complete}
use Rattle.run.specs.Order.{setting_fault, begin_fault, unless_begun, command_fault, settings_at, unless_fault, order_from, read_order}
use Rattle.run.specs.OrderLaws.{read_settings}
use Rattle.run.specs.declared.settings.Settings.{Settings}
use Rattle.run.specs.Order.{Command, Amplitude, Level, MaxTime, Interval, DxLevel, Skip, Begin, Advance, Order}
use Rattle.run.specs.declared.order.Places.{Places}
use Rattle.claims.specs.FormReadLaws.{step_ends}
use Rattle.claims.specs.OrderFaults.{kind}
use Rattle.order_forms.specs.OrderShape.{order_length, begins_at, settings_are}
use Rattle.order_forms.specs.Spelling.{spelled_of, bytes_at}
use Rattle.order_forms.specs.SpellingLaws.{spelled_length, spelled_places}
use Rattle.order_forms.specs.CommandShape.{setting_placed, advance_placed}
use Rattle.order_forms.specs.BytesAtLaws.{length_bytes, get_d_bytes}

-- ---- one command
module _ (t : List ℕ) where
  -- a command that is whole and has no fault: the reader goes on behind its operand
  goes : (n at code : ℕ) (q : Places) (c : Command) → is_known code ≡ true → eqb code 9 ≡ false → byte_at t at ≡ code → at + 1 + operand_size code ≤ length t
      → command_of t (at + 1) code ≡ c → command_fault q c ≡ 0
      → order_from (suc n) t at q ≡ order_from n t (at + 1 + operand_size code) (noted q c (at + 1))
  unfolding order_from unless_fault command_at next_at is_cut
  goes n at code q c k nine e l h f =
      rw (lt-leb (length t) at (omega arith), e, k, le-ltb (length t) (at + 1 + operand_size code) l, h, f, nine)

-- ---- a spelled order
module _ (s : List ℕ) (set : Settings) (p : Places) (read : read_order s ≡ Order set p) where
  abbrev t : List ℕ
  t = spelled_of s p

  abbrev c : ℕ
  c = p.count

  pub long : length t ≡ 35 + 5 * c
  long = spelled_length s set p read ∙ order_length s set p read

  -- behind 07 the bytes are the order's own
  pub tail_byte : (j : ℕ) → j < 5 * c → byte_at t (34 + j) ≡ byte_at s (34 + j)
  unfolding spelled_of bytes_at
  tail_byte j h =
      sym (get_or-drop 34 t j 0)
      ∙ get_or-append (bytes_at (5 * c) s p.advances) (9 ∷ []) 0 j (omega (arith, length_bytes (5 * c) s p.advances))
      ∙ get_d_bytes (5 * c) s p.advances j h
      ∙ ap (λ (k : ℕ). byte_at s (k + j)) (begins_at s set p read)

  pub last_byte : byte_at t (34 + 5 * c) ≡ 9
  unfolding spelled_of bytes_at
  last_byte =
      sym (get_or-drop 34 t (5 * c) 0)
      ∙ get_or_at (bytes_at (5 * c) s p.advances) 9 [] 0 (5 * c) (length_bytes (5 * c) s p.advances)

  switch : switch_of (byte_at s p.skip) ≡ Skip (eqb (byte_at s p.skip) 1)
  unfolding kind command_of settings_at
  switch =
      (setting_placed s p.skip (Skip set.skip) (read_settings s set p read).skip (omega arith)).read
      ∙ ap (λ (x : Settings). Skip x.skip) (settings_are s set p read)

  -- the settings and 07
  front : (n : ℕ) → order_from (suc (suc (suc (suc (suc (suc (suc n))))))) t 0 no_places ≡ order_from n t 34 (spelled_places 0)
  unfolding spelled_of bytes_at is_known operand_size command_of command_fault setting_fault begin_fault begun complete noted
  front n =
      goes t (suc (suc (suc (suc (suc (suc n)))))) 0 1 no_places (Amplitude (float_at t 1)) refl refl refl (omega (arith, long)) refl refl
      ∙ goes t (suc (suc (suc (suc (suc n))))) 9 2 (places 1 0 0 0 0 0 0 0) (Level (byte_at t 10)) refl refl refl (omega (arith, long)) refl refl
      ∙ goes t (suc (suc (suc (suc n)))) 11 3 (places 1 10 0 0 0 0 0 0) (MaxTime (float_at t 12)) refl refl refl (omega (arith, long)) refl refl
      ∙ goes t (suc (suc (suc n))) 20 4 (places 1 10 12 0 0 0 0 0) (Interval (float_at t 21)) refl refl refl (omega (arith, long)) refl refl
      ∙ goes t (suc (suc n)) 29 5 (places 1 10 12 21 0 0 0 0) (DxLevel (byte_at t 30)) refl refl refl (omega (arith, long)) refl refl
      ∙ goes t (suc n) 31 6 (places 1 10 12 21 30 0 0 0) (Skip (eqb (byte_at s p.skip) 1)) refl refl refl (omega (arith, long)) switch refl
      ∙ goes t n 33 7 (places 1 10 12 21 30 32 0 0) Begin refl refl refl (omega (arith, long)) refl refl

  -- an 08 of the order
  eight : (k : ℕ) → k < c → byte_at s (34 + 5 * k) ≡ 8
  unfolding kind
  eight k h = ap (λ (a : ℕ). byte_at s (a + 5 * k)) (sym (begins_at s set p read)) ∙ (advance_placed s set p read k h).code

  -- the advances and 09
  rest : (n r k : ℕ) → k + r ≡ c → r < n → order_from n t (34 + 5 * k) (spelled_places k) ≡ Order (settings_at t (spelled_places c)) (spelled_places c)
  unfolding is_known operand_size command_of command_fault unless_begun begun noted
  rest zero r k e l = absurd (omega arith)
  rest (suc n) zero k e l =
      let here : k ≡ c = omega arith in
      ap (λ (j : ℕ). order_from (suc n) t (34 + 5 * j) (spelled_places j)) here
      ∙ step_ends t n (34 + 5 * c) (spelled_places c) last_byte (omega (arith, long)) refl
  rest (suc n) (suc r) k e l =
      goes t n (34 + 5 * k) 8 (spelled_places k) (Advance (little 4 t (34 + 5 * k + 1))) refl refl
      (tail_byte (5 * k) (omega arith) ∙ eight k (omega arith)) (omega (arith, long)) refl refl
      ∙ ap (λ (i : ℕ). order_from n t i (spelled_places (k + 1))) (let z : 34 + 5 * k + 1 + 4 ≡ 34 + 5 * (k + 1) = omega arith in z)
      ∙ rest n r (k + 1) (omega arith) (omega arith)

  same_settings : settings_at t (spelled_places c) ≡ settings_at s p
  unfolding settings_at spelled_of bytes_at float_at little
  same_settings = refl

  pub spelled_read : read_order t ≡ Order set (spelled_places c)
  unfolding read_order
  spelled_read =
      ap (λ (n : ℕ). order_from n t 0 no_places) (long ∙ (let z : 35 + 5 * c ≡ (suc (suc (suc (suc (suc (suc (suc (28 + 5 * c)))))))) = omega arith in z))
      ∙ front (28 + 5 * c)
      ∙ rest (28 + 5 * c) c 0 (let z : 0 + c ≡ c = omega arith in z) (omega arith)
      ∙ ap (λ (x : Settings). Order x (spelled_places c)) (same_settings ∙ sym (settings_are s set p read))
