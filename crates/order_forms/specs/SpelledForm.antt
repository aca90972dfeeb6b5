-- A spelled order is 01's commands: the six settings in the sequence 01 to 06, 07, an 08 for each budget, 09.
use Prim.Native.Nat.{ℕ, zero, suc, ◌+◌, ◌*◌, ◌≤◌}
use mathlib.Core.List.{List, [], ◌∷◌, ◌++◌, map}
use Rattle.std.specs.Prelude.{◌≡◌}
use Rattle.std.proofs.Common.{sym}
use Rattle.std.proofs.Math.Path.{subst}
use native.Mathlib.Omega.{arith}
use Rattle.run.specs.Order.{operand_size, read_order}
use Rattle.run.specs.OrderLaws.{Operands, read_settings}
use Rattle.run.specs.OrderLines.{budgets_from}
use Rattle.run.specs.declared.settings.Settings.{Settings}
use Rattle.run.specs.Order.{Amplitude, Level, MaxTime, Interval, DxLevel, Skip, Advance, End, Order}
use Rattle.run.specs.declared.order.Places.{Places}
use Rattle.claims.specs.OrderFaults.{kind}
use Rattle.claims.specs.OrderForm.{setting_commands, form_of, is07, is09, Spells, none, more}
use Rattle.order_forms.specs.CommandShape.{setting_placed, advance_placed, advance_bytes}
use Rattle.order_forms.specs.Spelling.{bytes_at, spelled_of}

module _ (s : List ℕ) (set : Settings) (p : Places) (read : read_order s ≡ Order set p) where
  -- the advances from the k-th on, and 09
  advances_spelled : (n k : ℕ) → k + n ≤ p.count
      → Spells (map Advance (budgets_from s p.advances k n) ++ (End ∷ [])) (bytes_at (5 * n) s (p.advances + 5 * k) ++ (9 ∷ []))
  unfolding budgets_from bytes_at kind operand_size
  advances_spelled zero k h = more is09 none
  advances_spelled (suc n) k h =
      subst (λ (l : List ℕ). Spells (map Advance (budgets_from s p.advances k (suc n)) ++ (End ∷ [])) (l ++ (9 ∷ [])))
      (sym (advance_bytes s set p read n k (omega arith)))
      (more (advance_placed s set p read k (omega arith)).bytes (advances_spelled n (k + 1) (omega arith)))

  abbrev operands : Operands s set p
  operands = read_settings s set p read

  -- "puts settings as 01 to 06, and consecutive advances unchanged"
  pub spelled_form : Spells (form_of (setting_commands set) (budgets_from s p.advances 0 p.count)) (spelled_of s p)
  unfolding setting_commands spelled_of bytes_at kind operand_size
  spelled_form =
      let from : p.advances + 5 * 0 ≡ p.advances = omega arith in
      let rest = advances_spelled p.count 0 (omega arith) in
      more (setting_placed s p.amplitude (Amplitude set.amplitude) operands.amplitude (omega arith)).bytes
      (more (setting_placed s p.level (Level set.level) operands.level (omega arith)).bytes
      (more (setting_placed s p.max_time (MaxTime set.max_time) operands.max_time (omega arith)).bytes
      (more (setting_placed s p.interval (Interval set.interval) operands.interval (omega arith)).bytes
      (more (setting_placed s p.dx_level (DxLevel set.dx_level) operands.dx_level (omega arith)).bytes
      (more (setting_placed s p.skip (Skip set.skip) operands.skip (omega arith)).bytes
      (more is07
      (subst (λ (i : ℕ). Spells (map Advance (budgets_from s p.advances 0 p.count) ++ (End ∷ [])) (bytes_at (5 * p.count) s i ++ (9 ∷ []))) from rest)))))))
