-- What settings without fault are, and the clauses of `fault_at`.
use Rattle.std.specs.Prelude.{◌≡◌, ℕ, ◌<◌, ◌≤◌, Bool, true, false, cond}
use Rattle.std.proofs.Math.Path.{refl}
use Rattle.std.proofs.Common.{◌∙◌, arith}
use Rattle.std.specs.Prelude.{Option, None, Some}
use borrow.Author.Tests.{ltb-false, le-ltb, lt-ltb}
use Rattle.vectors.specs.Grid.{level_in_range}
use Rattle.vectors.specs.GridLaws.{Level, level_of, in_range_lem}
use Rattle.run.specs.declared.settings.Settings.{Settings}
use Rattle.run.specs.Inputs.{interval_too_short, dx_too_fine, fault_at}

-- settings without fault
pub record Accepted (s : Settings) : Type 0 where
  pub level : Level s.level
  pub interval : interval_too_short s ≡ false
  pub dx : s.dx_level ≤ s.level

-- `fault_at` by its three tests
by_tests : Bool → Bool → Bool → Option ℕ
by_tests ranged short fine = cond ranged (cond short (Some 6) (cond fine (Some 7) None)) (Some 5)

by_tests_lem : (s : Settings) → by_tests (level_in_range s.level) (interval_too_short s) (dx_too_fine s) ≡ fault_at s
unfolding by_tests fault_at
by_tests_lem s = refl

module _ (s : Settings) where
  tests : {a b c : Bool} → level_in_range s.level ≡ a → interval_too_short s ≡ b → dx_too_fine s ≡ c → by_tests a b c ≡ fault_at s
  tests p q r = cc (by_tests_lem s)

  pub fault_level : level_in_range s.level ≡ false → Some 5 ≡ fault_at s
  unfolding by_tests
  fault_level e = tests e refl refl

  pub fault_interval : Level s.level → interval_too_short s ≡ true → Some 6 ≡ fault_at s
  unfolding by_tests
  fault_interval l e = tests (in_range_lem l) e refl

  pub fault_dx : Level s.level → interval_too_short s ≡ false → s.level < s.dx_level → Some 7 ≡ fault_at s
  unfolding by_tests
  fault_dx l e h = tests (in_range_lem l) e (lt-ltb s.level s.dx_level h)

  pub fault_none : Accepted s → None ≡ fault_at s
  unfolding by_tests
  fault_none a = tests (in_range_lem a.level) a.interval (le-ltb s.level s.dx_level a.dx)

  pub accepted : fault_at s ≡ None → Accepted s
  unfolding by_tests
  accepted e = go (level_in_range s.level) (interval_too_short s) (dx_too_fine s) refl refl refl (by_tests_lem s ∙ e)
    where
      go : (a b c : Bool) → level_in_range s.level ≡ a → interval_too_short s ≡ b → dx_too_fine s ≡ c → by_tests a b c ≡ None → Accepted s
      go true false false p q r e = record { level = level_of s.level p; interval = q; dx = ltb-false s.level s.dx_level r }
      go true false true p q r e = let z : ◌≡◌ {A = ℕ} 0 1 = cc in absurd (omega arith)
      go true true c p q r e = let z : ◌≡◌ {A = ℕ} 0 1 = cc in absurd (omega arith)
      go false b c p q r e = let z : ◌≡◌ {A = ℕ} 0 1 = cc in absurd (omega arith)
