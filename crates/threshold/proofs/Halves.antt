-- The ends of the half that remains.
use Rattle.std.proofs.Common.{◌≡◌, ℕ, ◌+◌, ◌-◌, ◌<◌, ◌≤◌, arith}
use Rattle.threshold.specs.Halving.{middle}
use Rattle.threshold.specs.Search.{Ends}

pub positive : {n : ℕ} → (n ≡ 0 → ⊥) → 0 < n
positive h = omega arith

-- the middle lies between ends that differ by more than 1
between : {low high : ℕ} → low < high → (high - low ≡ 1 → ⊥) → (low < middle low high) × (middle low high < high)
between {low} {high} h n = let w = wide (high - low) (omega arith) n in (omega arith, omega arith)
  where
    wide : (d : ℕ) → 1 ≤ d → (d ≡ 1 → ⊥) → 2 ≤ d
    wide d h n = omega arith

module _ {low high left made t : ℕ} (p : Ends low high left made) (m : left ≡ t) (more : 0 < left) (apart : high - low ≡ 1 → ⊥) where
  -- one halving fewer is left, between ends within those before
  next_ends : (l h : ℕ) → l < h → h ≤ high → (left - 1 < t) × Ends l h (left - 1) (made + 1)
  next_ends l h o b =
      let s = p.small in
      let f = p.few in
      (omega arith, record { ordered = o; small = omega arith; few = omega arith })

  pub next_low : (left - 1 < t) × Ends (middle low high) high (left - 1) (made + 1)
  next_low = next_ends (middle low high) high (between p.ordered apart).1 (omega arith)

  pub next_high : (left - 1 < t) × Ends low (middle low high) (left - 1) (made + 1)
  next_high = let b = (between p.ordered apart).1 in next_ends low (middle low high) (between p.ordered apart).0 (omega arith)
