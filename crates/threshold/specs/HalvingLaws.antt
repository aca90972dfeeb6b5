-- Laws of the halvings: the ways of one; and what they keep (`Kept`), which proofs/HalvingKept.antt proves.
use Rattle.std.specs.Prelude.{◌≡◌, ℕ, suc, ◌+◌, ◌-◌, ◌*◌, ◌^◌, ◌<◌, ◌≤◌, Bool, true, false, cond, ◌==◌, ◌≢◌}
use Rattle.std.proofs.Math.Path.{sym, ap}
use Rattle.std.proofs.Common.{◌∙◌, eq-eqb, ne_eqb}
use native.Mathlib.Omega.{arith}
use Rattle.threshold.specs.Halving.{Side, times_out, collapses, used, adjacent, undecided, Bracket, stop, middle, half, halve, StoppedBy}

-- ---- the ways of a halving
module _ (run : ℕ → Side) (left made low high : ℕ) where
  pub halve_none : left ≡ 0 → stop low high made used ≡ halve run left made low high
  unfolding halve
  halve_none e = ap (λ (n : ℕ). halve run n made low high) (sym e)

  -- the search of the half that remains
  abbrev pub further : ℕ → ℕ → Bracket
  further l h = halve run (left - 1) (made + 1) l h

  module _ (more : 0 < left) where
    halve_some :
        (b : Bool) → (high - low == 1) ≡ b →
        cond b (stop low high made adjacent) (half (run (middle low high)) low high made further) ≡ halve run left made low high
    unfolding halve
    halve_some b e =
        let one : left ≡ suc (left - 1) = omega arith in
        ap (λ (x : Bool). cond x (stop low high made adjacent) (half (run (middle low high)) low high made further)) (sym e)
        ∙ ap (λ (n : ℕ). halve run n made low high) (sym one)

    pub halve_adjacent : high - low ≡ 1 → stop low high made adjacent ≡ halve run left made low high
    halve_adjacent e = halve_some true (eq-eqb (high - low) 1 e)

    -- by what the middle's run answers
    pub halve_middle : (high - low ≢ 1) → (r : Side) → run (middle low high) ≡ r → half r low high made further ≡ halve run left made low high
    halve_middle apart r e =
        ap (λ (x : Side). half x low high made further) (sym e) ∙ halve_some false (ne_eqb (high - low) 1 apart)

-- ---- what they keep
module _ (run : ℕ → Side) where
  -- what the halvings keep
  pub record Kept (low high left made : ℕ) (b : Bracket) : Type 0 where
    pub ordered : b.low < b.high
    pub above : low ≤ b.low
    pub below : b.high ≤ high
    pub low_run : run b.low ≡ times_out
    pub high_run : run b.high ≡ collapses
    pub at_least : made ≤ b.made
    pub at_most : b.made ≤ made + left
    -- the gap is at most the first one over 2^(halvings made), rounded up
    pub gap : (c : ℕ) → high - low ≤ c * 2 ^ (b.made - made) → b.high - b.low ≤ c
    -- used exactly if every halving is made
    pub when_used : b.why ≡ used → b.made ≡ made + left
    pub all_made : b.made ≡ made + left → b.why ≡ used
    pub when_adjacent : b.why ≡ adjacent → (b.high ≡ b.low + 1) × (b.made < made + left)
    pub when_stopped : (r : Side) → b.why ≡ undecided r → StoppedBy run b.low b.high r × (b.made < made + left)
