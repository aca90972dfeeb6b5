-- The halvings, with the memories that they leave.
use Rattle.std.specs.Prelude.{◌≡◌, ℕ, ◌+◌, ◌-◌, ◌<◌, List, length, Float}
use Rattle.std.proofs.Common.{sym, ◌∙◌}
use Rattle.std.proofs.Math.Path.{ap, ap₂}
use Rattle.run.specs.declared.settings.Settings.{Settings}
use Rattle.run.specs.SkipRun.{Ran, SkipRan}
use Rattle.threshold.specs.Halving.{Side, used, adjacent, Bracket, stop, middle, half, halve}
use Rattle.threshold.specs.HalvingLaws.{further, halve_none, halve_adjacent, halve_middle}
use Rattle.threshold.specs.Search.{amplitude_at, side_of, side_at, Halved}
use Rattle.threshold.specs.SearchLaws.{untouched_none, untouched_both}

module _ (unit : Float) (s : Settings) (low high left made budget : ℕ) (state work : List Float) where
  abbrev run : ℕ → Side
  run = side_at unit s budget (length state) (length work)

  pub halved_none : (b : Bracket) → left ≡ 0 → b ≡ stop low high made used → Halved unit s low high left made budget state work b state work
  halved_none b e q = record { answer = q ∙ halve_none run left made low high e; untouched = untouched_none s state work }

  pub halved_adjacent :
      (b : Bracket) → 0 < left → high - low ≡ 1 → b ≡ stop low high made adjacent → Halved unit s low high left made budget state work b state work
  halved_adjacent b l e q = record { answer = q ∙ halve_adjacent run left made low high l e; untouched = untouched_none s state work }

  -- after the middle's run, which answers x
  module _
      (more : 0 < left) (apart : high - low ≡ 1 → ⊥) (r : Ran) (state₁ work₁ : List Float)
      (ran : SkipRan s (amplitude_at unit (middle low high)) budget state work r state₁ work₁) (x : Side) (is : x ≡ side_of r) where
    by_middle : half x low high made (further run left made low high) ≡ halve run left made low high
    unfolding side_at
    by_middle = halve_middle run left made low high more apart x (sym (is ∙ ap side_of ran.answer))

    -- it stops
    pub halved_stopped : (b : Bracket) → b ≡ half x low high made (further run left made low high) → Halved unit s low high left made budget state work b state₁ work₁
    halved_stopped b q = record { answer = q ∙ by_middle; untouched = ran.untouched }

    -- or goes on between l and h
    pub halved_further :
        length state₁ ≡ length state → length work₁ ≡ length work → (l h : ℕ) → ((go : ℕ → ℕ → Bracket) → go l h ≡ half x low high made go) →
        (b : Bracket) (state₂ work₂ : List Float) → Halved unit s l h (left - 1) (made + 1) budget state₁ work₁ b state₂ work₂ →
        Halved unit s low high left made budget state work b state₂ work₂
    halved_further long long-work l h remains b state₂ work₂ f =
        record {
          answer =
              f.answer
              ∙ ap₂ (λ (i j : ℕ). halve (side_at unit s budget i j) (left - 1) (made + 1) l h) long long-work
              ∙ remains (further run left made low high)
              ∙ by_middle;
          untouched = untouched_both s state work state₁ work₁ state₂ work₂ long long-work ran.untouched f.untouched;
        }
