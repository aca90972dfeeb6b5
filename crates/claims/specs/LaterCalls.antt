-- 01, "What the promise has to rule out": "Stepping on the first call and afterwards only raising the count". Such an advance is not the
-- one that the contract of `advance` promises (`counting_differs` in proofs/LaterCalls.antt).
use Rattle.std.specs.Prelude.{ℕ, ◌+◌, cond, List, [], ◌∷◌, ◌≡◌, eqb, Float, take}
use Rattle.vectors.specs.Powers.{one}
use Rattle.run.specs.declared.settings.Settings.{Settings}
use Rattle.run.specs.declared.settings.Record.{Record}
use Rattle.run.specs.Outcome.{spent}
use Rattle.run.specs.Tally.{ran}
use Rattle.run.specs.Calls.{accepted, AfterAdvance, advance_of, Session, calls}
use Rattle.run.specs.Demand.{begun, opened}
use Rattle.run.specs.OneCall.{session_at}
use Rattle.claims.specs.NotEmpty.{skipped_to, blank, memory, work, fresh, once}

-- "only raising the count"
abbrev pub raised_of : Record → (memory frames : List Float) → (budget : ℕ) → AfterAdvance
raised_of r memory frames budget =
    record {
      reply = ran spent 0;
      record' = record { settings = r.settings; time = r.time; steps = r.steps + budget; broken = r.broken };
      memory = memory;
      frames = frames;
    }

-- a record that has made no step is before its "first call"
unfoldable pub counting_of : Record → (memory work frames : List Float) → (budget : ℕ) → AfterAdvance
counting_of r memory work frames budget =
    cond (eqb r.steps 0) (advance_of r memory work frames budget) (raised_of r memory frames budget)

-- amplitude 0 and max time 1, which two steps do not reach
abbrev pub lasting : Settings
lasting = skipped_to one

-- what stands after the first
abbrev pub stepped : Session
stepped = session_at lasting memory 1

-- ---- the theorem: a begin that is accepted, a call after it, and one more that the two answer differently
pub record Differs (advance : Record → (memory work frames : List Float) → (budget : ℕ) → AfterAdvance) : Type 0 where
  pub begins : (begun lasting memory work (blank 0)).answer ≡ accepted (fresh lasting) 0
  pub first : calls (opened lasting memory work (blank 0) (fresh lasting) 0) (once 0 ∷ []) ≡ stepped
  pub second :
      advance stepped.record' (take 264 stepped.memory) work (blank 0) 1
      ≡ advance_of stepped.record' (take 264 stepped.memory) work (blank 0) 1 →
      ⊥
