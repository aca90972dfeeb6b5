-- 01, "Plain run": how a run stands after its attempts.
use Rattle.std.specs.Prelude.{Float}
use Rattle.run.specs.declared.outcome.Outcome as declared
use Rattle.run.specs.declared.outcome.Outcome.TheVariants as variant

-- "collapse with mass, else broken, else timeout, else spent"
pub data Outcome : Type 0 where
  collapse : Float → Outcome
  broke : Outcome
  timeout : Outcome
  spent : Outcome

-- the outcome that each case of the enum in src/outcome.rt stands for
abbrev pub meant_by : declared.Outcome → Outcome
meant_by (variant.Collapse mass) = collapse mass
meant_by variant.Broken = broke
meant_by variant.Timeout = timeout
meant_by variant.Spent = spent
