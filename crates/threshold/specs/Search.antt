-- 02, request 1, "Find the threshold amplitude": what a search answers, by the plain run alone, and how much of the memories lent to it it may
-- leave changed. Definitions only.
use Rattle.std.specs.Prelude.{◌≡◌, ℕ, ◌+◌, ◌^◌, ◌<◌, ◌≤◌, Bool, true, false, cond, ◌&&◌, List, length, drop, negsuc, nat_le, nat_lt, Float}
use Rattle.std.specs.Prelude.{Option, None, Some}
use Rattle.std.specs.Float.{fin, binary64}
use Rattle.std.specs.Float.Ieee.{mul}
use Rattle.vectors.specs.Constants.{whole}
use Rattle.run.specs.declared.settings.Settings.{Settings}
use Rattle.run.specs.Model.{cell_count, work_count}
use Rattle.run.specs.Outcome.{collapse, broke, timeout, spent}
use Rattle.run.specs.PlainRun.{option}
use Rattle.run.specs.SkipRun.{Ran, not_begun, not_run, ran_to, ran_at, touched, Untouched}
use Rattle.threshold.specs.Halving.{Side, times_out, collapses, neither, refused_run, Bracket, halve}

-- "units 2^-40": 1 at the exponent -(1 + 39)
abbrev pub unit40 : Float
unit40 = fin false 1 (negsuc 39)

-- "whole numbers of units": so many, by one rounded product
abbrev pub amplitude_at : (unit : Float) (u : ℕ) → Float
amplitude_at unit u = mul binary64 (whole u) unit

-- what a run answers to a search; "one refused with 14 is neither" timeout nor collapse
abbrev pub side_of : Ran → Side
side_of (not_begun n) = refused_run n
side_of (not_run n) = refused_run n
side_of (ran_to (collapse m) k t) = collapses
side_of (ran_to broke k t) = neither
side_of (ran_to timeout k t) = times_out
side_of (ran_to spent k t) = neither

abbrev pub is_timeout : Side → Bool
is_timeout times_out = true
is_timeout collapses = false
is_timeout neither = false
is_timeout (refused_run n) = false

abbrev pub is_collapse : Side → Bool
is_collapse times_out = false
is_collapse collapses = true
is_collapse neither = false
is_collapse (refused_run n) = false

-- "begin's checks": the number that begin refused with
abbrev pub begun_refusal : Ran → Option ℕ
begun_refusal (not_begun n) = Some n
begun_refusal (not_run n) = None
begun_refusal (ran_to o k t) = None

-- "16 when the low end's run isn't timeout or the high end's isn't collapse .., after .. begin's checks for low, then high"
unfoldable pub ends_refusal : (low high : Ran) → Option ℕ
ends_refusal low high =
    option (begun_refusal low) Some
    (option (begun_refusal high) Some
    (cond (is_timeout (side_of low) && is_collapse (side_of high)) None (Some 16)))

-- "15 for ends not low < high <= 2^42 or halvings above 40, before any run"
abbrev pub is_asked : (low high halvings : ℕ) → Bool
is_asked low high halvings = nat_lt low high && (nat_le high (2 ^ 42) && nat_le halvings 40)

-- a refusal's number, or the bracket
pub data Sought : Type 0 where
  refused_search : ℕ → Sought
  found : Bracket → Sought

-- "settings, one budget per run", and memories of so many numbers
module _ (unit : Float) (s : Settings) (budget state work : ℕ) where
  -- the run at so many units
  abbrev pub ran_at_units : ℕ → Ran
  ran_at_units u = ran_at s (amplitude_at unit u) state work budget

  unfoldable pub side_at : ℕ → Side
  side_at u = side_of (ran_at_units u)

  -- between ends that may be asked for
  unfoldable pub sought_of : (low high halvings : ℕ) → Sought
  sought_of low high halvings =
      option (ends_refusal (ran_at_units low) (ran_at_units high)) refused_search (found (halve side_at halvings 0 low high))

  unfoldable pub search_of : (low high halvings : ℕ) → Sought
  search_of low high halvings = cond (is_asked low high halvings) (sought_of low high halvings) (refused_search 15)

-- "the state memory lent to a search counts as work memory": of `count` numbers of a memory that a run uses, none may change for 15, nor where begin
-- refuses with 5, 6, 7 or 11
unfoldable pub search_touched : (low high halvings : ℕ) → Settings → (state work count : ℕ) → ℕ
search_touched low high halvings s state work count = cond (is_asked low high halvings) (touched s state work count) 0

-- ends and halvings that may be asked for, with so many made
pub record Ends (low high left made : ℕ) : Type 0 where
  pub ordered : low < high
  pub small : high ≤ 2 ^ 42
  pub few : made + left ≤ 40

module _ (unit : Float) (s : Settings) (low high : ℕ) where
  -- what the halvings answer and leave
  pub record Halved (left made budget : ℕ) (state work : List Float) (b : Bracket) (state' work' : List Float) : Type 0 where
    pub answer : b ≡ halve (side_at unit s budget (length state) (length work)) left made low high
    pub untouched : Untouched s state work state' work'

  -- what a search between such ends answers and leaves
  pub record Found (halvings budget : ℕ) (state work : List Float) (b : Sought) (state' work' : List Float) : Type 0 where
    pub answer : b ≡ sought_of unit s budget (length state) (length work) low high halvings
    pub untouched : Untouched s state work state' work'

  -- what every search answers and leaves
  pub record SearchDone (halvings budget : ℕ) (state work : List Float) (b : Sought) (state' work' : List Float) : Type 0 where
    pub answer : b ≡ search_of unit s budget (length state) (length work) low high halvings
    pub state_is :
        drop (search_touched low high halvings s (length state) (length work) (cell_count s)) state'
        ≡ drop (search_touched low high halvings s (length state) (length work) (cell_count s)) state
    pub work_is :
        drop (search_touched low high halvings s (length state) (length work) (work_count s)) work'
        ≡ drop (search_touched low high halvings s (length state) (length work) (work_count s)) work
