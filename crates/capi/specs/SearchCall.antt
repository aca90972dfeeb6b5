-- What `collapse_search` answers, leaves in the slice for its result, and may leave changed in state and work memory: the search of the crate
-- threshold, between reading the settings of the record's slice and laying the bracket out. Definitions only.
use Rattle.std.specs.Prelude.{ℕ, cond, List, [], ◌∷◌, length, nat_lt, Float}
use Rattle.vectors.specs.Constants.{whole}
use Rattle.vectors.specs.Memory.{put}
use Rattle.run.specs.PlainRun.{option}
use Rattle.run.specs.declared.settings.Settings.{Settings}
use Rattle.threshold.specs.Halving.{Side, times_out, collapses, neither, refused_run, Why, used, adjacent, undecided, Bracket}
use Rattle.threshold.specs.Search.{Sought, refused_search, found, search_of, search_touched}
use Rattle.capi.specs.Layout.{settings_in}
use Rattle.capi.specs.Told.{no_record_number}

-- a slice too short for a result: a number of our own
abbrev pub short_result_number : ℕ
short_result_number = 102

-- why a search stopped: 0 and 1 for 02's first two reasons; for its third 2, or the number that the middle's run is refused with
unfoldable pub middle_number : Side → ℕ
middle_number times_out = 2
middle_number collapses = 2
middle_number neither = 2
middle_number (refused_run n) = n

unfoldable pub why_number : Why → ℕ
why_number used = 0
why_number adjacent = 1
why_number (undecided r) = middle_number r

-- "both ends, the halvings made and why it stopped"
unfoldable pub bracket_out : Bracket → List Float
bracket_out b = whole b.low ∷ whole b.high ∷ whole b.made ∷ whole (why_number b.why) ∷ []

-- the answer's number, and the slice for the result
pub record AfterSearch : Type 0 where
  pub number : ℕ
  pub result : List Float

abbrev pub after_search : (number : ℕ) (result : List Float) → AfterSearch
after_search number result = record { number = number; result = result }

-- 0 with the bracket laid out, or the refusal's number with nothing written
unfoldable pub sought_call : Sought → List Float → AfterSearch
sought_call (refused_search n) result = after_search n result
sought_call (found b) result = after_search 0 (put 0 (bracket_out b) result)

-- 101, then 102, then what the search answers
module _ (slice : List Float) (low high halvings : ℕ) where
  unfoldable pub search_call : (unit : Float) (budget state work : ℕ) → (result : List Float) → AfterSearch
  search_call unit budget state work result =
      option (settings_in slice)
      (λ s. cond (nat_lt (length result) 4)
      (after_search short_result_number result)
      (sought_call (search_of unit s budget state work low high halvings) result))
      (after_search no_record_number result)

  -- how many numbers of a memory, of which a run of settings s uses `count s`, the call may leave changed
  unfoldable pub search_call_touched : (state work result : ℕ) (count : Settings → ℕ) → ℕ
  search_call_touched state work result count =
      option (settings_in slice) (λ s. cond (nat_lt result 4) 0 (search_touched low high halvings s state work (count s))) 0
