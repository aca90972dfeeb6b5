-- Laws of what the search answers, by what the slice holds and how long the result's is.
use Rattle.std.specs.Prelude.{◌≡◌, ℕ, ◌<◌, ◌≤◌, List, length, Float}
use Rattle.std.proofs.Common.{◌∙◌}
use Rattle.std.proofs.Math.Path.{ap}
use Rattle.std.specs.Prelude.{None, Some, Result}
use borrow.Author.Tests.{lt-ltb, le-ltb}
use Rattle.run.specs.declared.settings.Settings.{Settings}
use Rattle.threshold.specs.Answers.{searched_of}
use Rattle.threshold.specs.Search.{Sought, search_of, search_touched}
use Rattle.threshold.specs.declared.Bracket as bracket
use Rattle.threshold.specs.declared.refusal.Refusal.{Refusal}
use Rattle.capi.specs.Layout.{settings_in}
use Rattle.capi.specs.SearchCall.{short_result_number, after_search, sought_call, search_call, search_call_touched}
use Rattle.capi.specs.Told.{no_record_number}

-- an answer whose case is known
pub searched_is : {a b : Result bracket.Bracket Refusal} (n : ℕ) (result after : List Float) → a ≡ b → after_search n after ≡ sought_call (searched_of b) result
    → after_search n after ≡ sought_call (searched_of a) result
searched_is n result after e f = rw e f

module _ (slice : List Float) (low high halvings : ℕ) (state work : ℕ) (result : List Float) where
  pub search_none : (unit : Float) (budget : ℕ) → settings_in slice ≡ None
      → after_search no_record_number result ≡ search_call slice low high halvings unit budget state work result
  unfolding search_call
  search_none unit budget e = rw e

  pub search_short : (unit : Float) (budget : ℕ) (s : Settings) → settings_in slice ≡ Some s → length result < 4
      → after_search short_result_number result ≡ search_call slice low high halvings unit budget state work result
  unfolding search_call
  search_short unit budget s e h = rw (e, lt-ltb (length result) 4 h)

  module _ (s : Settings) (held : settings_in slice ≡ Some s) (long : 4 ≤ length result) where
    pub search_told : (unit : Float) (budget : ℕ) (b : Sought) (n : ℕ) (result' : List Float) → b ≡ search_of unit s budget state work low high halvings
        → after_search n result' ≡ sought_call b result → after_search n result' ≡ search_call slice low high halvings unit budget state work result
    unfolding search_call
    search_told unit budget b n result' e f = f ∙ ap (λ (x : Sought). sought_call x result) e ∙ rw (held, le-ltb (length result) 4 long)

    pub touched_is : (count : Settings → ℕ) → search_touched low high halvings s state work (count s) ≡ search_call_touched slice low high halvings state work (length result) count
    unfolding search_call_touched
    touched_is count = rw (held, le-ltb (length result) 4 long)
