-- No number stands for two answers: a refusal that 01 or 02 has carries the number that they list for its call, and the numbers of our own
-- are no document's: all of them are at least 100. Below the number of full an answer is a refusal, or the 0 of begin, of the search and of the spelling.
use Rattle.std.specs.Prelude.{◌≡◌, ℕ, zero, suc, ◌+◌, ◌≤◌, Bool, true, false, cond, ◌&&◌, ◌||◌, ltb, List, [], ◌∷◌, ◌++◌, length, ◌==◌, nat_le, nat_lt, Float}
use Rattle.std.proofs.Math.Path.{refl}
use Rattle.std.proofs.Common.{ap, ◌∙◌, inl, inr, arith}
use Rattle.std.proofs.lemmas.Bool.{false≢true}
use Rattle.std.specs.Prelude.{Option, None, Some}
use Rattle.vectors.specs.MemoryLaws.{side}
use Rattle.run.specs.Calls.{Stop, record_of, machine_of, with_state, with_frames, refused_begin, accepted, AfterBegin, begin_refusal, begin_of, AfterAdvance, left_by, advance_refusal, advance_of, is_full, attempts_from}
use Rattle.run.specs.Outcome.{Outcome, collapse, broke, timeout, spent}
use Rattle.run.specs.PlainRun.{Machine, option, start, outcome_of, attempt}
use Rattle.run.specs.Tally.{refused, full, ran}
use Rattle.run.specs.declared.settings.Settings.{Settings}
use Rattle.run.specs.declared.settings.Record.{Record}
use Rattle.run.specs.Order.{Read, Refused, Order}
use Rattle.run.specs.Order.{read_order}
use Rattle.run.specs.Report.{no_room_for_text}
use Rattle.threshold.specs.Search.{Sought, refused_search, found, search_of}
use Rattle.claims.specs.RefusalNumbers.{among, refusal_among, among_longer, begin_refusals, advance_refusals, search_refusals, sought_refusal, begin_refusals_lem, advance_refusals_lem, search_refusals_lem}
use Rattle.claims.proofs.FaultExactly.{refused_number}
use Rattle.order_forms.specs.Spelling.{AfterSpelling, spelling}
use Rattle.order_forms.specs.SpellingAnswers.{spelling_refused, spelling_short, spelling_written}
use Rattle.capi.specs.Layout.{settings_in, record_in}
use Rattle.capi.specs.SearchCall.{short_result_number, after_search, sought_call, search_call}
use Rattle.capi.specs.SpellCall.{spell_number, spelled_call, spell_call}
use Rattle.capi.specs.Told.{no_record_number, full_number, collapse_number, broken_number, timeout_number, spent_number, no_record, began_number, began_call, begin_call, told_of, advanced_call, advance_call}

-- how a run stands after an advance
abbrev pub attempts_numbers : List ℕ
attempts_numbers = full_number ∷ collapse_number ∷ broken_number ∷ timeout_number ∷ spent_number ∷ []

-- all that are our own
abbrev pub own_numbers : List ℕ
own_numbers = no_room_for_text ∷ no_record_number ∷ short_result_number ∷ attempts_numbers

-- 02, request 2: "17 for that shortage, after the reader's 1 to 4"
abbrev pub spell_refusals : List ℕ
spell_refusals = 1 ∷ 2 ∷ 3 ∷ 4 ∷ 17 ∷ []

-- every refusal that 01 or 02 has for a call
abbrev pub document_refusals : List ℕ
document_refusals = begin_refusals ++ advance_refusals ++ search_refusals ++ spell_refusals

-- whether every number of a list passes a test
unfoldable pub every : (ℕ → Bool) → List ℕ → Bool
every test [] = true
every test (x ∷ xs) = test x && every test xs

-- all of ours are at least 100, and no document's refusal is
pub own_from_100 : every (nat_le 100) own_numbers ≡ true
unfolding every
own_from_100 = refl

pub refusals_below_100 : every (λ n. ltb n 100) document_refusals ≡ true
unfolding every
refusals_below_100 = refl

-- so `answer < COLLAPSE_FULL` means refused, begun, found or spelled
pub refused_below_full : every (λ n. ltb n full_number) (0 ∷ no_record_number ∷ short_result_number ∷ document_refusals) ≡ true
unfolding every
refused_below_full = refl

pub attempts_from_full : every (nat_le full_number) attempts_numbers ≡ true
unfolding every
attempts_from_full = refl

outcome_among : (o : Outcome) (k : ℕ) → among attempts_numbers (told_of (ran o k)).number ≡ true
unfolding told_of among
outcome_among (collapse m) k = refl
outcome_among broke k = refl
outcome_among timeout k = refl
outcome_among spent k = refl

pub attempts_numbers_lem : (s : Settings) (room left made : ℕ) (m : Machine) → among attempts_numbers (told_of (attempts_from s room left made m).reply).number ≡ true
unfolding attempts_from told_of among
attempts_numbers_lem s room zero made m = outcome_among (outcome_of s m) (length m.frames)
attempts_numbers_lem s room (suc left) made m = go (is_full s room m) (attempts_numbers_lem s room left (made + 1) (attempt s m))
  where
    go : (b : Bool) → among attempts_numbers (told_of (attempts_from s room left (made + 1) (attempt s m)).reply).number ≡ true
        → among attempts_numbers
        (told_of (cond {A = Stop} b (record { reply = full made (length m.frames); machine = m }) (attempts_from s room left (made + 1) (attempt s m))).reply).number
        ≡ true
    go true e = refl
    go false e = e

-- ---- what the calls answer
joined_left : (n : ℕ) (xs ys : List ℕ) → among xs n ≡ true → among (xs ++ ys) n ≡ true
unfolding among
joined_left n [] ys e = absurd (false≢true e)
joined_left n (x ∷ xs) ys e = go (n == x) e (joined_left n xs ys)
  where
    go : (b : Bool) → (b || among xs n) ≡ true → (among xs n ≡ true → among (xs ++ ys) n ≡ true) → (b || among (xs ++ ys) n) ≡ true
    go true h later = refl
    go false h later = later h

joined_right : (n : ℕ) (xs ys : List ℕ) → among ys n ≡ true → among (xs ++ ys) n ≡ true
joined_right n [] ys e = e
joined_right n (x ∷ xs) ys e = among_longer x n (xs ++ ys) (joined_right n xs ys e)

-- the number of an answer that is a refusal among xs, or another
answered :
    {A : Type 0} (number : A → ℕ) (xs numbers : List ℕ) (o : Option ℕ) (refusing : ℕ → A) (other : A) →
    ((n : ℕ) → among xs n ≡ true → among numbers (number (refusing n)) ≡ true) → among numbers (number other) ≡ true →
    refusal_among xs o ≡ true → among numbers (number (option o refusing other)) ≡ true
answered number xs numbers None refusing other f g e = g
answered number xs numbers (Some n) refusing other f g e = f n e

module _ (slice memory work frames : List Float) where
  begun_number : (s : Settings) → among (0 ∷ no_record_number ∷ begin_refusals) (began_number (begin_of s memory work frames).answer) ≡ true
  unfolding begin_of began_number among
  begun_number s =
      answered (λ (b : AfterBegin). began_number b.answer) begin_refusals (0 ∷ no_record_number ∷ begin_refusals)
      (begin_refusal s (length memory) (length work) (length frames))
      (λ n. record { answer = refused_begin n; memory = memory; frames = frames })
      (record {
        answer = accepted (record_of s (start s)) (length (start s).frames);
        memory = with_state (start s).state memory;
        frames = with_frames (start s).frames frames;
      })
      (λ n e. among_longer 0 n (no_record_number ∷ begin_refusals) (among_longer no_record_number n begin_refusals e)) refl
      (begin_refusals_lem s (length memory) (length work) (length frames))

  -- begin: 0, no record, or a refusal that 01 lists for it
  pub begin_number : among (0 ∷ no_record_number ∷ begin_refusals) (begin_call slice memory work frames).number ≡ true
  unfolding begin_call began_call no_record among
  begin_number = go (settings_in slice)
    where
      go : (o : Option Settings) →
          among (0 ∷ no_record_number ∷ begin_refusals)
          (option o (λ s. began_call slice (begin_of s memory work frames)) (no_record slice memory frames)).number
          ≡ true
      go None = refl
      go (Some s) = begun_number s

  advanced_number : (budget : ℕ) (r : Record) →
      among (no_record_number ∷ (advance_refusals ++ attempts_numbers)) (told_of (advance_of r memory work frames budget).reply).number ≡ true
  unfolding advance_of told_of among
  advanced_number budget r =
      let stop = attempts_from r.settings (length frames) budget 0 (machine_of r memory) in
      answered (λ (d : AfterAdvance). (told_of d.reply).number) advance_refusals (no_record_number ∷ (advance_refusals ++ attempts_numbers))
      (advance_refusal r memory (length work) budget)
      (λ n. record { reply = refused n; record' = r; memory = memory; frames = frames })
      (left_by r.settings memory frames stop)
      (λ n e. among_longer no_record_number n (advance_refusals ++ attempts_numbers) (joined_left n advance_refusals attempts_numbers e))
      (among_longer no_record_number (told_of stop.reply).number (advance_refusals ++ attempts_numbers)
      (joined_right (told_of stop.reply).number advance_refusals attempts_numbers
      (attempts_numbers_lem r.settings (length frames) budget 0 (machine_of r memory))))
      (advance_refusals_lem r memory (length work) budget)

  -- advance: no record, a refusal that 01 lists for it, or how the run stands
  pub advance_number : (budget : ℕ) → among (no_record_number ∷ (advance_refusals ++ attempts_numbers)) (advance_call slice memory work frames budget).number ≡ true
  unfolding advance_call advanced_call no_record among
  advance_number budget = go (record_in slice)
    where
      go : (o : Option Record) →
          among (no_record_number ∷ (advance_refusals ++ attempts_numbers))
          (option o (λ r. advanced_call slice (advance_of r memory work frames budget)) (no_record slice memory frames)).number
          ≡ true
      go None = refl
      go (Some r) = advanced_number budget r

-- the search: 0, no record, a result slice too short, or a refusal that 02 lists for it
abbrev pub search_numbers : List ℕ
search_numbers = 0 ∷ no_record_number ∷ short_result_number ∷ search_refusals

sought_number : (b : Sought) (result : List Float) → refusal_among search_refusals (sought_refusal b) ≡ true → among search_numbers (sought_call b result).number ≡ true
unfolding sought_call among
sought_number (refused_search n) result e =
    among_longer 0 n (no_record_number ∷ short_result_number ∷ search_refusals)
    (among_longer no_record_number n (short_result_number ∷ search_refusals) (among_longer short_result_number n search_refusals e))
sought_number (found b) result e = refl

pub search_number :
    (slice : List Float) (low high halvings : ℕ) (unit : Float) (budget state work : ℕ) (result : List Float) →
    among search_numbers (search_call slice low high halvings unit budget state work result).number ≡ true
unfolding search_call among
search_number slice low high halvings unit budget state work result = go (settings_in slice) (nat_lt (length result) 4)
  where
    go : (o : Option Settings) (b : Bool) →
        among search_numbers
        (option o (λ s. cond b (after_search short_result_number result) (sought_call (search_of unit s budget state work low high halvings) result)) (after_search no_record_number result)).number
        ≡ true
    go None b = refl
    go (Some s) true = refl
    go (Some s) false = sought_number (search_of unit s budget state work low high halvings) result (search_refusals_lem unit s budget state work low high halvings)

-- the spelling: 0, or a refusal that 02 lists for it
abbrev pub spell_numbers : List ℕ
spell_numbers = 0 ∷ spell_refusals

reader_among : (n : ℕ) → 1 ≤ n → n ≤ 4 → among spell_numbers n ≡ true
unfolding among
reader_among zero h k = absurd (omega arith)
reader_among (suc zero) h k = refl
reader_among (suc (suc zero)) h k = refl
reader_among (suc (suc (suc zero))) h k = refl
reader_among (suc (suc (suc (suc zero)))) h k = refl
reader_among (suc (suc (suc (suc (suc n))))) h k = absurd (omega arith)

pub spell_number_lem : (order bytes : List ℕ) (position : ℕ) → among spell_numbers (spell_call order bytes position).number ≡ true
unfolding spell_call spelled_call spell_number among
spell_number_lem order bytes position = go (read_order order) refl
  where
    told : AfterSpelling → Bool
    told a = among spell_numbers (spell_number a.answer)

    go : (r : Read) → read_order order ≡ r → told (spelling order bytes) ≡ true
    go (Refused n at) e = let k = refused_number order n at e in ap told (spelling_refused order bytes n at e) ∙ reader_among n k.0 k.1
    go (Order set p) e = elim (side (length bytes) (length order)) [
      | inl h ↦ ap told (spelling_short order bytes set p e h)
      | inr h ↦ ap told (spelling_written order bytes set p e h)
    ]
