-- Which numbers begin, advance and the search refuse with: those that 01 and 02 list for each, and begin with the program's memories never 12.
use Rattle.std.specs.Prelude.{◌≡◌, Bool, cond, not, ◌||◌, ◌&&◌, List, [], ◌∷◌, ℕ, ◌≤◌, eqb, ltb, Float, length}
use Rattle.std.proofs.Math.Path.{refl, ap}
use Rattle.std.proofs.Common.{◌∙◌, true≢false, arith, pow_mono, ltb-true, ltb-false}
use Rattle.std.proofs.Math.Bool.{true, false}
use Rattle.std.specs.Prelude.{Option, None, Some}
use Rattle.vectors.specs.Grid.{level_in_range}
use Rattle.vectors.specs.GridLaws.{points_in}
use Rattle.run.specs.declared.settings.Settings.{Settings}
use Rattle.run.specs.declared.settings.Record.{Record}
use Rattle.run.specs.CarryOutLaws.{lent_lengths}
use Rattle.run.specs.Calls.{machine_of, lent_refusal, begin_refusal, advance_refusal}
use Rattle.run.specs.FramesLaws.{frame_size_accepted}
use Rattle.run.specs.Inputs as inputs
use Rattle.run.specs.Inputs.{interval_too_short, dx_too_fine}
use Rattle.run.specs.Model.{fault_at, cell_count, work_count, frame_count, holds_nan, first_state}
use Rattle.run.specs.ModelLaws.{sound_settings}
use Rattle.run.specs.OrderLines.{lent_state, lent_work, lent_frames}
use Rattle.run.specs.PlainRun.{option, has_ended}
use Rattle.run.specs.SkipRun.{skipping, ran_at}
use Rattle.run.specs.Tally.{too_short, too_many}
use Rattle.threshold.specs.Halving.{halve}
use Rattle.threshold.specs.Search.{amplitude_at, side_of, is_timeout, is_collapse, begun_refusal, ends_refusal, is_asked, Sought, refused_search, found, side_at, sought_of, search_of}
use Rattle.threshold.specs.SearchLaws.{begun_refusal_lem}

-- whether a number stands in a list
unfoldable pub among : List ℕ → ℕ → Bool
among [] n = false
among (x ∷ xs) n = eqb n x || among xs n

-- the same of a refusal's number; where nothing is refused, yes
abbrev pub refusal_among : List ℕ → Option ℕ → Bool
refusal_among xs None = true
refusal_among xs (Some n) = among xs n

pub among_longer : (x n : ℕ) (xs : List ℕ) → among xs n ≡ true → among (x ∷ xs) n ≡ true
unfolding among
among_longer x n xs e = go (eqb n x)
  where
    go : (b : Bool) → (b || among xs n) ≡ true
    go true = refl
    go false = e

-- "Begin: 5, 6, 7, 11, 12, 13" and "Advance: 5, 6, 7, 11, 14" (01, "From the state")
abbrev pub begin_refusals : List ℕ
begin_refusals = 5 ∷ 6 ∷ 7 ∷ 11 ∷ 12 ∷ 13 ∷ []

abbrev pub advance_refusals : List ℕ
advance_refusals = 5 ∷ 6 ∷ 7 ∷ 11 ∷ 14 ∷ []

-- of these, those that begin has with the memories of the program, which hold a frame of every level that they suffice for
abbrev pub program_refusals : List ℕ
program_refusals = 5 ∷ 6 ∷ 7 ∷ 11 ∷ 13 ∷ []

module _ (xs : List ℕ) where
  either : (b : Bool) (o p : Option ℕ) → refusal_among xs o ≡ true → refusal_among xs p ≡ true → refusal_among xs (cond b o p) ≡ true
  either true o p e f = e
  either false o p e f = f

  or_else : (o p : Option ℕ) → refusal_among xs o ≡ true → refusal_among xs p ≡ true → refusal_among xs (option o Some p) ≡ true
  or_else None p e f = f
  or_else (Some n) p e f = e

  fault_among : (s : Settings) → among xs 5 ≡ true → among xs 6 ≡ true → among xs 7 ≡ true → refusal_among xs (fault_at s) ≡ true
  unfolding fault_at inputs.fault_at
  fault_among s five six seven =
      either (level_in_range s.level) _ (Some 5) (either (interval_too_short s) (Some 6) _ six (either (dx_too_fine s) (Some 7) None seven refl)) five

pub begin_refusals_lem : (s : Settings) (state work frames : ℕ) → refusal_among begin_refusals (begin_refusal s state work frames) ≡ true
unfolding begin_refusal lent_refusal among
begin_refusals_lem s state work frames =
    or_else begin_refusals (lent_refusal s state work frames) _
    (or_else begin_refusals (fault_at s) _ (fault_among begin_refusals s refl refl refl)
    (either begin_refusals (too_short s state work) (Some 11) _ refl
    (either begin_refusals (not s.skip && ltb frames (frame_count s)) (Some 12) None refl refl)))
    (either begin_refusals (holds_nan (first_state s)) (Some 13) None refl refl)

pub advance_refusals_lem : (r : Record) (memory : List Float) (work budget : ℕ) → refusal_among advance_refusals (advance_refusal r memory work budget) ≡ true
unfolding advance_refusal among
advance_refusals_lem r memory work budget =
    let s = r.settings in
    or_else advance_refusals (fault_at s) _ (fault_among advance_refusals s refl refl refl)
    (either advance_refusals (too_short s (length memory) work) (Some 11) _ refl
    (either advance_refusals (too_many (has_ended s (machine_of r memory)) r.steps budget) (Some 14) None refl refl))

-- ---- the search
-- 02, request 1: "15 for ends .., before any run; 16 .., after 15 and begin's checks"; a begin with skip is never refused with 12
abbrev pub search_refusals : List ℕ
search_refusals = 5 ∷ 6 ∷ 7 ∷ 11 ∷ 13 ∷ 15 ∷ 16 ∷ []

-- where a search is refused
abbrev pub sought_refusal : Sought → Option ℕ
sought_refusal (refused_search n) = Some n
sought_refusal (found b) = None

module _ (unit : Float) (s : Settings) (budget state work : ℕ) where
  begun_refusals : (a : Float) → refusal_among search_refusals (begun_refusal (ran_at s a state work budget)) ≡ true
  unfolding begin_refusal lent_refusal among
  begun_refusals a =
      let t = skipping s a in
      ap (refusal_among search_refusals) (begun_refusal_lem s a state work budget)
      ∙ or_else search_refusals (lent_refusal t state work 0) _
      (or_else search_refusals (fault_at t) _ (fault_among search_refusals t refl refl refl)
      (either search_refusals (too_short t state work) (Some 11) None refl refl))
      (either search_refusals (holds_nan (first_state t)) (Some 13) None refl refl)

  ends_refusals : (a b : Float) → refusal_among search_refusals (ends_refusal (ran_at s a state work budget) (ran_at s b state work budget)) ≡ true
  unfolding ends_refusal among
  ends_refusals a b =
      or_else search_refusals (begun_refusal (ran_at s a state work budget)) _ (begun_refusals a)
      (or_else search_refusals (begun_refusal (ran_at s b state work budget)) _ (begun_refusals b)
      (either search_refusals (is_timeout (side_of (ran_at s a state work budget)) && is_collapse (side_of (ran_at s b state work budget))) None (Some 16) refl refl))

  pub search_refusals_lem : (low high halvings : ℕ) → refusal_among search_refusals (sought_refusal (search_of unit s budget state work low high halvings)) ≡ true
  unfolding search_of sought_of among
  search_refusals_lem low high halvings =
      go (is_asked low high halvings) (ends_refusal (ran_at s (amplitude_at unit low) state work budget) (ran_at s (amplitude_at unit high) state work budget))
      (ends_refusals (amplitude_at unit low) (amplitude_at unit high))
    where
      go : (b : Bool) (o : Option ℕ) → refusal_among search_refusals o ≡ true
          → refusal_among search_refusals
          (sought_refusal (cond b (option o refused_search (found (halve (side_at unit s budget state work) halvings 0 low high))) (refused_search 15)))
          ≡ true
      go false o e = refl
      go true None e = refl
      go true (Some n) e = e

-- ---- the program
-- a frame has at most 1,163 numbers where state memory for level 7 suffices
program_frames : (s : Settings) → fault_at s ≡ None → too_short s lent_state lent_work ≡ false → frame_count s ≤ lent_frames
unfolding frame_count
program_frames s sound fits = go (ltb lent_state (cell_count s)) refl fits
  where
    go : (b : Bool) → ltb lent_state (cell_count s) ≡ b → (b || ltb lent_work (work_count s)) ≡ false → frame_count s ≤ lent_frames
    go true e h = absurd (true≢false h)
    go false e h =
        let a = sound_settings s sound in
        omega (arith, lent_lengths.0, ltb-false lent_state (cell_count s) e, points_in a.level, pow_mono {i = s.dx_level} {j = s.level} a.dx, frame_size_accepted a)

pub program_refusals_lem : (s : Settings) → refusal_among program_refusals (begin_refusal s lent_state lent_work lent_frames) ≡ true
unfolding begin_refusal lent_refusal among
program_refusals_lem s =
    or_else program_refusals (lent_refusal s lent_state lent_work lent_frames) _
    (go (fault_at s) refl (fault_among program_refusals s refl refl refl) (too_short s lent_state lent_work) refl (ltb lent_frames (frame_count s)) refl)
    (either program_refusals (holds_nan (first_state s)) (Some 13) None refl refl)
  where
    go :
        (o : Option ℕ) → fault_at s ≡ o → refusal_among program_refusals o ≡ true → (a : Bool) → too_short s lent_state lent_work ≡ a →
        (b : Bool) → ltb lent_frames (frame_count s) ≡ b →
        refusal_among program_refusals (option o Some (cond a (Some 11) (cond (not s.skip && b) (Some 12) None))) ≡ true
    go (Some n) ho h a ha b hb = h
    go None ho h true ha b hb = refl
    go None ho h false ha true hb = let m = program_frames s ho ha in absurd (omega (arith, ltb-true lent_frames (frame_count s) hb))
    go None ho h false ha false hb = unframed s.skip
      where
        unframed : (x : Bool) → refusal_among program_refusals (cond (not x && false) (Some 12) None) ≡ true
        unframed true = refl
        unframed false = refl
