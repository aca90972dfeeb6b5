-- A begin and one advance with skip answer `ran_at`, and leave the numbers behind `touched` as they were.
use Rattle.std.specs.Prelude.{◌≡◌, ℕ, ◌+◌, ◌-◌, ◌≤◌, Bool, true, false, cond, ◌||◌, List, [], ◌∷◌, ◌++◌, length, take, drop, nat_lt, Float}
use Rattle.std.proofs.Common.{true≢false, append-nil, sym, ◌∙◌, le_of_eq, arith, ltb-false, drop-drop}
use Rattle.std.specs.Prelude.{Option, None, Some, Result}
use Rattle.std.proofs.Math.Path.{refl, ap}
use Rattle.std.proofs.Math.Seq.{take_all, drop-length}
use Rattle.run.specs.declared.settings.Settings.{Settings}
use Rattle.run.specs.declared.settings.Record.{Record}
use Rattle.run.specs.declared.refusal.Refusal.{Refusal}
use Rattle.run.specs.declared.simulate.Advanced.{Advanced}
use Rattle.run.specs.declared.simulate.Begun.{Begun}
use Rattle.run.specs.Inputs as inputs
use Rattle.run.specs.Model.{fault_at, cell_count, work_count}
use Rattle.run.specs.ModelLaws.{some_not_none}
use Rattle.run.specs.PlainRun.{option, has_ended, outcome_of, start, plain_run}
use Rattle.run.specs.Tally.{Reply, too_many}
use Rattle.run.specs.Calls.{refused_begin, accepted, AfterBegin, AfterAdvance, lent_refusal, begin_refusal, begin_of, begin_uses, advance_refusal, advance_of, advance_uses, is_idle, Call, call, calls}
use Rattle.run.specs.Demand.{begun}
use Rattle.run.specs.DemandProof.{clash, demand3}
use Rattle.run.specs.OrderLinesLaws.{lendable}
use Rattle.run.specs.BeginLaws.{begin_leaves}
use Rattle.run.specs.SkippedRun.{refused_14, skipped_advance}
use Rattle.run.specs.Answers.{reply_of, began_of, after_begin, after_advance}
use Rattle.run.specs.SkipRun.{skipping, Ran, not_begun, not_run, ran_to, ran_at, touched, ran_by, SkipRan}

-- ---- memories
pub drop_on : (i j : ℕ) (xs ys : List Float) → i ≤ j → drop i xs ≡ drop i ys → drop j xs ≡ drop j ys
drop_on i j xs ys h e =
    let z : i + (j - i) ≡ j = omega arith in
    ap (λ (n : ℕ). drop n xs) (sym z)
    ∙ sym (drop-drop (j - i) i xs)
    ∙ ap (drop (j - i)) e
    ∙ drop-drop (j - i) i ys
    ∙ ap (λ (n : ℕ). drop n ys) z

-- what begin refuses before the initial state is made does not depend on the amplitude
pub lent_same : (s : Settings) (a b : Float) (state work frames : ℕ) → lent_refusal (skipping s a) state work frames ≡ lent_refusal (skipping s b) state work frames
unfolding lent_refusal fault_at inputs.fault_at
lent_same s a b state work frames = refl

module _ (s : Settings) (a : Float) (state work frames : List Float) (bare : length frames ≡ 0) where
  abbrev t : Settings
  t = skipping s a

  abbrev lent_to : ℕ → Option ℕ
  lent_to n = lent_refusal t (length state) (length work) n

  touched_is : (count : ℕ) → touched s (length state) (length work) count ≡ option (lent_to (length frames)) (λ n. 0) count
  unfolding touched
  touched_is count =
      ap (λ (o : Option ℕ). option o (λ n. 0) count)
      (lent_same s s.amplitude a (length state) (length work) 0 ∙ ap lent_to (sym bare))

  uses_is : touched s (length state) (length work) (work_count s) ≡ begin_uses t (length state) (length work) (length frames)
  unfolding begin_uses
  uses_is = touched_is (work_count s)

  touched_none : begin_refusal t (length state) (length work) (length frames) ≡ None → (count : ℕ) → touched s (length state) (length work) count ≡ count
  unfolding begin_refusal
  touched_none e count = touched_is count ∙ go (lent_to (length frames)) _ e
    where
      go : (o p : Option ℕ) → ◌≡◌ {A = Option ℕ} (option o Some p) None → option o (λ n. 0) count ≡ count
      go (Some n) p h = absurd (some_not_none n h)
      go None p h = refl

  refusal_at_lem : (o : Option ℕ) → begin_refusal t (length state) (length work) (length frames) ≡ o → begin_refusal t (length state) (length work) 0 ≡ o
  refusal_at_lem o e = ap (begin_refusal t (length state) (length work)) (sym bare) ∙ e

  module _ (budget : ℕ) where
    ran_refused : (n : ℕ) → begin_refusal t (length state) (length work) 0 ≡ Some n → not_begun n ≡ ran_at s a (length state) (length work) budget
    unfolding ran_at
    ran_refused n e = rw e

    ran_many :
        begin_refusal t (length state) (length work) 0 ≡ None → too_many (has_ended t (start t)) 0 budget ≡ true →
        not_run 14 ≡ ran_at s a (length state) (length work) budget
    unfolding ran_at
    ran_many e h = rw (e, h)

    ran_runs :
        begin_refusal t (length state) (length work) 0 ≡ None → too_many (has_ended t (start t)) 0 budget ≡ false →
        ran_to (outcome_of t (plain_run t budget)) (plain_run t budget).steps (plain_run t budget).state.time
        ≡ ran_at s a (length state) (length work) budget
    unfolding ran_at
    ran_runs e h = rw (e, h)

    module _ (b : Result Begun Refusal) (state₁ work₁ frames₁ : List Float) (e : after_begin b state₁ frames₁ ≡ begin_of t state work frames)
        (uses : drop (begin_uses t (length state) (length work) (length frames)) work₁ ≡ drop (begin_uses t (length state) (length work) (length frames)) work) where
      -- begin refused
      pub refused_ran : (n : ℕ) → began_of b ≡ refused_begin n → SkipRan s a budget state work (not_begun n) state₁ work₁
      refused_ran n h =
          let told : (begun t state work frames).answer ≡ refused_begin n = ap (λ (x : AfterBegin). x.answer) (sym e) ∙ h in
          let d = demand3 t state work frames in
          record {
            answer = ran_refused n (refusal_at_lem (Some n) ((d.refuses n).0 told));
            untouched =
                record {
                  state_is = ap (drop (touched s (length state) (length work) (cell_count s))) (ap (λ (x : AfterBegin). x.memory) e ∙ (d.refused_stays n told).0);
                  work_is = ap (λ (i : ℕ). drop i work₁) uses_is ∙ uses ∙ ap (λ (i : ℕ). drop i work) (sym uses_is);
                };
          }

      -- begin accepted, and advance answered
      module _ (r : Record) (k : ℕ) (h : began_of b ≡ accepted r k) (long : length work₁ ≡ length work) where
        answered : (begun t state work frames).answer ≡ accepted r k
        answered = ap (λ (x : AfterBegin). x.answer) (sym e) ∙ h

        not_refused : begin_refusal t (length state) (length work) (length frames) ≡ None
        not_refused = go (begin_refusal t (length state) (length work) (length frames)) refl
          where
            go : (o : Option ℕ) → begin_refusal t (length state) (length work) (length frames) ≡ o → begin_refusal t (length state) (length work) (length frames) ≡ None
            go (Some n) q = absurd (clash n r k (sym (((demand3 t state work frames).refuses n).1 q) ∙ answered))
            go None q = q

        memory_is : state₁ ≡ (begun t state work frames).memory
        memory_is = ap (λ (x : AfterBegin). x.memory) e

        enough : work_count t ≤ length work₁
        enough = go (nat_lt (length state) (cell_count t)) (nat_lt (length work) (work_count t)) (ltb-false (length work) (work_count t)) (lendable t (length state) (length work) (length frames) not_refused).fits
          where
            go : (x y : Bool) → (y ≡ false → work_count t ≤ length work) → (x || y) ≡ false → work_count t ≤ length work₁
            go true y f q = absurd (true≢false q)
            go false y f q = let z = f q in omega arith

        settings_is : r.settings ≡ t
        settings_is = (begin_leaves t state work frames).settings r k answered

        module _ (d : Advanced) (state₂ work₂ frames₂ : List Float) (e₂ : after_advance d state₂ frames₂ ≡ advance_of r state₁ work₁ frames₁ budget)
            (uses₂ : drop (advance_uses r state₁ (length work₁) budget) work₂ ≡ drop (advance_uses r state₁ (length work₁) budget) work₁) where
          after_is : after_advance d state₂ frames₂ ≡ advance_of r (begun t state work frames).memory work₁ frames₁ budget
          after_is = e₂ ∙ ap (λ (m : List Float). advance_of r m work₁ frames₁ budget) memory_is

          -- the answer
          answer_is : ran_by (reply_of d.answer) d.record ≡ ran_at s a (length state) (length work) budget
          answer_is = go (too_many (has_ended t (start t)) 0 budget) refl
            where
              go : (x : Bool) → too_many (has_ended t (start t)) 0 budget ≡ x → ran_by (reply_of d.answer) d.record ≡ ran_at s a (length state) (length work) budget
              go true q =
                  ap (λ (y : Reply). ran_by y d.record)
                  (ap (λ (y : AfterAdvance). y.reply) after_is ∙ refused_14 t refl state work frames r k answered work₁ frames₁ budget enough q)
                  ∙ ran_many (refusal_at_lem None not_refused) q
              go false q =
                  let z = skipped_advance t refl state work frames r k answered work₁ frames₁ budget enough q in
                  ap (λ (y : AfterAdvance). ran_by y.reply y.record') after_is
                  ∙ ap (λ (y : Reply). ran_by y (advance_of r (begun t state work frames).memory work₁ frames₁ budget).record') z.reply
                  ∙ ap (λ (y : Record). ran_to (outcome_of t (plain_run t budget)) y.steps y.time) z.record'
                  ∙ ran_runs (refusal_at_lem None not_refused) q

          -- state memory
          abbrev last : Call
          last = record { budget = budget; lends = length (begun t state work frames).memory; work = work₁; frames = frames₁ }

          beyond : drop (cell_count t) state₂ ≡ drop (cell_count t) state
          unfolding calls call
          beyond =
              let m = (begun t state work frames).memory in
              let all : take (length m) m ≡ m = take_all (length m) m (le_of_eq refl) in
              let d₃ = demand3 t state work frames in
              ap (λ (y : AfterAdvance). drop (cell_count t) y.memory) after_is
              ∙ ap (λ (x : List Float). drop (cell_count t) (advance_of r x work₁ frames₁ budget).memory) (sym all)
              ∙ ap (drop (cell_count t)) (sym (append-nil (advance_of r (take (length m) m) work₁ frames₁ budget).memory))
              ∙ ap (λ (x : List Float). drop (cell_count t) ((advance_of r (take (length m) m) work₁ frames₁ budget).memory ++ x)) (sym (drop-length m))
              ∙ (d₃.agrees r k answered (last ∷ [])).beyond
              ∙ d₃.beyond

          -- work memory
          uses_few : advance_uses r state₁ (length work₁) budget ≤ work_count t
          unfolding advance_uses
          uses_few = go (advance_refusal r state₁ (length work₁) budget) (is_idle r state₁ budget)
            where
              same : work_count r.settings ≡ work_count t
              same = ap work_count settings_is

              go : (o : Option ℕ) (x : Bool) → option o (λ n. 0) (cond x 0 (work_count r.settings)) ≤ work_count t
              go (Some n) x = omega arith
              go None true = omega arith
              go None false = omega (arith, same)

          work_beyond : drop (work_count t) work₂ ≡ drop (work_count t) work
          work_beyond =
              let z : begin_uses t (length state) (length work) (length frames) ≡ work_count t = sym uses_is ∙ touched_none not_refused (work_count s) in
              drop_on (advance_uses r state₁ (length work₁) budget) (work_count t) work₂ work₁ uses_few uses₂
              ∙ ap (λ (i : ℕ). drop i work₁) (sym z)
              ∙ uses
              ∙ ap (λ (i : ℕ). drop i work) z

          pub accepted_ran : (x : Ran) → x ≡ ran_by (reply_of d.answer) d.record → SkipRan s a budget state work x state₂ work₂
          accepted_ran x same =
              let cells = touched_none not_refused (cell_count s) in
              let works = touched_none not_refused (work_count s) in
              record {
                answer = same ∙ answer_is;
                untouched =
                    record {
                      state_is = ap (λ (i : ℕ). drop i state₂) cells ∙ beyond ∙ ap (λ (i : ℕ). drop i state) (sym cells);
                      work_is = ap (λ (i : ℕ). drop i work₂) works ∙ work_beyond ∙ ap (λ (i : ℕ). drop i work) (sym works);
                    };
              }
