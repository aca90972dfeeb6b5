-- A begin that was lent only the front of a state memory: the advances after it may lend more of that memory, and agree with the plain run all
-- the same. `agrees` of Demand3 says it of advances that lend at most what begin was lent.
use Rattle.std.specs.Prelude.{ℕ, Bool, cond, not, ◌||◌, ◌&&◌, List, ◌++◌, refl, Float, length, take, drop}
use Rattle.std.proofs.Math.Bool.{true, false}
use Rattle.std.proofs.Common.{true≢false, sym, ◌∙◌, ap, subst, arith, length-take, ltb-false, le-ltb}
use Rattle.std.specs.Prelude.{Option, None, Some}
use Rattle.std.proofs.Math.Path.{◌≡◌}
use Rattle.std.proofs.Math.Dec.{ltb}
use Rattle.physics.specs.State.{lay_out}
use Rattle.physics.specs.StateLaws.{length-lay_out}
use Rattle.run.specs.declared.settings.Settings.{Settings}
use Rattle.run.specs.declared.settings.Record.{Record}
use Rattle.run.specs.Model.{fault_at, cell_count, work_count, frame_count, first_state, holds_nan}
use Rattle.run.specs.ModelLaws.{some_not_none}
use Rattle.run.specs.PlainRun.{option, start}
use Rattle.run.specs.PlainRunLaws.{start_formed}
use Rattle.run.specs.Calls.{accepted, AfterBegin, lent_refusal, begin_refusal, frames_in, Call, Session}
use Rattle.run.specs.FrameLaws.{put_lent}
use Rattle.run.specs.Demand.{Agrees, begun, opened}
use Rattle.run.specs.DemandProof.{clash, begin_some, begun_accepted, begin_none, accepted_given, demand3}

module _ (s : Settings) (whole work frames : List Float) (b : ℕ) where
  -- what begin was lent of the whole state memory
  abbrev front : List Float
  front = take b whole

  abbrev refusal : List Float → Option ℕ
  refusal memory = begin_refusal s (length memory) (length work) (length frames)

  -- ---- the begin is accepted with the whole memory too
  long_enough : ltb (length front) (cell_count s) ≡ false → ltb (length whole) (cell_count s) ≡ false
  long_enough h =
      le-ltb (length whole) (cell_count s) (let k = ltb-false (length front) (cell_count s) h in omega (arith, k, length-take b whole))

  not_refused : refusal front ≡ None → refusal whole ≡ None
  unfolding begin_refusal lent_refusal
  not_refused e =
      go (fault_at s) (ltb (length front) (cell_count s)) (ltb (length whole) (cell_count s)) (ltb (length work) (work_count s))
      (not s.skip && ltb (length frames) (frame_count s)) (holds_nan (first_state s)) long_enough e
    where
      go :
          (fault : Option ℕ) (x y w f d : Bool) → (x ≡ false → y ≡ false) →
          ◌≡◌ {A = Option ℕ} (option (option fault Some (cond (x || w) (Some 11) (cond f (Some 12) None))) Some (cond d (Some 13) None)) None →
          ◌≡◌ {A = Option ℕ} (option (option fault Some (cond (y || w) (Some 11) (cond f (Some 12) None))) Some (cond d (Some 13) None)) None
      go (Some n) x y w f d h g = absurd (some_not_none n g)
      go None true y w f d h g = absurd (some_not_none 11 g)
      go None false true w f d h g = absurd (true≢false (h refl))
      go None false false w f d h g = g

  module _ (r : Record) (k : ℕ) (e : (begun s front work frames).answer ≡ accepted r k) where
    front_accepted : refusal front ≡ None
    front_accepted = go (refusal front) refl
      where
        go : (o : Option ℕ) → refusal front ≡ o → refusal front ≡ None
        go (Some n) h = absurd (clash n r k (ap (λ (a : AfterBegin). a.answer) (sym (begin_some s front work frames n h)) ∙ e))
        go None h = h

    begin_front : begun s front work frames ≡ begun_accepted s front work frames
    begin_front = begin_none s front work frames front_accepted

    begin_whole : begun s whole work frames ≡ begun_accepted s whole work frames
    begin_whole = begin_none s whole work frames (not_refused front_accepted)

    whole_accepted : (begun s whole work frames).answer ≡ accepted r k
    whole_accepted = ap (λ (a : AfterBegin). a.answer) begin_whole ∙ ap (λ (a : AfterBegin). a.answer) (sym begin_front) ∙ e

    -- ---- what stands after this begin: of the whole memory, the numbers that were not lent have stayed
    abbrev pub opened_front : Session
    opened_front =
        record {
          record' = r;
          memory = (begun s front work frames).memory ++ drop b whole;
          joined = frames_in k (frame_count s) (begun s front work frames).frames;
        }

    opened_same : opened_front ≡ opened s whole work frames r k
    opened_same =
        let g = accepted_given s front work frames r k e in
        (λ i. record { record' = r; memory = (begin_front i).memory ++ drop b whole; joined = frames_in k (frame_count s) (begin_front i).frames })
        ∙ ap (λ (m : List Float). record { record' = r; memory = m; joined = frames_in k (frame_count s) (begun_accepted s front work frames).frames })
        (put_lent (lay_out (start s).state) whole b (let n = length-lay_out (start_formed s g.sound).sized in omega (arith, n, g.big)))
        ∙ (λ i. record { record' = r; memory = (sym begin_whole i).memory; joined = frames_in k (frame_count s) (sym begin_whole i).frames })

    -- every list of calls, each lending as much of the whole memory as it likes
    pub longer_agrees : (cs : List Call) → Agrees s opened_front cs
    longer_agrees cs = subst (λ (z : Session). Agrees s z cs) (sym opened_same) ((demand3 s whole work frames).agrees r k whole_accepted cs)
