-- As long as no attempt has broken the run, 01's plain run is the loop of simulate.rs: `simulate_is`.
use Prim.Native.Nat.{ℕ, zero, suc, ◌+◌}
use Rattle.std.specs.Prelude.{Bool, ◌||◌, ◌&&◌, [], ◌∷◌, ◌≡◌, leb, Float}
use Rattle.std.proofs.Math.Bool.{true, false, cond, not}
use Rattle.std.proofs.Common.{true≢false, sym, ◌∙◌, arith}
use Rattle.std.specs.Prelude.{Option, None, Some}
use Rattle.std.proofs.Math.Path.{refl, ap}
use borrow.Author.Tests.{le-leb}
use Rattle.physics.specs.State.{State}
use Rattle.run.specs.declared.settings.Settings.{Settings}
use Rattle.run.specs.Clock.{is_frame_step}
use Rattle.run.specs.Model.{first_state, frames_next, next_state, holds_nan, frame_of, mass_at, is_late}
use Rattle.run.specs.Outcome.{collapse, broke, timeout, spent}
use Rattle.run.specs.PlainRun.{Machine, is_some, option, ended, has_ended, outcome, outcome_of, start, attempt, plain_run}
use Rattle.run.specs.PlainRunLaws.{attempt_ended, attempt_breaks, attempt_steps}
use Rattle.claims.specs.Simulate.{Variables, before_loop, loop_body, goes_on, simulated, variables_of}

module _ (s : Settings) where
  -- the loop goes on exactly where an unbroken run has not ended
  goes_on_lem : (m : Machine) → m.broken ≡ false → goes_on s (variables_of s m) ≡ not (has_ended s m)
  unfolding ended variables_of
  goes_on_lem m b = test (is_some (mass_at m.state)) (leb 1 m.steps && is_late s m.state) m.broken b
    where
      test : (collapsed late broken : Bool) → broken ≡ false → (not collapsed && not late) ≡ not (collapsed || late || broken)
      test true late broken e = refl
      test false true broken e = refl
      test false false true e = absurd (true≢false e)
      test false false false e = refl

  -- a frame step is none with skip, which line 43 asks once more
  saves : (a : State) → (frames_next s a && not s.skip) ≡ frames_next s a
  unfolding frames_next is_frame_step
  saves a = go s.skip _
    where
      go : (skip boundary : Bool) → ((not skip && boundary) && not skip) ≡ (not skip && boundary)
      go true boundary = refl
      go false true = refl
      go false false = refl

  -- an attempt that steps is a turn of the loop
  body_steps : (m : Machine) → has_ended s m ≡ false → holds_nan (next_state s m.state) ≡ false → loop_body s (variables_of s m) ≡ variables_of s (attempt s m)
  unfolding loop_body variables_of next_state is_late
  body_steps m e h = rw (saves m.state, attempt_steps s m e h, le-leb 1 (m.steps + 1) (omega arith))

  -- an attempt that leaves the run unbroken is a turn, or none where the loop was left
  turn_is : (m : Machine) → (attempt s m).broken ≡ false → m.broken ≡ false
      → cond (goes_on s (variables_of s m)) (loop_body s (variables_of s m)) (variables_of s m) ≡ variables_of s (attempt s m)
  turn_is m b unbroken = rw (goes_on_lem m unbroken) (go (has_ended s m) refl (holds_nan (next_state s m.state)) refl)
    where
      go : (e : Bool) → has_ended s m ≡ e → (h : Bool) → holds_nan (next_state s m.state) ≡ h
          → cond (not e) (loop_body s (variables_of s m)) (variables_of s m) ≡ variables_of s (attempt s m)
      go true p h q = ap (variables_of s) (sym (attempt_ended s m p))
      go false p true q = absurd (true≢false (ap (λ (x : Machine). x.broken) (sym (attempt_breaks s m p q)) ∙ b))
      go false p false q = body_steps m p q

  -- the mark, once set, stays
  mark_stays : (m : Machine) → (attempt s m).broken ≡ false → m.broken ≡ false
  mark_stays m b = go (has_ended s m) refl (holds_nan (next_state s m.state)) refl
    where
      go : (e : Bool) → has_ended s m ≡ e → (h : Bool) → holds_nan (next_state s m.state) ≡ h → m.broken ≡ false
      go true p h q = ap (λ (x : Machine). x.broken) (sym (attempt_ended s m p)) ∙ b
      go false p true q = absurd (true≢false (ap (λ (x : Machine). x.broken) (sym (attempt_breaks s m p q)) ∙ b))
      go false p false q = ap (λ (x : Machine). x.broken) (sym (attempt_steps s m p q)) ∙ b

  first_saved : cond (not s.skip) (frame_of s (first_state s) ∷ []) [] ≡ cond s.skip [] (frame_of s (first_state s) ∷ [])
  first_saved = go s.skip
    where
      go : (skip : Bool) → cond (not skip) (frame_of s (first_state s) ∷ []) [] ≡ cond skip [] (frame_of s (first_state s) ∷ [])
      go true = refl
      go false = refl

  -- for all settings: the plain run after k attempts is the file after k turns
  pub simulate_is : (k : ℕ) → (plain_run s k).broken ≡ false → simulated s k ≡ variables_of s (plain_run s k)
  unfolding plain_run start simulated before_loop variables_of
  simulate_is zero b = rw first_saved
  simulate_is (suc k) b =
      let unbroken = mark_stays (plain_run s k) b in
      ap (λ (v : Variables). cond (goes_on s v) (loop_body s v) v) (simulate_is k unbroken) ∙ turn_is (plain_run s k) b unbroken

  -- the loop is left exactly where the run has ended
  pub simulate_ends : (k : ℕ) → (plain_run s k).broken ≡ false → goes_on s (simulated s k) ≡ not (has_ended s (plain_run s k))
  simulate_ends k b = ap (goes_on s) (simulate_is k b) ∙ goes_on_lem (plain_run s k) b

  -- and then the outcome is "collapse with mass", "else timeout", by the mass that line 58 hands on
  pub simulate_outcome : (k : ℕ) → (plain_run s k).broken ≡ false → has_ended s (plain_run s k) ≡ true
      → outcome_of s (plain_run s k) ≡ option (simulated s k).black_hole_mass collapse timeout
  unfolding variables_of ended outcome
  simulate_outcome k b e =
      go (mass_at m.state) (leb 1 m.steps && is_late s m.state) m.broken b e
      ∙ ap (λ (v : Variables). option v.black_hole_mass collapse timeout) (sym (simulate_is k b))
    where
      m : Machine
      m = plain_run s k

      go : (mass : Option Float) (late broken : Bool) → broken ≡ false → (is_some mass || late || broken) ≡ true
          → option mass collapse (cond broken broke (cond late timeout spent)) ≡ option mass collapse timeout
      go (Some x) late broken g h = refl
      go None true false g h = refl
      go None late true g h = absurd (true≢false g)
      go None false false g h = absurd (true≢false (sym h))
