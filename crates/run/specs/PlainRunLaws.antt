-- Laws of the plain run: its attempts, that an ended run stays, and that its states and frames have their lengths.
use Rattle.std.specs.Prelude.{◌≡◌, ℕ, zero, suc, ◌+◌, Bool, true, false, cond, List, [], ◌∷◌, ◌++◌, refl, Float}
use Rattle.std.proofs.Common.{append_assoc, ◌∙◌, add-zero}
use Rattle.std.specs.Prelude.{None}
use Rattle.std.proofs.Math.Path.{ap}
use native.Mathlib.Omega.{arith}
use Rattle.vectors.specs.Grid.{points_of}
use Rattle.physics.specs.State.{State}
use Rattle.physics.specs.StateLaws.{Sized}
use Rattle.run.specs.declared.settings.Settings.{Settings}
use Rattle.run.specs.Model.{fault_at, frame_count, first_state, next_state, holds_nan, frames_next, frame_of}
use Rattle.run.specs.ModelLaws.{first_state_sized, next_state_sized, frame_of-length, frames_next_skipped}
use Rattle.run.specs.PlainRun.{Machine, has_ended, start, attempt, plain_run}
use Rattle.run.specs.FrameLaws.{Each, none, more, each_snoc}

module _ (s : Settings) (m : Machine) where
  -- the machine after an attempt that breaks the run, and after one that steps
  abbrev pub broken_machine : Machine
  broken_machine = record { state = m.state; steps = m.steps; broken = true; frames = m.frames }

  abbrev pub stepped_machine : Machine
  stepped_machine =
      record {
        state = next_state s m.state;
        steps = m.steps + 1;
        broken = m.broken;
        frames = cond (frames_next s m.state) (m.frames ++ frame_of s (next_state s m.state) ∷ []) m.frames;
      }

  pub attempt_ended : has_ended s m ≡ true → attempt s m ≡ m
  unfolding attempt
  attempt_ended e = rw e

  pub attempt_breaks : has_ended s m ≡ false → holds_nan (next_state s m.state) ≡ true → attempt s m ≡ broken_machine
  unfolding attempt
  attempt_breaks e h = rw (e, h)

  pub attempt_steps : has_ended s m ≡ false → holds_nan (next_state s m.state) ≡ false → attempt s m ≡ stepped_machine
  unfolding attempt
  attempt_steps e h = rw (e, h)

  -- the same machine with frames before its own
  abbrev pub after : List (List Float) → Machine
  after earlier = record { state = m.state; steps = m.steps; broken = m.broken; frames = earlier ++ m.frames }

-- earlier frames change nothing in an attempt
pub attempt_after : (s : Settings) (m : Machine) (earlier : List (List Float)) → attempt s (after s m earlier) ≡ after s (attempt s m) earlier
unfolding attempt
attempt_after s m earlier = go (has_ended s m) (holds_nan (next_state s m.state)) (frames_next s m.state)
  where
    n : State
    n = next_state s m.state

    frame : List (List Float)
    frame = frame_of s n ∷ []

    go :
        (e h f : Bool) →
        ◌≡◌ {A = Machine}
        (cond e (after s m earlier)
        (cond h
        (record { state = m.state; steps = m.steps; broken = true; frames = earlier ++ m.frames })
        (record { state = n; steps = m.steps + 1; broken = m.broken; frames = cond f (earlier ++ m.frames ++ frame) (earlier ++ m.frames) })))
        (after s
        (cond e m
        (cond h
        (record { state = m.state; steps = m.steps; broken = true; frames = m.frames })
        (record { state = n; steps = m.steps + 1; broken = m.broken; frames = cond f (m.frames ++ frame) m.frames })))
        earlier)
    go true h f = refl
    go false true f = refl
    go false false false = refl
    go false false true =
        ap (λ (fs : List (List Float)). record { state = n; steps = m.steps + 1; broken = m.broken; frames = fs })
        (append_assoc earlier m.frames frame)

module _ (s : Settings) where
  pub plain_run_more : (S made : ℕ) → plain_run s (S + (made + 1)) ≡ attempt s (plain_run s (S + made))
  unfolding plain_run
  plain_run_more S made = ap (plain_run s) (let e : S + (made + 1) ≡ suc (S + made) = omega arith in e)

  plain_run_ended : (S made : ℕ) → has_ended s (plain_run s (S + made)) ≡ true → plain_run s (S + (made + 1)) ≡ plain_run s (S + made)
  plain_run_ended S made e = plain_run_more S made ∙ attempt_ended s (plain_run s (S + made)) e

  -- after the end no attempt changes anything
  pub plain_run_ended_stays : (S k : ℕ) → has_ended s (plain_run s S) ≡ true → plain_run s (S + k) ≡ plain_run s S
  plain_run_ended_stays S zero e = ap (plain_run s) (add-zero S)
  plain_run_ended_stays S (suc k) e =
      ap (plain_run s) (let d : S + suc k ≡ S + (k + 1) = omega arith in d)
      ∙ plain_run_ended S k (ap (has_ended s) (plain_run_ended_stays S k e) ∙ e)
      ∙ plain_run_ended_stays S k e

  -- with skip there is no frame
  attempt_skipped : s.skip ≡ true → (m : Machine) → m.frames ≡ [] → (attempt s m).frames ≡ []
  unfolding attempt
  attempt_skipped h m g = go (has_ended s m) (holds_nan n) (frames_next s m.state) (frames_next_skipped s m.state h)
    where
      n : State
      n = next_state s m.state

      go :
          (e b f : Bool) → f ≡ false →
          (cond e m
          (cond b
          (record { state = m.state; steps = m.steps; broken = true; frames = m.frames })
          (record { state = n; steps = m.steps + 1; broken = m.broken; frames = cond f (m.frames ++ frame_of s n ∷ []) m.frames }))
          ).frames
          ≡ []
      go true b f k = g
      go false true f k = g
      go false false f k = rw k g

  pub plain_run_skipped : s.skip ≡ true → (k : ℕ) → (plain_run s k).frames ≡ []
  unfolding plain_run start
  plain_run_skipped h zero = ap (λ (b : Bool). cond b [] (frame_of s (first_state s) ∷ [])) h
  plain_run_skipped h (suc k) = attempt_skipped h (plain_run s k) (plain_run_skipped h k)

-- ---- lengths
-- each of the eight vectors has n numbers, and each frame F
pub record Formed (s : Settings) (m : Machine) : Type 0 where
  pub sized : Sized (points_of s.level) m.state
  pub framed : Each (frame_count s) m.frames

module _ (s : Settings) (sound : fault_at s ≡ None) where
  pub start_formed : Formed s (start s)
  unfolding start
  start_formed = record { sized = first_state_sized s sound; framed = go s.skip }
    where
      go : (b : Bool) → Each (frame_count s) (cond b [] (frame_of s (first_state s) ∷ []))
      go true = none
      go false = more (frame_of-length s sound (first_state s) (first_state_sized s sound)) none

  pub attempt_formed : (m : Machine) → Formed s m → Formed s (attempt s m)
  unfolding attempt
  attempt_formed m d = go (has_ended s m) (holds_nan n) (frames_next s m.state)
    where
      n : State
      n = next_state s m.state

      next_sized : Sized (points_of s.level) n
      next_sized = next_state_sized s sound m.state d.sized

      frames : (f : Bool) → Each (frame_count s) (cond f (m.frames ++ frame_of s n ∷ []) m.frames)
      frames true = each_snoc d.framed (frame_of s n) (frame_of-length s sound n next_sized)
      frames false = d.framed

      go :
          (e h f : Bool) →
          Formed s
          (cond e m
          (cond h
          (record { state = m.state; steps = m.steps; broken = true; frames = m.frames })
          (record { state = n; steps = m.steps + 1; broken = m.broken; frames = cond f (m.frames ++ frame_of s n ∷ []) m.frames })))
      go true h f = d
      go false true f = record { sized = d.sized; framed = d.framed }
      go false false f = record { sized = next_sized; framed = frames f }

  pub plain_run_formed : (k : ℕ) → Formed s (plain_run s k)
  unfolding plain_run
  plain_run_formed zero = start_formed
  plain_run_formed (suc k) = attempt_formed (plain_run s k) (plain_run_formed k)
