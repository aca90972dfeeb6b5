-- What every advance leaves: its frames fit into frame memory, the lengths of the memories stay, and the record keeps its settings.
use Rattle.std.specs.Prelude.{◌≡◌, ℕ, zero, suc, ◌+◌, ◌-◌, ◌*◌, ◌≤◌, Bool, true, false, cond, not, ◌&&◌, ◌||◌, List, [], ◌∷◌, ◌++◌, length, ◌≢◌, nat_lt, Float}
use Rattle.std.specs.Prelude.{Option, None, Some}
use Rattle.std.proofs.Math.Path.{refl}
use Rattle.std.proofs.Common.{sym, ◌∙◌, subst}
use Rattle.std.proofs.Math.Nat.{suc-mul}
use native.Mathlib.Omega.{arith}
use Rattle.std.proofs.Math.ListN.{length-append}
use borrow.Author.Tests.{ltb-false}
use Rattle.vectors.specs.Grid.{points_of}
use Rattle.physics.specs.StateLaws.{sized_state_in}
use Rattle.run.specs.declared.settings.Settings.{Settings}
use Rattle.run.specs.declared.settings.Record.{Record}
use Rattle.run.specs.Model.{fault_at, cell_count, work_count, frame_count, frames_next, frame_of, next_state, holds_nan}
use Rattle.run.specs.ModelLaws.{some_not_none, frame_large}
use Rattle.run.specs.PlainRun.{Machine, option, has_ended, outcome_of, attempt}
use Rattle.run.specs.Outcome.{Outcome}
use Rattle.run.specs.Tally.{refused, full, ran, too_many}
use Rattle.run.specs.Calls.{machine_of, Stop, is_full, attempts_from, AfterAdvance, advance_refusal, advance_of, frames_told}
use Rattle.run.specs.CallsLaws.{from_formed, from_told}
use Rattle.run.specs.FrameLaws as frame-laws
use Rattle.run.specs.FrameLaws.{Each, length_frames}
use Rattle.run.specs.OneCall.{advance_refused, advance_runs}
use Rattle.run.specs.LinesLaws.{Long}

-- the answers differ
pub full_is : (a b j k : ℕ) → full a j ≡ full b k → a ≡ b
full_is a b j k e = cc

pub ran_not_full : (o : Outcome) (j a k : ℕ) → ran o j ≢ full a k
ran_not_full o j a k e = let z : ◌≡◌ {A = ℕ} 0 1 = cc in omega arith

pub refused_not_full : (n a k : ℕ) → refused n ≢ full a k
refused_not_full n a k e = let z : ◌≡◌ {A = ℕ} 0 1 = cc in omega arith

module _ (s : Settings) (room : ℕ) where
  -- a frame is appended only where it fits
  attempt_fits :
      (m : Machine) → is_full s room m ≡ false → length m.frames * frame_count s ≤ room →
      length (attempt s m).frames * frame_count s ≤ room
  unfolding attempt is_full
  attempt_fits m e h = go (has_ended s m) (holds_nan (next_state s m.state)) (frames_next s m.state) e
    where
      go :
          (x y f : Bool) → (not x && (f && nat_lt (room - length m.frames * frame_count s) (frame_count s))) ≡ false →
          length
          (cond x m
          (cond y
          (record { state = m.state; steps = m.steps; broken = true; frames = m.frames })
          (record {
            state = next_state s m.state;
            steps = m.steps + 1;
            broken = m.broken;
            frames = cond f (m.frames ++ frame_of s (next_state s m.state) ∷ []) m.frames;
          }))
          ).frames
          * frame_count s
          ≤ room
      go true y f g = h
      go false true f g = h
      go false false false g = h
      go false false true g =
          let l = ltb-false (room - length m.frames * frame_count s) (frame_count s) g in
          let n : length (m.frames ++ frame_of s (next_state s m.state) ∷ []) ≡ suc (length m.frames) =
          length-append m.frames (frame_of s (next_state s m.state) ∷ []) ∙ omega arith in
          rw (n, suc-mul (length m.frames) (frame_count s)) (omega arith)

  pub from_fits :
      (left made : ℕ) (m : Machine) → length m.frames * frame_count s ≤ room →
      length (attempts_from s room left made m).machine.frames * frame_count s ≤ room
  unfolding attempts_from
  from_fits zero made m h = h
  from_fits (suc left) made m h =
      go (is_full s room m) refl (attempts_from s room left (made + 1) (attempt s m)) (λ e. from_fits left (made + 1) (attempt s m) (attempt_fits m e h))
    where
      go :
          (b : Bool) → is_full s room m ≡ b → (e : Stop) → (is_full s room m ≡ false → length e.machine.frames * frame_count s ≤ room) →
          length (cond b (record { reply = full made (length m.frames); machine = m }) e).machine.frames * frame_count s ≤ room
      go true q e k = h
      go false q e k = k q

  -- full has made no more attempts than it was to make
  pub from_full_few :
      (left made : ℕ) (m : Machine) (a k : ℕ) → (attempts_from s room left made m).reply ≡ full a k → (made ≤ a) × (a ≤ made + left)
  unfolding attempts_from
  from_full_few zero made m a k e = absurd (ran_not_full (outcome_of s m) (length m.frames) a k e)
  from_full_few (suc left) made m a k e =
      go (is_full s room m) (attempts_from s room left (made + 1) (attempt s m)) (from_full_few left (made + 1) (attempt s m) a k) e
    where
      go :
          (b : Bool) (d : Stop) → (d.reply ≡ full a k → (made + 1 ≤ a) × (a ≤ made + 1 + left)) →
          (cond b (record { reply = full made (length m.frames); machine = m }) d).reply ≡ full a k → (made ≤ a) × (a ≤ made + suc left)
      go true d h e = let z = full_is made a (length m.frames) k e in (omega arith, omega arith)
      go false d h e = let z = h e in (omega (arith, z.0), omega (arith, z.1))

  from_large : 6 ≤ frame_count s → (left made : ℕ) (m : Machine) → Long (frame_count s) (attempts_from s room left made m).reply
  unfolding attempts_from
  from_large h zero made m = h
  from_large h (suc left) made m = go (is_full s room m) (attempts_from s room left (made + 1) (attempt s m)) (from_large h left (made + 1) (attempt s m))
    where
      go :
          (b : Bool) (d : Stop) → Long (frame_count s) d.reply →
          Long (frame_count s) (cond b (record { reply = full made (length m.frames); machine = m }) d).reply
      go true d k = h
      go false d k = k

-- what is left of the memories that an advance was lent, whatever they held
pub record Leaves (r : Record) (frames : List Float) (budget : ℕ) (d : AfterAdvance) : Type 0 where
  pub settings : d.record'.settings ≡ r.settings
  pub fits : frames_told d.reply * frame_count r.settings ≤ length frames
  pub long : length d.frames ≡ length frames
  pub few : (a k : ℕ) → d.reply ≡ full a k → a ≤ budget
  pub large : Long (frame_count r.settings) d.reply

module _ (r : Record) (memory work frames : List Float) (budget : ℕ) where
  abbrev s : Settings
  s = r.settings

  -- an advance that is not refused was given settings without fault and a state
  not_refused : advance_refusal r memory (length work) budget ≡ None → (fault_at s ≡ None) × (cell_count s ≤ length memory)
  unfolding advance_refusal
  not_refused e =
      go (fault_at s) refl (nat_lt (length memory) (cell_count s)) refl (nat_lt (length work) (work_count s))
      (too_many (has_ended s (machine_of r memory)) r.steps budget) e
    where
      go :
          (o : Option ℕ) → fault_at s ≡ o → (a : Bool) → nat_lt (length memory) (cell_count s) ≡ a → (b c : Bool) →
          ◌≡◌ {A = Option ℕ} (option o Some (cond (a || b) (Some 11) (cond c (Some 14) None))) None →
          (fault_at s ≡ None) × (cell_count s ≤ length memory)
      go (Some k) ho a ha b c g = absurd (some_not_none k g)
      go None ho true ha b c g = absurd (some_not_none 11 g)
      go None ho false ha b c g = (ho, ltb-false (length memory) (cell_count s) ha)

  refused_leaves : (n : ℕ) → Leaves r frames budget (record { reply = refused n; record' = r; memory = memory; frames = frames })
  unfolding frames_told
  refused_leaves n = record { settings = refl; fits = omega arith; long = refl; few = λ a k e. absurd (refused_not_full n a k e); large = tt }

  pub advance_leaves : Leaves r frames budget (advance_of r memory work frames budget)
  advance_leaves = go (advance_refusal r memory (length work) budget) refl
    where
      go : (o : Option ℕ) → advance_refusal r memory (length work) budget ≡ o → Leaves r frames budget (advance_of r memory work frames budget)
      go (Some n) e = subst (Leaves r frames budget) (sym (advance_refused r memory work frames budget n e)) (refused_leaves n)
      go None e =
          let g = not_refused e in
          let m = machine_of r memory in
          let stop = attempts_from s (length frames) budget 0 m in
          let f : length stop.machine.frames * frame_count s ≤ length frames = from_fits s (length frames) budget 0 m (omega arith) in
          let formed = from_formed s (length frames) g.0 budget 0 m (record { sized = sized_state_in (points_of s.level) r.time memory g.1; framed = frame-laws.none }) in
          subst (Leaves r frames budget) (sym (advance_runs r memory work frames budget e))
          (record {
            settings = refl;
            fits = subst (λ (k : ℕ). k * frame_count s ≤ length frames) (sym (from_told s (length frames) budget 0 m)) f;
            long = length_frames formed.framed frames f;
            few = λ a k q. let z = from_full_few s (length frames) budget 0 m a k q in omega (arith, z.1);
            large = from_large s (length frames) (frame_large s g.0) budget 0 m;
          })
