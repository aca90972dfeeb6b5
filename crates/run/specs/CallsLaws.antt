-- Laws of an advance's attempts and of the tally's: the same answers, and the plain run's machine.
use Rattle.std.specs.Prelude.{◌≡◌, ℕ, zero, suc, ◌+◌, ◌-◌, Bool, true, false, cond, ◌&&◌, ◌||◌, List, length, nat_le, Float}
use Rattle.std.proofs.lemmas.Bool.{false≢true}
use Rattle.std.specs.Prelude.{Option, None, Some}
use Rattle.std.proofs.Math.Path.{refl, sym, ap, ap₂}
use Rattle.std.proofs.Common.{◌∙◌, add-zero, length-append}
use native.Mathlib.Omega.{arith}
use Rattle.run.specs.declared.settings.Settings.{Settings}
use Rattle.run.specs.Model.{mass_at, is_late, fault_at}
use Rattle.run.specs.Outcome.{collapse, broke, timeout, spent}
use Rattle.run.specs.PlainRun.{Machine, is_some, option, ended, outcome, has_ended, outcome_of, attempt, plain_run}
use Rattle.run.specs.PlainRunLaws.{after, attempt_ended, attempt_after, plain_run_more, Formed, attempt_formed}
use Rattle.run.specs.Tally.{full, ran, Told, appended, no_room, attempts}
use Rattle.run.specs.Calls.{Stop, is_full, attempts_from, frames_told, counted}
use Rattle.run.specs.Demand.{is_end}

-- ---- an advance's attempts
module _ (s : Settings) (room : ℕ) where
  pub from_full :
      (left made : ℕ) (m : Machine) → is_full s room m ≡ true →
      attempts_from s room (suc left) made m ≡ record { reply = full made (length m.frames); machine = m }
  unfolding attempts_from
  from_full left made m e = rw e

  pub from_more :
      (left made : ℕ) (m : Machine) → is_full s room m ≡ false →
      attempts_from s room (suc left) made m ≡ attempts_from s room left (made + 1) (attempt s m)
  unfolding attempts_from
  from_more left made m e = rw e

  is_full_ended : (m : Machine) → has_ended s m ≡ true → is_full s room m ≡ false
  unfolding is_full
  is_full_ended m e = rw e

  -- an ended run answers its outcome and stays
  pub from_ended :
      (left made : ℕ) (m : Machine) → has_ended s m ≡ true →
      attempts_from s room left made m ≡ record { reply = ran (outcome_of s m) (length m.frames); machine = m }
  unfolding attempts_from
  from_ended zero made m e = refl
  from_ended (suc left) made m e =
      rw (is_full_ended m e, attempt_ended s m e) (from_ended left (made + 1) m e)

  pub from_formed :
      (sound : fault_at s ≡ None) (left made : ℕ) (m : Machine) → Formed s m → Formed s (attempts_from s room left made m).machine
  unfolding attempts_from
  from_formed sound zero made m d = d
  from_formed sound (suc left) made m d =
      go (is_full s room m) (attempts_from s room left (made + 1) (attempt s m)) (from_formed sound left (made + 1) (attempt s m) (attempt_formed s sound m d))
    where
      go :
          (b : Bool) (e : Stop) → Formed s e.machine →
          Formed s (cond b (record { reply = full made (length m.frames); machine = m }) e).machine
      go true e h = d
      go false e h = h

  -- an answer tells all frames of the call
  pub from_told : (left made : ℕ) (m : Machine) → let e = attempts_from s room left made m in frames_told e.reply ≡ length e.machine.frames
  unfolding attempts_from frames_told
  from_told zero made m = refl
  from_told (suc left) made m =
      go (is_full s room m) (attempts_from s room left (made + 1) (attempt s m)) (from_told left (made + 1) (attempt s m))
    where
      go :
          (b : Bool) (e : Stop) → frames_told e.reply ≡ length e.machine.frames →
          let d = cond b (record { reply = full made (length m.frames); machine = m }) e in
          frames_told d.reply ≡ length d.machine.frames
      go true e h = refl
      go false e h = h

-- ---- the tally's attempts
module _ (s : Settings) (S room : ℕ) where
  -- what the tally counts of an advance is what S counts
  pub attempts_counted :
      (left made : ℕ) → (attempts s S room left made).made ≡ counted (made + left) (attempts s S room left made).reply
  unfolding attempts counted
  attempts_counted zero made = sym (add-zero made)
  attempts_counted (suc left) made =
      go (no_room s S room made) (attempts s S room left (made + 1)) (attempts_counted left (made + 1))
    where
      go :
          (b : Bool) (t : Told) → t.made ≡ counted (made + 1 + left) t.reply →
          (cond b (record { made = made; reply = full made (appended s S made) }) t).made
          ≡ counted (made + suc left) (cond b (record { made = made; reply = full made (appended s S made) }) t).reply
      go true t h = refl
      go false t h = h ∙ ap (λ (k : ℕ). counted k t.reply) (let n : made + 1 + left ≡ made + suc left = omega arith in n)

  -- an answer of collapse, broken or timeout says that the run has ended
  is_end_ended : (m : Machine) (k : ℕ) → is_end (ran (outcome_of s m) k) ≡ has_ended s m
  unfolding is_end ended outcome
  is_end_ended m k = go (mass_at m.state) m.broken (nat_le 1 m.steps && is_late s m.state)
    where
      go :
          (o : Option Float) (b t : Bool) →
          is_end (ran (option o collapse (cond b broke (cond t timeout spent))) k) ≡ (is_some o || t || b)
      go (Some x) b t = refl
      go None true true = refl
      go None true false = refl
      go None false true = refl
      go None false false = refl

  pub attempts_end :
      (left made : ℕ) → is_end (attempts s S room left made).reply ≡ true →
      has_ended s (plain_run s (S + (attempts s S room left made).made)) ≡ true
  unfolding attempts is_end
  attempts_end zero made e = sym (is_end_ended (plain_run s (S + made)) (appended s S made)) ∙ e
  attempts_end (suc left) made e =
      go (no_room s S room made) (attempts s S room left (made + 1)) (attempts_end left (made + 1)) e
    where
      go :
          (x : Bool) (a : Told) → (is_end a.reply ≡ true → has_ended s (plain_run s (S + a.made)) ≡ true) →
          is_end (cond x (record { made = made; reply = full made (appended s S made) }) a).reply ≡ true →
          has_ended s (plain_run s (S + (cond x (record { made = made; reply = full made (appended s S made) }) a).made)) ≡ true
      go true a h g = absurd (false≢true g)
      go false a h g = h g

-- ---- both
-- an advance's stop `e` answers as the tally told `t` after S attempts, and its machine is the plain run's with this call's frames alone
pub record Follows (s : Settings) (S : ℕ) (t : Told) (e : Stop) : Type 0 where
  pub reply : e.reply ≡ t.reply
  pub machine : plain_run s (S + t.made) ≡ after s e.machine (plain_run s S).frames

module _ (s : Settings) (S room : ℕ) where
  abbrev earlier : List (List Float)
  earlier = (plain_run s S).frames

  appended_is : (made : ℕ) (m : Machine) → plain_run s (S + made) ≡ after s m earlier → appended s S made ≡ length m.frames
  unfolding appended
  appended_is made m e =
      ap (λ (p : Machine). length p.frames - length earlier) e
      ∙ ap (λ (k : ℕ). k - length earlier) (length-append earlier m.frames)
      ∙ (let z : length earlier + length m.frames - length earlier ≡ length m.frames = omega arith in z)

  no_room_is : (made : ℕ) (m : Machine) → plain_run s (S + made) ≡ after s m earlier → is_full s room m ≡ no_room s S room made
  unfolding no_room is_full
  no_room_is made m e = rw (appended_is made m e, e)

  pub attempts_follow :
      (left made : ℕ) (m : Machine) → plain_run s (S + made) ≡ after s m earlier →
      Follows s S (attempts s S room left made) (attempts_from s room left made m)
  unfolding attempts attempts_from
  attempts_follow zero made m e =
      record { reply = ap₂ ran (ap (outcome_of s) (sym e)) (sym (appended_is made m e)); machine = e }
  attempts_follow (suc left) made m e =
      rw (no_room_is made m e)
      (go (no_room s S room made) (attempts_follow left (made + 1) (attempt s m) (plain_run_more s S made ∙ ap (attempt s) e ∙ attempt_after s m earlier)))
    where
      go :
          (b : Bool) → Follows s S (attempts s S room left (made + 1)) (attempts_from s room left (made + 1) (attempt s m)) →
          Follows s S
          (cond b (record { made = made; reply = full made (appended s S made) }) (attempts s S room left (made + 1)))
          (cond b (record { reply = full made (length m.frames); machine = m }) (attempts_from s room left (made + 1) (attempt s m)))
      go true f = record { reply = ap (full made) (sym (appended_is made m e)); machine = e }
      go false f = f
