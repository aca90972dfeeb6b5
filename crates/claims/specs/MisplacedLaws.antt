-- The reader's places and the commands that came: a command has a fault after the places exactly where it is misplaced after the commands.
use Rattle.std.specs.Prelude.{ℕ, zero, suc, ◌<◌, Bool, ◌&&◌, List, [], ◌∷◌, ◌++◌, eqb}
use Rattle.std.proofs.Math.Bool.{true, false, cond}
use Rattle.std.proofs.Common.{true≢false, ◌∙◌, arith}
use Rattle.std.proofs.Math.Path.{◌≡◌, refl, sym, ap, subst}
use Rattle.std.proofs.Math.Dec.{ltb}
use borrow.Author.Tests.{ltb-true, ltb-false, lt-ltb, le-ltb, eqb-true, eqb-false}
use Rattle.run.specs.Order.{no_places, noted, begun, complete, setting_fault, begin_fault, unless_begun, command_fault}
use Rattle.run.specs.OrderLaws.{AllCame, complete_all}
use Rattle.run.specs.Order.{Command, Amplitude, Level, MaxTime, Interval, DxLevel, Skip, Begin, Advance, End, Wrong}
use Rattle.run.specs.declared.order.Places.{Places}
use Rattle.claims.specs.OrderFaults.{kind, times, Misplaced, repeated, after_begin, second_begin, early_advance, missing, early_end, InPlace}
use Rattle.claims.specs.CommandKindLaws.{times-append, times_here, times_other}
use Rattle.claims.specs.SettingPlacesLaws.{place_of, own_place, other_place, begun_setting, setting_fault_lem}
use Rattle.claims.specs.ReadySettingsLaws.{none_yet}

-- the places tell which settings came, and whether 07 did
pub record Tell (p : Places) (cs : List Command) : Type 0 where
  pub settings : (k : ℕ) → k < 6 → ltb 0 (place_of p k) ≡ ltb 0 (times k cs)
  pub began : begun p ≡ ltb 0 (times 6 cs)

-- ---- a setting that is missing
record Missing (p : Places) : Type 0 where
  k : ℕ
  below : k < 6
  none : ltb 0 (place_of p k) ≡ false

missing_one : (p : Places) → complete p ≡ false → Missing p
unfolding complete place_of
missing_one p e = go _ _ _ _ _ _ refl refl refl refl refl refl e
  where
    go : (a b c d f g : Bool) → ltb 0 p.amplitude ≡ a → ltb 0 p.level ≡ b → ltb 0 p.max_time ≡ c → ltb 0 p.interval ≡ d
        → ltb 0 p.dx_level ≡ f → ltb 0 p.skip ≡ g → (((a && b) && (c && d)) && (f && g)) ≡ false → Missing p
    go false b c d f g ea eb ec ed ef eg h = record { k = 0; below = omega arith; none = ea }
    go true false c d f g ea eb ec ed ef eg h = record { k = 1; below = omega arith; none = eb }
    go true true false d f g ea eb ec ed ef eg h = record { k = 2; below = omega arith; none = ec }
    go true true true false f g ea eb ec ed ef eg h = record { k = 3; below = omega arith; none = ed }
    go true true true true false g ea eb ec ed ef eg h = record { k = 4; below = omega arith; none = ef }
    go true true true true true false ea eb ec ed ef eg h = record { k = 5; below = omega arith; none = eg }
    go true true true true true true ea eb ec ed ef eg h = absurd (true≢false h)

place_came : (p : Places) → AllCame p → (k : ℕ) → k < 6 → 0 < place_of p k
unfolding place_of
place_came p c zero h = c.amplitude
place_came p c (suc zero) h = c.level
place_came p c (suc (suc zero)) h = c.max_time
place_came p c (suc (suc (suc zero))) h = c.interval
place_came p c (suc (suc (suc (suc zero)))) h = c.dx_level
place_came p c (suc (suc (suc (suc (suc zero))))) h = c.skip
place_came p c (suc (suc (suc (suc (suc (suc k)))))) h = absurd (omega arith)

incomplete : (p : Places) (k : ℕ) → k < 6 → ltb 0 (place_of p k) ≡ false → complete p ≡ false
incomplete p k h e = go (complete p) refl
  where
    go : (b : Bool) → complete p ≡ b → b ≡ false
    go true c = absurd (omega (arith, place_came p (complete_all p c) k h, ltb-false 0 (place_of p k) e))
    go false c = refl

-- ---- the numbers of the faults
pub misplaced_number : {cs : List Command} {c : Command} {n : ℕ} → Misplaced cs c n → 0 < n
misplaced_number (repeated c h t) = omega arith
misplaced_number (after_begin c h t) = omega arith
misplaced_number (second_begin t) = omega arith
misplaced_number (early_advance n t) = omega arith
misplaced_number (missing k h t u) = omega arith
misplaced_number (early_end t) = omega arith

module _ (p : Places) (cs : List Command) (tell : Tell p cs) where
  began_yes : 0 < times 6 cs → begun p ≡ true
  began_yes h = tell.began ∙ lt-ltb 0 (times 6 cs) h

  began_no : times 6 cs ≡ 0 → begun p ≡ false
  began_no h = tell.began ∙ le-ltb 0 (times 6 cs) (omega arith)

  yes_began : begun p ≡ true → 0 < times 6 cs
  yes_began h = ltb-true 0 (times 6 cs) (sym tell.began ∙ h)

  no_began : begun p ≡ false → times 6 cs ≡ 0
  no_began h = omega (arith, ltb-false 0 (times 6 cs) (sym tell.began ∙ h))

  -- a misplaced command has its fault's number
  pub misplaced_fault : {c : Command} {n : ℕ} → Misplaced cs c n → command_fault p c ≡ n
  unfolding setting_fault command_fault begin_fault unless_begun
  misplaced_fault (repeated c h t) = setting_fault_lem p c h ∙ rw (tell.settings (kind c) h, lt-ltb 0 (times (kind c) cs) t) (go (begun p))
    where
      go : (b : Bool) → ◌≡◌ {A = ℕ} (cond b 3 3) 3
      go true = refl
      go false = refl
  misplaced_fault (after_begin c h t) = setting_fault_lem p c h ∙ rw (began_yes t)
  misplaced_fault (second_begin t) = rw (began_yes t)
  misplaced_fault (early_advance n t) = rw (began_no t)
  misplaced_fault (missing k h t u) =
      rw (began_no u, incomplete p k h (tell.settings k h ∙ le-ltb 0 (times k cs) (omega arith)))
  misplaced_fault (early_end t) = rw (began_no t)

  -- and a fault of a command that is not wrong by itself is a misplaced command
  setting_misplaced : (c : Command) (n : ℕ) → kind c < 6 → setting_fault p (place_of p (kind c)) ≡ n → 0 < n → Misplaced cs c n
  unfolding setting_fault
  setting_misplaced c n h f w = go (begun p) refl (ltb 0 (place_of p (kind c))) refl f
    where
      go : (b : Bool) → begun p ≡ b → (d : Bool) → ltb 0 (place_of p (kind c)) ≡ d → cond b 3 (cond d 3 0) ≡ n → Misplaced cs c n
      go true eb d ed e = subst (Misplaced cs c) e (after_begin c h (yes_began eb))
      go false eb true ed e = subst (Misplaced cs c) e (repeated c h (ltb-true 0 (times (kind c) cs) (sym (tell.settings (kind c) h) ∙ ed)))
      go false eb false ed e = absurd (omega arith)

  begin_misplaced : (n : ℕ) → begin_fault p ≡ n → 0 < n → Misplaced cs Begin n
  unfolding begin_fault
  begin_misplaced n f w = go (begun p) refl (complete p) refl f
    where
      go : (b : Bool) → begun p ≡ b → (d : Bool) → complete p ≡ d → cond b 3 (cond d 0 4) ≡ n → Misplaced cs Begin n
      go true eb d ed e = subst (Misplaced cs Begin) e (second_begin (yes_began eb))
      go false eb true ed e = absurd (omega arith)
      go false eb false ed e =
          let m = missing_one p ed in
          let gone = ltb-false 0 (times m.k cs) (sym (tell.settings m.k m.below) ∙ m.none) in
          subst (Misplaced cs Begin) e (missing m.k m.below (omega arith) (no_began eb))

  advance_misplaced : (b n : ℕ) → unless_begun p 3 ≡ n → 0 < n → Misplaced cs (Advance b) n
  unfolding unless_begun
  advance_misplaced x n f w = go (begun p) refl f
    where
      go : (b : Bool) → begun p ≡ b → cond b 0 3 ≡ n → Misplaced cs (Advance x) n
      go true eb e = absurd (omega arith)
      go false eb e = subst (Misplaced cs (Advance x)) e (early_advance x (no_began eb))

  end_misplaced : (n : ℕ) → unless_begun p 4 ≡ n → 0 < n → Misplaced cs End n
  unfolding unless_begun
  end_misplaced n f w = go (begun p) refl f
    where
      go : (b : Bool) → begun p ≡ b → cond b 0 4 ≡ n → Misplaced cs End n
      go true eb e = absurd (omega arith)
      go false eb e = subst (Misplaced cs End) e (early_end (no_began eb))

  pub fault_misplaced : (c : Command) (n : ℕ) → kind c < 9 → command_fault p c ≡ n → 0 < n → Misplaced cs c n
  unfolding kind command_fault place_of
  fault_misplaced (Amplitude x) n h f w = setting_misplaced (Amplitude x) n (omega arith) f w
  fault_misplaced (Level x) n h f w = setting_misplaced (Level x) n (omega arith) f w
  fault_misplaced (MaxTime x) n h f w = setting_misplaced (MaxTime x) n (omega arith) f w
  fault_misplaced (Interval x) n h f w = setting_misplaced (Interval x) n (omega arith) f w
  fault_misplaced (DxLevel x) n h f w = setting_misplaced (DxLevel x) n (omega arith) f w
  fault_misplaced (Skip x) n h f w = setting_misplaced (Skip x) n (omega arith) f w
  fault_misplaced Begin n h f w = begin_misplaced n f w
  fault_misplaced (Advance x) n h f w = advance_misplaced x n f w
  fault_misplaced End n h f w = end_misplaced n f w
  fault_misplaced (Wrong x) n h f w = absurd (omega arith)

  pub no_fault : (c : Command) → kind c < 9 → InPlace cs c → command_fault p c ≡ 0
  no_fault c h i = go (command_fault p c) refl
    where
      go : (n : ℕ) → command_fault p c ≡ n → n ≡ 0
      go zero e = refl
      go (suc n) e = absurd (i (suc n) (fault_misplaced c (suc n) h e (omega arith)))

  pub in_place : (c : Command) → command_fault p c ≡ 0 → InPlace cs c
  in_place c e n m = let g = misplaced_fault m in omega (arith, misplaced_number m)

-- ---- one command more
pub tell_first : Tell no_places []
unfolding begun times
tell_first = record { settings = λ k h. ap (ltb 0) (none_yet k); began = refl }

times_same : (k : ℕ) (c : Command) (cs : List Command) → (kind c ≡ k → ⊥) → times k (cs ++ (c ∷ [])) ≡ times k cs
unfolding times
times_same k c cs h = let z : times k [] ≡ 0 = refl in omega (arith, times-append k cs (c ∷ []), times_other k c [] h)

times_more : (c : Command) (cs : List Command) → 0 < times (kind c) (cs ++ (c ∷ []))
times_more c cs = omega (arith, times-append (kind c) cs (c ∷ []), times_here c [])

module _ (p : Places) (cs : List Command) (tell : Tell p cs) (from : ℕ) (l : 0 < from) where
  tell_setting : (c : Command) → kind c < 6 → Tell (noted p c from) (cs ++ (c ∷ []))
  tell_setting c h =
      record {
        settings = λ k g. go k g (eqb k (kind c)) refl;
        began = begun_setting p c from h ∙ tell.began ∙ ap (ltb 0) (sym (times_same 6 c cs (λ e. omega arith)));
      }
    where
      go : (k : ℕ) → k < 6 → (b : Bool) → eqb k (kind c) ≡ b → ltb 0 (place_of (noted p c from) k) ≡ ltb 0 (times k (cs ++ (c ∷ [])))
      go k g true b =
          let same = eqb-true k (kind c) b in
          rw same (ap (ltb 0) (own_place p c from h) ∙ lt-ltb 0 from l ∙ sym (lt-ltb 0 (times (kind c) (cs ++ (c ∷ []))) (times_more c cs)))
      go k g false b =
          let other = eqb-false k (kind c) b in
          ap (ltb 0) (other_place p c from k h other)
          ∙ tell.settings k g
          ∙ ap (ltb 0) (sym (times_same k c cs (λ e. other (sym e))))

  tell_begin : Tell (noted p Begin from) (cs ++ (Begin ∷ []))
  unfolding noted begun place_of kind
  tell_begin =
      record {
        settings = λ k g. tell.settings k g ∙ ap (ltb 0) (sym (times_same k Begin cs (λ e. omega arith)));
        began = lt-ltb 0 from l ∙ sym (lt-ltb 0 (times 6 (cs ++ (Begin ∷ []))) (times_more Begin cs));
      }

  tell_advance : (n : ℕ) → Tell (noted p (Advance n) from) (cs ++ (Advance n ∷ []))
  unfolding noted begun place_of kind
  tell_advance n =
      record {
        settings = λ k g. tell.settings k g ∙ ap (ltb 0) (sym (times_same k (Advance n) cs (λ e. omega arith)));
        began = tell.began ∙ ap (ltb 0) (sym (times_same 6 (Advance n) cs (λ e. omega arith)));
      }

  pub tell_next : (c : Command) → kind c < 8 → Tell (noted p c from) (cs ++ (c ∷ []))
  unfolding kind
  tell_next (Amplitude x) h = tell_setting (Amplitude x) (omega arith)
  tell_next (Level x) h = tell_setting (Level x) (omega arith)
  tell_next (MaxTime x) h = tell_setting (MaxTime x) (omega arith)
  tell_next (Interval x) h = tell_setting (Interval x) (omega arith)
  tell_next (DxLevel x) h = tell_setting (DxLevel x) (omega arith)
  tell_next (Skip x) h = tell_setting (Skip x) (omega arith)
  tell_next Begin h = tell_begin
  tell_next (Advance n) h = tell_advance n
  tell_next End h = absurd (omega arith)
  tell_next (Wrong n) h = absurd (omega arith)
