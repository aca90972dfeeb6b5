-- What an 08 prints: with frame memory for a frame, full has made an attempt, so the calls after it end; and they change nothing that is printed.
use Rattle.std.specs.Prelude.{◌≡◌, ℕ, zero, suc, ◌+◌, ◌-◌, ◌*◌, ◌<◌, ◌≤◌, Bool, true, false, cond, not, ◌&&◌, List, [], ◌∷◌, ◌++◌, map, length, drop, ◌≢◌, nat_lt, Float}
use Rattle.std.proofs.Math.Bool.{and-false}
use Rattle.std.proofs.Common.{append_assoc, append-nil, ◌∙◌, subst, add-zero, zero-add, le-ltb, ltb-false}
use Rattle.std.specs.Prelude.{Option, None, Some}
use Rattle.std.proofs.Math.Path.{refl, sym, ap}
use native.Mathlib.Omega.{arith}
use Rattle.std.proofs.Math.Seq.{drop_at}
use Rattle.run.specs.declared.settings.Settings.{Settings}
use Rattle.run.specs.Model.{fault_at, frame_count, first_state, holds_nan, frames_next, frame_of, next_state}
use Rattle.run.specs.ModelLaws.{some_not_none, frames_next_skipped}
use Rattle.run.specs.Outcome.{Outcome}
use Rattle.run.specs.PlainRun.{Machine, option, has_ended, outcome_of, attempt, plain_run}
use Rattle.run.specs.PlainRunLaws.{plain_run_more, plain_run_ended_stays}
use Rattle.run.specs.Tally.{Reply, refused, full, ran, Told, too_short, too_many, appended, no_room, attempts, told}
use Rattle.run.specs.Calls.{lent_refusal, begin_refusal, counted}
use Rattle.run.specs.OneCall.{told_runs, told_counted}
use Rattle.run.specs.AdvanceLaws.{full_is, ran_not_full, refused_not_full}
use Rattle.run.specs.Lines.{Line, frame, outcome, refusal, reply_lines}
use Rattle.run.specs.OrderLines.{lent_state, lent_work, lent_frames, asked, Printed, frames_over, told_lines, after_told, advance_lines}

-- ---- lists
pub map-append : {A B : Type 0} (f : A → B) (xs ys : List A) → map f (xs ++ ys) ≡ map f xs ++ map f ys
map-append f [] ys = refl
map-append f (x ∷ xs) ys = ap (λ (l : List _). f x ∷ l) (map-append f xs ys)

-- ---- the plain run's frames and steps only grow
module _ (s : Settings) where
  record More (m n : Machine) (k : ℕ) : Type 0 where
    frames : List (List Float)
    is : n.frames ≡ m.frames ++ frames
    steps : n.steps ≤ m.steps + k

  attempt_more : (m : Machine) → More m (attempt s m) 1
  unfolding attempt
  attempt_more m = go (has_ended s m) (holds_nan (next_state s m.state)) (frames_next s m.state)
    where
      go :
          (e h f : Bool) →
          More m
          (cond e m
          (cond h
          (record { state = m.state; steps = m.steps; broken = true; frames = m.frames })
          (record {
            state = next_state s m.state;
            steps = m.steps + 1;
            broken = m.broken;
            frames = cond f (m.frames ++ frame_of s (next_state s m.state) ∷ []) m.frames;
          })))
          1
      go true h f = record { frames = []; is = sym (append-nil m.frames); steps = omega arith }
      go false true f = record { frames = []; is = sym (append-nil m.frames); steps = omega arith }
      go false false true = record { frames = frame_of s (next_state s m.state) ∷ []; is = refl; steps = omega arith }
      go false false false = record { frames = []; is = sym (append-nil m.frames); steps = omega arith }

  more_then : {m n o : Machine} {j k : ℕ} → More m n j → More n o k → More m o (j + k)
  more_then {m} {n} {o} a b =
      record {
        frames = a.frames ++ b.frames;
        is = b.is ∙ ap (λ (l : List (List Float)). l ++ b.frames) a.is ∙ append_assoc m.frames a.frames b.frames;
        steps = omega (arith, a.steps, b.steps);
      }

  run_more : (S k : ℕ) → More (plain_run s S) (plain_run s (S + k)) k
  run_more S zero = subst (λ (n : ℕ). More (plain_run s S) (plain_run s n) 0) (sym (add-zero S)) (record { frames = []; is = sym (append-nil (plain_run s S).frames); steps = omega arith })
  run_more S (suc k) =
      let e : attempt s (plain_run s (S + k)) ≡ plain_run s (S + suc k) = sym (plain_run_more s S k) ∙ ap (plain_run s) (let z : S + (k + 1) ≡ S + suc k = omega arith in z) in
      subst (λ (m : Machine). More (plain_run s S) m (suc k)) e
      (subst (More (plain_run s S) (attempt s (plain_run s (S + k)))) (let z : k + 1 ≡ suc k = omega arith in z) (more_then (run_more S k) (attempt_more (plain_run s (S + k)))))

  pub frames_grow : (S k : ℕ) → (plain_run s (S + k)).frames ≡ (plain_run s S).frames ++ frames_over s S k
  unfolding frames_over
  frames_grow S k =
      let m = run_more S k in
      m.is
      ∙ ap (λ (l : List (List Float)). (plain_run s S).frames ++ l)
      (sym (ap (drop (length (plain_run s S).frames)) m.is ∙ drop_at (plain_run s S).frames m.frames (length (plain_run s S).frames) refl))

  pub steps_grow : (S k : ℕ) → (plain_run s (S + k)).steps ≤ (plain_run s S).steps + k
  steps_grow S k = (run_more S k).steps

  -- frames over one stretch and the next
  pub frames_over_both : (S j k : ℕ) → frames_over s S (j + k) ≡ frames_over s S j ++ frames_over s (S + j) k
  frames_over_both S j k =
      let F = (plain_run s S).frames in
      let e : F ++ frames_over s S (j + k) ≡ F ++ (frames_over s S j ++ frames_over s (S + j) k) =
      sym (frames_grow S (j + k))
      ∙ ap (λ (n : ℕ). (plain_run s n).frames) (let z : S + (j + k) ≡ S + j + k = omega arith in z)
      ∙ frames_grow (S + j) k
      ∙ ap (λ (l : List (List Float)). l ++ frames_over s (S + j) k) (frames_grow S j)
      ∙ append_assoc F (frames_over s S j) (frames_over s (S + j) k) in
      sym (drop_at F (frames_over s S (j + k)) (length F) refl) ∙ ap (drop (length F)) e ∙ drop_at F (frames_over s S j ++ frames_over s (S + j) k) (length F) refl

-- ---- what the tally's attempts answer
abbrev is_full_at : (made left : ℕ) → Told → Type 0
is_full_at made left t = (a k : ℕ) → t.reply ≡ full a k → (made ≤ a) × ((a < made + left) × (t.made ≡ a))

module _ (s : Settings) (S room : ℕ) where
  attempts_full : (left made : ℕ) → is_full_at made left (attempts s S room left made)
  unfolding attempts
  attempts_full zero made a k e = absurd (ran_not_full (outcome_of s (plain_run s (S + made))) (appended s S made) a k e)
  attempts_full (suc left) made a k e = go (no_room s S room made) (attempts s S room left (made + 1)) (attempts_full left (made + 1)) a k e
    where
      go : (b : Bool) (t : Told) → is_full_at (made + 1) left t → is_full_at made (suc left) (cond b (record { made = made; reply = full made (appended s S made) }) t)
      go true t h a k e = let z = full_is made a (appended s S made) k e in (omega arith, (omega arith, z))
      go false t h a k e = let z = h a k e in (omega (arith, z.0), (omega (arith, z.1.0), z.1.1))

  -- an outcome is that of the plain run when the budget is used up
  attempts_ran : (left made : ℕ) (o : Outcome) (k : ℕ) → (attempts s S room left made).reply ≡ ran o k → o ≡ outcome_of s (plain_run s (S + (made + left)))
  unfolding attempts
  attempts_ran zero made o k e =
      let z : outcome_of s (plain_run s (S + made)) ≡ o = cc in
      sym z ∙ ap (λ (n : ℕ). outcome_of s (plain_run s (S + n))) (sym (add-zero made))
  attempts_ran (suc left) made o k e = go (no_room s S room made) (attempts s S room left (made + 1)) (attempts_ran left (made + 1)) e
    where
      go :
          (b : Bool) (t : Told) → ((o : Outcome) (k : ℕ) → t.reply ≡ ran o k → o ≡ outcome_of s (plain_run s (S + (made + 1 + left)))) →
          (cond b (record { made = made; reply = full made (appended s S made) }) t).reply ≡ ran o k → o ≡ outcome_of s (plain_run s (S + (made + suc left)))
      go true t h e = absurd (ran_not_full o k made (appended s S made) (sym e))
      go false t h e = h o k e ∙ ap (λ (n : ℕ). outcome_of s (plain_run s (S + n))) (let z : made + 1 + left ≡ made + suc left = omega arith in z)

  -- no attempt is refused
  attempts_not_refused : (left made n : ℕ) → (attempts s S room left made).reply ≢ refused n
  unfolding attempts
  attempts_not_refused zero made n e = let z : ◌≡◌ {A = ℕ} 0 1 = cc in omega arith
  attempts_not_refused (suc left) made n e = go (no_room s S room made) (attempts s S room left (made + 1)) (attempts_not_refused left (made + 1) n) e
    where
      go : (b : Bool) (t : Told) → (t.reply ≢ refused n) → (cond b (record { made = made; reply = full made (appended s S made) }) t).reply ≢ refused n
      go true t h e = let z : ◌≡◌ {A = ℕ} 0 1 = cc in omega arith
      go false t h e = h e

-- ---- frame memory for a frame
-- a frame fits, or none is made
abbrev pub Roomy : Settings → (room : ℕ) → Type 0
Roomy s room = (not s.skip && nat_lt room (frame_count s)) ≡ false

module _ (s : Settings) (room : ℕ) (roomy : Roomy s room) where
  no_room_first : (S : ℕ) → no_room s S room 0 ≡ false
  unfolding no_room appended
  no_room_first S = go s.skip refl roomy
    where
      m : Machine
      m = plain_run s (S + 0)

      none_yet : length m.frames - length (plain_run s S).frames ≡ 0
      none_yet = let e = ap (λ (n : ℕ). length (plain_run s n).frames) (add-zero S) in omega arith

      go :
          (b : Bool) → s.skip ≡ b → (not b && nat_lt room (frame_count s)) ≡ false →
          (not (has_ended s m) && (frames_next s m.state && nat_lt (room - (length m.frames - length (plain_run s S).frames) * frame_count s) (frame_count s))) ≡ false
      go true h r = rw (frames_next_skipped s m.state h) (and-false (not (has_ended s m)))
      go false h r =
          let z : room - (length m.frames - length (plain_run s S).frames) * frame_count s ≡ room =
          ap (λ (n : ℕ). room - n * frame_count s) none_yet ∙ (let y : room - 0 * frame_count s ≡ room = omega arith in y) in
          rw (z, r, and-false (frames_next s m.state)) (and-false (not (has_ended s m)))

  -- "with frame memory of at least F numbers full reports at least one attempt", and fewer than the budget
  attempts_move : (S budget a k : ℕ) → (attempts s S room budget 0).reply ≡ full a k → (1 ≤ a) × (a < budget)
  unfolding attempts
  attempts_move S zero a k e = absurd (ran_not_full (outcome_of s (plain_run s (S + 0))) (appended s S 0) a k e)
  attempts_move S (suc left) a k e =
      let z = attempts_full s S room left (0 + 1) a k (rw (no_room_first S) at e) in
      (omega (arith, z.0), omega (arith, z.1.0))

  pub full_moves :
      (S budget a k : ℕ) → (attempts s S room budget 0).reply ≡ full a k → ((1 ≤ a) × (a < budget)) × ((attempts s S room budget 0).made ≡ a)
  full_moves S budget a k e = (attempts_move S budget a k e, (attempts_full s S room budget 0 a k e).1.1)

-- ---- the settings of a begin that is not refused, with memories of these lengths
pub record Lendable (s : Settings) (state work frames : ℕ) : Type 0 where
  pub sound : fault_at s ≡ None
  pub fits : too_short s state work ≡ false
  pub roomy : Roomy s frames

pub lendable : (s : Settings) (state work frames : ℕ) → begin_refusal s state work frames ≡ None → Lendable s state work frames
unfolding begin_refusal lent_refusal
lendable s state work frames e =
    go (fault_at s) refl (too_short s state work) refl (not s.skip && nat_lt frames (frame_count s)) refl (holds_nan (first_state s)) e
  where
    go :
        (o : Option ℕ) → fault_at s ≡ o → (a : Bool) → too_short s state work ≡ a →
        (b : Bool) → (not s.skip && nat_lt frames (frame_count s)) ≡ b → (d : Bool) →
        ◌≡◌ {A = Option ℕ} (option (option o Some (cond a (Some 11) (cond b (Some 12) None))) Some (cond d (Some 13) None)) None →
        Lendable s state work frames
    go (Some k) ho a ha b hb d g = absurd (some_not_none k g)
    go None ho true ha b hb d g = absurd (some_not_none 11 g)
    go None ho false ha true hb d g = absurd (some_not_none 12 g)
    go None ho false ha false hb d g = record { sound = ho; fits = ha; roomy = hb }

-- ---- an 08
module _ (s : Settings) where
  abbrev many : (S budget : ℕ) → Bool
  many S budget = too_many (has_ended s (plain_run s S)) (plain_run s S).steps budget

  -- "an 08 prints the frames that the plain run appends over its budget, then one outcome line", or 14
  unfoldable pub plain_lines : (S budget : ℕ) → Printed
  plain_lines S budget =
      cond (many S budget)
      (record { lines = refusal 14 ∷ []; attempts = S })
      (record {
        lines =
            map frame (frames_over s S budget)
            ++ outcome (outcome_of s (plain_run s (S + budget))) (plain_run s (S + budget)).steps (plain_run s (S + budget)).state.time ∷ [];
        attempts = S + budget;
      })

  -- the steps of the attempts made are not counted twice: what is left is not refused either
  few_left : (S a b : ℕ) → a ≤ b → many S b ≡ false → many (S + a) (b - a) ≡ false
  few_left S a b l e = go (has_ended s (plain_run s S)) refl e
    where
      go : (x : Bool) → has_ended s (plain_run s S) ≡ x → (not x && nat_lt 2147483647 ((plain_run s S).steps + b)) ≡ false → many (S + a) (b - a) ≡ false
      go true h f = rw (ap (has_ended s) (plain_run_ended_stays s S a h) ∙ h)
      go false h f =
          let m = ltb-false 2147483647 ((plain_run s S).steps + b) f in
          let n = steps_grow s S a in
          rw (le-ltb 2147483647 ((plain_run s (S + a)).steps + (b - a)) (omega arith)) (and-false (not (has_ended s (plain_run s (S + a)))))

  module _ (lent : Lendable s lent_state lent_work lent_frames) where
    told_many : (S b : ℕ) → many S b ≡ true → told s S (asked b) ≡ record { made = 0; reply = refused 14 }
    unfolding told
    told_many S b e = rw (lent.fits, e)

    told_few : (S b : ℕ) → many S b ≡ false → told s S (asked b) ≡ attempts s S lent_frames b 0
    told_few S b e = told_runs s S (asked b) lent.fits e

    -- full has made an attempt, and fewer than it was to make: so the calls after it end
    pub told_moves :
        (S b a k : ℕ) → (told s S (asked b)).reply ≡ full a k → ((1 ≤ a) × (a < b)) × ((told s S (asked b)).made ≡ a)
    told_moves S b a k e = go (many S b) refl
      where
        go : (x : Bool) → many S b ≡ x → ((1 ≤ a) × (a < b)) × ((told s S (asked b)).made ≡ a)
        go true h = absurd (refused_not_full 14 a k (ap (λ (t : Told). t.reply) (sym (told_many S b h)) ∙ e))
        go false h =
            let z = full_moves s lent_frames lent.roomy S b a k (ap (λ (t : Told). t.reply) (sym (told_few S b h)) ∙ e) in
            (z.0, ap (λ (t : Told). t.made) (told_few S b h) ∙ z.1)

    -- an 08 that made so many attempts and printed this outcome
    abbrev shown : (S : ℕ) → Outcome → (made : ℕ) → Printed
    shown S o made =
        record {
          lines = map frame (frames_over s S made) ++ outcome o (plain_run s (S + made)).steps (plain_run s (S + made)).state.time ∷ [];
          attempts = S + made;
        }

    shown_later :
        (S a b : ℕ) (o : Outcome) →
        let p = shown (S + a) o b in
        record { lines = map frame (frames_over s S a) ++ p.lines; attempts = p.attempts } ≡ shown S o (a + b)
    shown_later S a b o =
        let e : S + a + b ≡ S + (a + b) = omega arith in
        let line : ℕ → List Line = λ (n : ℕ). outcome o (plain_run s n).steps (plain_run s n).state.time ∷ [] in
        ap (λ (n : ℕ). record { lines = map frame (frames_over s S a) ++ (map frame (frames_over s (S + a) b) ++ line n); attempts = n }) e
        ∙ ap (λ (l : List Line). record { lines = l; attempts = S + (a + b) })
        (sym (append_assoc (map frame (frames_over s S a)) (map frame (frames_over s (S + a) b)) (line (S + (a + b))))
        ∙ ap (λ (l : List Line). l ++ line (S + (a + b)))
        (sym (map-append frame (frames_over s S a) (frames_over s (S + a) b)) ∙ ap (map frame) (sym (frames_over_both s S a b))))

    -- calls enough for the budget
    advance_runs : (n S b : ℕ) → b < n → many S b ≡ false → advance_lines s n S b ≡ shown S (outcome_of s (plain_run s (S + b))) b
    unfolding advance_lines after_told told_lines reply_lines counted
    advance_runs zero S b l few = absurd (omega arith)
    advance_runs (suc n) S b l few =
        rw (told_few S b few) (go (attempts s S lent_frames b 0).reply refl (λ a l e. advance_runs n (S + a) (b - a) l e))
      where
        t : Told
        t = attempts s S lent_frames b 0

        made_counted : t.made ≡ counted b t.reply
        made_counted = ap (λ (u : Told). u.made) (sym (told_few S b few)) ∙ told_counted s S (asked b) ∙ ap (λ (u : Told). counted b u.reply) (told_few S b few)

        go :
            (r : Reply) → t.reply ≡ r →
            ((a : ℕ) → b - a < n → many (S + a) (b - a) ≡ false → advance_lines s n (S + a) (b - a) ≡ shown (S + a) (outcome_of s (plain_run s (S + a + (b - a)))) (b - a)) →
            after_told s (advance_lines s n) S b t r ≡ shown S (outcome_of s (plain_run s (S + b))) b
        go (refused k) e again = absurd (attempts_not_refused s S lent_frames b 0 k e)
        go (ran o k) e again =
            let m : t.made ≡ b = made_counted ∙ ap (counted b) e in
            let q : o ≡ outcome_of s (plain_run s (S + b)) =
            attempts_ran s S lent_frames b 0 o k e ∙ ap (λ (i : ℕ). outcome_of s (plain_run s (S + i))) (zero-add b) in
            ap
            (λ (r : Reply). record { lines = reply_lines (frames_over s S t.made) (plain_run s (S + t.made)).steps (plain_run s (S + t.made)).state.time r; attempts = S + t.made })
            e
            ∙ ap (shown S o) m
            ∙ ap (λ (x : Outcome). shown S x b) q
        go (full a k) e again =
            let z = full_moves s lent_frames lent.roomy S b a k e in
            let c : a + (b - a) ≡ b = omega (arith, z.0.1) in
            let later = again a (omega (arith, z.0.0, z.0.1)) (few_left S a b (omega (arith, z.0.1)) few) in
            let d : S + a + (b - a) ≡ S + b = omega (arith, z.0.1) in
            ap
            (λ (r : Reply). record { lines = reply_lines (frames_over s S t.made) (plain_run s (S + t.made)).steps (plain_run s (S + t.made)).state.time r ++ (advance_lines s n (S + t.made) (b - a)).lines; attempts = (advance_lines s n (S + t.made) (b - a)).attempts })
            e
            ∙ ap (λ (i : ℕ). record { lines = map frame (frames_over s S i) ++ (advance_lines s n (S + i) (b - a)).lines; attempts = (advance_lines s n (S + i) (b - a)).attempts }) z.1
            ∙ ap (λ (p : Printed). record { lines = map frame (frames_over s S a) ++ p.lines; attempts = p.attempts }) later
            ∙ shown_later S a (b - a) (outcome_of s (plain_run s (S + a + (b - a))))
            ∙ ap (λ (i : ℕ). shown S (outcome_of s (plain_run s i)) (a + (b - a))) d
            ∙ ap (shown S (outcome_of s (plain_run s (S + b)))) c

    advance_refused : (n S b : ℕ) → b < n → many S b ≡ true → advance_lines s n S b ≡ record { lines = refusal 14 ∷ []; attempts = S }
    unfolding advance_lines after_told told_lines reply_lines
    advance_refused zero S b l e = absurd (omega arith)
    advance_refused (suc n) S b l e = rw (told_many S b e) (ap (λ (i : ℕ). record { lines = refusal 14 ∷ []; attempts = i }) (add-zero S))

    -- the calls after full change nothing that is printed
    pub advance_prints : (n S b : ℕ) → b < n → advance_lines s n S b ≡ plain_lines S b
    unfolding plain_lines
    advance_prints n S b l = go (many S b) refl
      where
        go :
            (x : Bool) → many S b ≡ x →
            advance_lines s n S b ≡ cond x (record { lines = refusal 14 ∷ []; attempts = S }) (shown S (outcome_of s (plain_run s (S + b))) b)
        go false e = advance_runs n S b l e
        go true e = advance_refused n S b l e
