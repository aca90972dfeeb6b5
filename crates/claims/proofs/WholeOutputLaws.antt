-- Every order's output is whole, or one refusal; and no proper front of whole lines is whole.
use Rattle.std.specs.Prelude.{ℕ, zero, suc, ◌+◌, Bool, cond, ◌≡◌, Float, length, drop}
use Rattle.std.proofs.Math.Bool.{true, false}
use Rattle.std.proofs.Common.{sym, ◌∙◌, ap, arith, drop_at}
use Rattle.std.proofs.lemmas.Bool.{false≢true}
use mathlib.Core.List.{List, [], ◌∷◌, ◌++◌, map, append_assoc}
use Rattle.std.specs.Prelude.{Option, None, Some}
use Rattle.std.proofs.Math.Path.{refl, subst}
use Rattle.std.proofs.Math.Dec.{ltb}
use borrow.Author.Tests.{ltb-false, le-leb}
use Rattle.run.specs.declared.settings.Settings.{Settings}
use Rattle.run.specs.declared.order.Places.{Places}
use Rattle.run.specs.Order.{Read, Refused, Order}
use Rattle.run.specs.Calls.{begin_refusal}
use Rattle.run.specs.FrameLaws.{Each}
use Rattle.run.specs.FrameLaws as each
use Rattle.run.specs.Lines.{Line, frame, outcome, refusal, refusal_at}
use Rattle.run.specs.Model.{frame_count}
use Rattle.run.specs.Order.{read_order}
use Rattle.run.specs.OrderLines.{lent_state, lent_work, lent_frames, Printed, frames_over, advances_lines, run_lines, budgets_from, read_lines, lines_of}
use Rattle.run.specs.OrderLinesLaws.{Lendable, lendable, plain_lines, advance_prints}
use Rattle.run.specs.PlainRun.{start, plain_run, has_ended, outcome_of, option}
use Rattle.run.specs.PlainRunLaws.{plain_run_formed, plain_run_skipped}
use Rattle.run.specs.Tally.{too_many}
use Rattle.claims.specs.RefusalNumbers.{among, refusal_among, among_longer, program_refusals, program_refusals_lem}
use Rattle.claims.proofs.FaultExactly.{refused_number}
use Rattle.claims.specs.WholeOutput.{ends_advance, Advances, no_advance, advance, first_frames, Whole, Output, carried_out, refused, not_frames, Ending}

-- ---- what the advances of an order print
each_drop : {F : ℕ} {fs : List (List Float)} (k : ℕ) → Each F fs → Each F (drop k fs)
each_drop zero e = e
each_drop (suc k) each.none = each.none
each_drop (suc k) (each.more h e) = each_drop k e

module _ (s : Settings) (lent : Lendable s lent_state lent_work lent_frames) where
  over_each : (S made : ℕ) → Each (frame_count s) (frames_over s S made)
  unfolding frames_over
  over_each S made = each_drop (length (plain_run s S).frames) (plain_run_formed s lent.sound (S + made)).framed

  over_skipped : (S made : ℕ) → s.skip ≡ true → frames_over s S made ≡ []
  unfolding frames_over
  over_skipped S made h = rw (plain_run_skipped s h S, plain_run_skipped s h (S + made)) refl

  -- one advance, and what is printed after it
  one_advance :
      (S b n : ℕ) (rest : ℕ → List Line) → ((i : ℕ) → Advances s n (rest i)) →
      Advances s (suc n) ((plain_lines s S b).lines ++ rest (plain_lines s S b).attempts)
  unfolding plain_lines
  one_advance S b n rest later = go (too_many (has_ended s (plain_run s S)) (plain_run s S).steps b)
    where
      end : Line
      end = outcome (outcome_of s (plain_run s (S + b))) (plain_run s (S + b)).steps (plain_run s (S + b)).state.time

      shown : Bool → Printed
      shown x =
          cond x (record { lines = refusal 14 ∷ []; attempts = S })
          (record { lines = map frame (frames_over s S b) ++ end ∷ []; attempts = S + b })

      go : (x : Bool) → Advances s (suc n) ((shown x).lines ++ rest (shown x).attempts)
      go true = advance [] (refusal 14) each.none (λ h. refl) refl (later S)
      go false =
          subst (Advances s (suc n)) (sym (append_assoc (map frame (frames_over s S b)) (end ∷ []) (rest (S + b))))
          (advance (frames_over s S b) end (over_each S b) (over_skipped S b) refl (later (S + b)))

  advances_are : (S : ℕ) (bs : List ℕ) → Advances s (length bs) (advances_lines s S bs)
  unfolding advances_lines
  advances_are S [] = no_advance
  advances_are S (b ∷ bs) =
      subst (λ (p : Printed). Advances s (suc (length bs)) (p.lines ++ advances_lines s p.attempts bs))
      (sym (advance_prints s lent (suc b) S b (omega arith)))
      (one_advance S b (length bs) (λ i. advances_lines s i bs) (λ i. advances_are i bs))

-- ---- what any order prints
module _ (order : List ℕ) where
  long_lines : ltb 4096 (length order) ≡ true → lines_of order ≡ refusal 8 ∷ []
  unfolding lines_of
  long_lines e = rw e

  read_lines_lem : (r : Read) → ltb 4096 (length order) ≡ false → read_order order ≡ r → lines_of order ≡ read_lines order r
  unfolding lines_of
  read_lines_lem r e q = rw (e, q)

  module _ (s : Settings) (p : Places) (short : ltb 4096 (length order) ≡ false) (read : read_order order ≡ Order s p) where
    abbrev budgets : List ℕ
    budgets = budgets_from order p.advances 0 p.count

    run_lines_lem : (o : Option ℕ) → begin_refusal s lent_state lent_work lent_frames ≡ o →
        lines_of order ≡ option o (λ n. refusal n ∷ []) (map frame (first_frames s) ++ advances_lines s 0 budgets)
    unfolding read_lines run_lines start
    run_lines_lem o e = read_lines_lem (Order s p) short read ∙ rw e

    begun : (o : Option ℕ) → begin_refusal s lent_state lent_work lent_frames ≡ o → Output order
    begun (Some n) e =
        refused (refusal n) (run_lines_lem (Some n) e)
        (among_longer 8 n program_refusals (ap (refusal_among program_refusals) (sym e) ∙ program_refusals_lem s))
    begun None e =
        carried_out s p (ltb-false 4096 (length order) short) read e
        (record {
          rest = advances_lines s 0 budgets;
          are = run_lines_lem None e;
          told = advances_are s (lendable s lent_state lent_work lent_frames e) 0 budgets;
        })

  pub order_output : Output order
  unfolding among read_lines
  order_output = go (ltb 4096 (length order)) refl (read_order order) refl
    where
      go : (b : Bool) → ltb 4096 (length order) ≡ b → (r : Read) → read_order order ≡ r → Output order
      go true e r q = refused (refusal 8) (long_lines e) refl
      go false e (Refused n at) q =
          let h = refused_number order n at q in
          refused (refusal_at n at) (read_lines_lem (Refused n at) e q) (rw (le-leb 1 n h.0, le-leb n 4 h.1) refl)
      go false e (Order s p) q = begun s p e q (begin_refusal s lent_state lent_work lent_frames) refl

-- ---- exactly one line that is no frame for each advance, the last of them at the end
frames_none : (fs : List (List Float)) (ls : List Line) → not_frames (map frame fs ++ ls) ≡ not_frames ls
unfolding not_frames
frames_none [] ls = refl
frames_none (f ∷ fs) ls = frames_none fs ls

end_counts : (end : Line) (ls : List Line) → ends_advance end ≡ true → not_frames (end ∷ ls) ≡ end ∷ not_frames ls
unfolding not_frames
end_counts (frame xs) ls e = absurd (false≢true e)
end_counts (outcome o steps time) ls e = refl
end_counts (refusal n) ls e = refl
end_counts (refusal_at n at) ls e = absurd (false≢true e)

advances_counted : {s : Settings} {n : ℕ} {ls : List Line} → Advances s n ls → length (not_frames ls) ≡ n
unfolding not_frames
advances_counted no_advance = refl
advances_counted (advance {lines = ls} fs end each skipped ends later) =
    ap length (frames_none fs (end ∷ ls) ∙ end_counts end ls ends) ∙ ap suc (advances_counted later)

pub one_each : {s : Settings} {n : ℕ} {ls : List Line} → Whole s n ls → length (not_frames ls) ≡ n
one_each {s} w = ap (λ (l : List Line). length (not_frames l)) w.are ∙ ap length (frames_none (first_frames s) w.rest) ∙ advances_counted w.told

advances_end : {s : Settings} {n : ℕ} {ls : List Line} → Advances s (suc n) ls → Ending ls
advances_end (advance fs end e h i no_advance) = record { front = map frame fs; end = end; are = refl; ends = i }
advances_end (advance fs end e h i (advance gs last f j k later)) =
    let z = advances_end (advance gs last f j k later) in
    record {
      front = map frame fs ++ (end ∷ z.front);
      end = z.end;
      are = ap (λ (l : List Line). map frame fs ++ (end ∷ l)) z.are ∙ sym (append_assoc (map frame fs) (end ∷ z.front) (z.end ∷ []));
      ends = z.ends;
    }

pub ends_with_last : {s : Settings} {n : ℕ} {ls : List Line} → Whole s (suc n) ls → Ending ls
ends_with_last {s} w =
    let z = advances_end w.told in
    let F = map frame (first_frames s) in
    record {
      front = F ++ z.front;
      end = z.end;
      are = w.are ∙ ap (λ (l : List Line). F ++ l) z.are ∙ sym (append_assoc F z.front (z.end ∷ []));
      ends = z.ends;
    }

-- ---- a cut output is not whole
first_line : List Line → Line → Line
first_line [] l = l
first_line (x ∷ xs) l = x

not_frame : (end : Line) (f : List Float) → ends_advance end ≡ true → end ≡ frame f → ⊥
not_frame end f e q = false≢true (ap ends_advance (sym q) ∙ e)

-- the first line that is no frame is at the same place in both
after_end :
    (fs gs : List (List Float)) (a b : Line) (xs ys : List Line) → ends_advance a ≡ true → ends_advance b ≡ true →
    map frame fs ++ (a ∷ xs) ≡ map frame gs ++ (b ∷ ys) → xs ≡ ys
unfolding first_line
after_end [] [] a b xs ys h k q = ap (drop 1) q
after_end [] (g ∷ gs) a b xs ys h k q = absurd (not_frame a g h (ap (λ (l : List Line). first_line l a) q))
after_end (f ∷ fs) [] a b xs ys h k q = absurd (not_frame b f k (ap (λ (l : List Line). first_line l a) (sym q)))
after_end (f ∷ fs) (g ∷ gs) a b xs ys h k q = after_end fs gs a b xs ys h k (ap (drop 1) q)

advances_once : {s : Settings} {n : ℕ} {xs zs : List Line} (ys : List Line) → Advances s n xs → Advances s n zs → xs ++ ys ≡ zs → ys ≡ []
advances_once ys no_advance no_advance q = q
advances_once ys (advance {lines = xs} fs a e h i later) (advance {lines = zs} gs b f j k others) q =
    advances_once ys later others (after_end fs gs a b (xs ++ ys) zs i k (sym (append_assoc (map frame fs) (a ∷ xs) ys) ∙ q))

pub cut_not_whole : {s : Settings} {n : ℕ} (front behind : List Line) → Whole s n (front ++ behind) → Whole s n front → behind ≡ []
cut_not_whole {s} front behind w c =
    let F = map frame (first_frames s) in
    let q : F ++ (c.rest ++ behind) ≡ F ++ w.rest =
    sym (append_assoc F c.rest behind) ∙ ap (λ (l : List Line). l ++ behind) (sym c.are) ∙ w.are in
    advances_once behind c.told w.told
    (sym (drop_at F (c.rest ++ behind) (length F) refl) ∙ ap (drop (length F)) q ∙ drop_at F w.rest (length F) refl)
