-- The ways of a call of an order: from what its parts promise to what it answers and leaves.
use Rattle.std.proofs.Common.{◌≡◌, ℕ, ◌*◌, ◌≤◌, true, List, [], ◌∷◌, ◌++◌, map, length, sym, refl, ap, ◌∙◌, subst, arith, le-ltb, leb-true}
use Rattle.std.specs.Prelude.{None, Ok}
use lib.Ieee.{Float}
use Rattle.vectors.specs.Memory.{put}
use Rattle.run.specs.declared.settings.Settings.{Settings}
use Rattle.run.specs.declared.simulate.Advanced.{Advanced}
use Rattle.run.specs.declared.simulate.Begun.{Begun}
use Rattle.run.specs.declared.carry_out.Job.{Job}
use Rattle.run.specs.Model.{frame_count}
use Rattle.run.specs.Frames.{frame_size_of}
use Rattle.run.specs.Tally.{Reply, refused, full, ran}
use Rattle.run.specs.Calls.{begin_of, advance_of, frames_told}
use Rattle.run.specs.AdvanceLaws.{Leaves, advance_leaves}
use Rattle.run.specs.BeginLaws.{Begins, begin_leaves}
use Rattle.run.specs.Answers.{reply_of, after_begin, after_advance}
use Rattle.run.specs.Order.{Read, Refused, read_order}
use Rattle.run.specs.Lines.{Line, frame, refusal_at, text_of, texts_of}
use Rattle.run.specs.LinesLaws.{Long, texts_of-append, texts_of_one}
use Rattle.run.specs.CarryOut.{printed, after_carried, room_for, has_room, begin_order_of, read_uses, begin_order_uses, Fits}
use Rattle.run.specs.declared.writer.Writer.{Writer as Held}
use Rattle.run.specs.Written.{Written}

pub size_is : {n : ℕ} (s : Settings) → n ≡ frame_size_of s → n ≡ frame_count s
unfolding frame_count
size_is s e = e

-- ---- lines
-- a line that is no frame, alone
pub line_alone : (l : Line) {most : ℕ} {a b : Held ℕ} → Written most (text_of l) a b → Written most (texts_of (l ∷ [])) a b
line_alone l w = rw (texts_of_one l) w

-- behind the frames a line more
pub texts_then : (fs : List (List Float)) (l : Line) → texts_of (map frame fs ++ l ∷ []) ≡ texts_of (map frame fs) ++ text_of l
texts_then fs l = rw (texts_of-append (map frame fs) (l ∷ []), texts_of_one l) refl

-- ---- an advance
module _ (j : Job) (memory work frames : List Float) (a : Advanced) (memory' frames' : List Float) (e : after_advance a memory' frames' ≡ advance_of j.run memory work frames j.rest) where
  leaves : Leaves j.run frames j.rest (after_advance a memory' frames')
  leaves = subst (Leaves j.run frames j.rest) (sym e) (advance_leaves j.run memory work frames j.rest)

  size : frame_count j.run.settings ≡ frame_count a.record.settings
  size = ap frame_count (sym leaves.settings)

  pub told_fits : frames_told (reply_of a.answer) * frame_count a.record.settings ≤ length frames'
  told_fits = let l = leaves in subst (λ (n : ℕ). frames_told (reply_of a.answer) * n ≤ length frames') size (omega (arith, l.long, l.fits))

  pub told_long : Long (frame_count a.record.settings) (reply_of a.answer)
  told_long = subst (λ (n : ℕ). Long n (reply_of a.answer)) size leaves.large

  -- room for the lines as before the call
  pub told_room : (out : List ℕ) → has_room (length frames) (length out) ≡ true → room_for (length frames') ≤ length out
  told_room out h = let l = leaves in omega (arith, l.long, leb-true (room_for (length frames)) (length out) h)

  pub rest_fits : Fits j (reply_of a.answer)
  rest_fits = go (reply_of a.answer) leaves.few
    where
      go : (r : Reply) → ((m k : ℕ) → r ≡ full m k → m ≤ j.rest) → Fits j r
      go (refused n) h = tt
      go (full m k) h = h m k refl
      go (ran o k) h = tt

-- ---- a begin
module _ (s : Settings) (memory work frames : List Float) (b : Begun) (memory' frames' : List Float) (e : after_begin (Ok b) memory' frames' ≡ begin_of s memory work frames) where
  begins : Begins s frames (after_begin (Ok b) memory' frames')
  begins = subst (Begins s frames) (sym e) (begin_leaves s memory work frames)

  size' : frame_count s ≡ frame_count b.record.settings
  size' = ap frame_count (sym (begins.settings b.record b.count refl))

  pub begun_fits : b.count * frame_count b.record.settings ≤ length frames'
  begun_fits = let l = begins.long in subst (λ (n : ℕ). b.count * n ≤ length frames') size' (omega (arith, begins.fits b.record b.count refl))

  pub begun_large : 6 ≤ frame_count b.record.settings
  begun_large = subst (λ (n : ℕ). 6 ≤ n) size' (begins.large b.record b.count refl)

  -- room for the lines as before the call
  pub begun_room : (out : List ℕ) → room_for (length frames) ≤ length out → room_for (length frames') ≤ length out
  begun_room out h = let l = begins.long in omega arith

-- ---- the front of an order
module _ (order : List ℕ) (memory work frames : List Float) (out : List ℕ) (h : has_room (length frames) (length out) ≡ true) where
  pub read_uses_lem :
      (state work' : ℕ) (r : Read) → length order ≤ 4096 → r ≡ read_order order →
      begin_order_uses order state work' (length frames) (length out) ≡ read_uses state work' (length frames) r
  unfolding begin_order_uses
  read_uses_lem state work' r l e = rw (h, le-ltb 4096 (length order) l, e)

  -- an order that the reader refuses: its line from the first byte on
  pub refused_begin_lem :
      (n at : ℕ) {end : ℕ} {out' : List ℕ} → length order ≤ 4096 → Refused n at ≡ read_order order →
      out' ≡ put 0 (text_of (refusal_at n at)) out → end ≡ length (text_of (refusal_at n at)) →
      after_carried (Ok (record { end = end; next = None })) memory frames out' ≡ begin_order_of order memory work frames out
  unfolding begin_order_of
  refused_begin_lem n at l e w d =
      let one = sym (texts_of_one (refusal_at n at)) in
      rw (h, le-ltb 4096 (length order) l, ← e)
      (λ i. record { answer = printed ((d ∙ ap length one) i) None; memory = memory; frames = frames; out = (w ∙ ap (λ (t : List ℕ). put 0 t out) one) i })
