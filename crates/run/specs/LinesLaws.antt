-- Lengths of lines: those of a call fit into the room that it asks for.
use Rattle.std.specs.Prelude.{◌≡◌, ℕ, zero, suc, ◌+◌, ◌*◌, ◌≤◌, List, [], ◌∷◌, ◌++◌, map, length, drop, refl, Float}
use Rattle.std.proofs.Common.{append_assoc, append-nil, sym, ◌∙◌, suc-mul, arith, length-drop, length-take-le}
use Rattle.std.proofs.Math.Path.{ap}
use Rattle.std.proofs.Math.ListN.{length-append}
use Rattle.run.specs.Report.{frame_line}
use Rattle.run.specs.ReportLaws.{length_frame, length_outcome, length_refusal}
use Rattle.run.specs.Tally.{Reply, refused, full, ran}
use Rattle.run.specs.Calls.{frames_in, frames_told}
use Rattle.run.specs.FrameLaws.{Each, none, more}
use Rattle.run.specs.Lines.{Line, frame, outcome, refusal, text_of, texts_of, reply_lines}

pub texts_of-append : (xs ys : List Line) → texts_of (xs ++ ys) ≡ texts_of xs ++ texts_of ys
unfolding texts_of
texts_of-append [] ys = refl
texts_of-append (x ∷ xs) ys = ap (λ (t : List ℕ). text_of x ++ t) (texts_of-append xs ys) ∙ sym (append_assoc (text_of x) (texts_of xs) (texts_of ys))

pub texts_of_one : (l : Line) → texts_of (l ∷ []) ≡ text_of l
unfolding texts_of
texts_of_one l = append-nil (text_of l)

-- ---- frames as a frame memory holds them
pub each_frames_in : (k F : ℕ) (memory : List Float) → k * F ≤ length memory → Each F (frames_in k F memory)
unfolding frames_in
each_frames_in zero F memory h = none
each_frames_in (suc k) F memory h =
    let m = suc-mul k F in
    more (length-take-le F memory (omega arith)) (each_frames_in k F (drop F memory) (omega (arith, length-drop F memory)))

pub length-frames_in : (k F : ℕ) (memory : List Float) → length (frames_in k F memory) ≡ k
unfolding frames_in
length-frames_in zero F memory = refl
length-frames_in (suc k) F memory = ap suc (length-frames_in k F (drop F memory))

-- ---- room
-- a frame has more than 6 numbers, so its line has no more bytes than 18 for each
pub frames_room : {F : ℕ} {fs : List (List Float)} → Each F fs → 6 ≤ F → length (texts_of (map frame fs)) ≤ 18 * (length fs * F)
unfolding texts_of text_of
frames_room none h = omega arith
frames_room {F} {fs = f ∷ fs} (more e r) h =
    let l = length-append (frame_line f) (texts_of (map frame fs)) in
    omega (arith, l, length_frame f, frames_room r h, suc-mul (length fs) F, e)

-- so has every frame of a call that is not refused
abbrev pub Long : ℕ → Reply → Type 0
Long F (refused n) = Unit {0}
Long F (full a k) = 6 ≤ F
Long F (ran o k) = 6 ≤ F

module _ {F : ℕ} {fs : List (List Float)} (each : Each F fs) (room steps : ℕ) (time : Float) where
  pub reply_room :
      (r : Reply) → Long F r → length fs ≡ frames_told r → frames_told r * F ≤ room →
      length (texts_of (reply_lines fs steps time r)) ≤ 18 * room + 64
  unfolding reply_lines frames_told text_of
  reply_room (refused n) w e h = let t = ap length (texts_of_one (refusal n)) in omega (arith, length_refusal n)
  reply_room (full a k) w e h =
      let m : length fs * F ≡ k * F = ap (λ (i : ℕ). i * F) e in omega (arith, frames_room each w)
  reply_room (ran o k) w e h =
      let m : length fs * F ≡ k * F = ap (λ (i : ℕ). i * F) e in
      let t = ap length (texts_of-append (map frame fs) (outcome o steps time ∷ [])) ∙ length-append (texts_of (map frame fs)) (texts_of (outcome o steps time ∷ [])) in
      let l = ap length (texts_of_one (outcome o steps time)) in
      omega (arith, frames_room each w, length_outcome o steps time)
