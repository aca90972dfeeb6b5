-- Laws of a memory with numbers put at its front: what stays, and frames one after another.
use Rattle.std.specs.Prelude.{◌≡◌, ℕ, zero, suc, ◌+◌, ◌*◌, ◌≤◌, List, [], ◌∷◌, ◌++◌, length, take, drop, Float}
use mathlib.Core.List.{flatten, append_assoc}
use Rattle.std.proofs.Math.Path.{refl, ap, ap₂}
use Rattle.std.proofs.Common.{sym, ◌∙◌, length-drop, take-append-drop, take_at, drop_at}
use Rattle.std.proofs.Math.Nat.{suc-mul}
use native.Mathlib.Omega.{arith}
use Rattle.std.proofs.Math.ListN.{length-append}
use Rattle.std.proofs.lemmas.List.{drop-append-le}
use Rattle.std.proofs.Math.Seq.{drop-append-add, drop-drop}
use Rattle.vectors.specs.Memory.{put}
use Rattle.run.specs.Calls.{frames_in, with_frames}

-- ---- numbers put at the front
module _ (xs l : List Float) where
  pub put_front : put 0 xs l ≡ xs ++ drop (length xs) l
  unfolding put
  put_front = let z : 0 + length xs ≡ length xs = omega arith in rw z

  pub drop-put : (n : ℕ) → length xs ≡ n → drop n (put 0 xs l) ≡ drop n l
  drop-put n e = ap (drop n) put_front ∙ drop_at xs (drop (length xs) l) n e ∙ ap (λ (k : ℕ). drop k l) e

  pub length-put_front : length xs ≤ length l → length (put 0 xs l) ≡ length l
  length-put_front h = ap length put_front ∙ simp (length-append, length-drop) (omega arith)

  -- numbers put where others of as many were put
  pub put_again : (ys : List Float) → length ys ≡ length xs → put 0 ys (put 0 xs l) ≡ put 0 ys l
  unfolding put
  put_again ys e =
      let z : 0 + length ys ≡ length ys = omega arith in
      rw z (ap (λ (k : List Float). ys ++ k) (drop-put (length ys) (sym e)))

  -- numbers put into a part that is lent from the front
  pub put_lent : (k : ℕ) → length xs ≤ length (take k l) → put 0 xs (take k l) ++ drop k l ≡ put 0 xs l
  unfolding put
  put_lent k h =
      let z : 0 + length xs ≡ length xs = omega arith in
      rw (z, append_assoc)
      (ap (λ (r : List Float). xs ++ r)
      (sym (drop-append-le (length xs) (take k l) (drop k l) h) ∙ ap (drop (length xs)) (take-append-drop k l)))

-- no numbers put
pub put_nothing : (at : ℕ) (l : List Float) → put at [] l ≡ l
unfolding put
put_nothing at l = let z : at + 0 ≡ at = omega arith in rw z (take-append-drop at l)

-- the front itself
pub put_self : (n : ℕ) (l : List Float) → put 0 (take n l) l ≡ l
put_self n l =
    put_front (take n l) l
    ∙ go n l
  where
    go : (n : ℕ) (l : List Float) → take n l ++ drop (length (take n l)) l ≡ l
    go zero l = refl
    go (suc n) [] = refl
    go (suc n) (x ∷ l) = ap (λ (r : List Float). x ∷ r) (go n l)

-- ---- frames of F numbers each
pub data Each (F : ℕ) : List (List Float) → Type 0 where
  none : Each F []
  more : {f : List Float} {fs : List (List Float)} → length f ≡ F → Each F fs → Each F (f ∷ fs)

module _ {F : ℕ} where
  pub each_snoc : {fs : List (List Float)} → Each F fs → (f : List Float) → length f ≡ F → Each F (fs ++ f ∷ [])
  each_snoc none f e = more e none
  each_snoc (more h r) f e = more h (each_snoc r f e)

  pub length-flatten : {fs : List (List Float)} → Each F fs → length (flatten fs) ≡ length fs * F
  unfolding flatten
  length-flatten none = omega arith
  length-flatten {fs = f ∷ fs} (more h r) = length-append f (flatten fs) ∙ omega (arith, h, length-flatten r, suc-mul (length fs) F)

  frames_in-append : {fs : List (List Float)} → Each F fs → (l : List Float) → frames_in (length fs) F (flatten fs ++ l) ≡ fs
  unfolding frames_in flatten
  frames_in-append none l = refl
  frames_in-append {fs = f ∷ fs} (more h r) l =
      rw append_assoc
      (ap₂ ◌∷◌ (take_at f (flatten fs ++ l) F h) (ap (frames_in (length fs) F) (drop_at f (flatten fs ++ l) F h) ∙ frames_in-append r l))

  -- frames are read back
  pub frames_in-put : {fs : List (List Float)} → Each F fs → (l : List Float) → frames_in (length fs) F (with_frames fs l) ≡ fs
  frames_in-put {fs} e l = ap (frames_in (length fs) F) (put_front (flatten fs) l) ∙ frames_in-append e (drop (length (flatten fs)) l)

  -- and nothing behind them changes
  pub drop_frames : {fs : List (List Float)} → Each F fs → (l : List Float) → drop (length fs * F) (with_frames fs l) ≡ drop (length fs * F) l
  drop_frames {fs} e l = drop-put (flatten fs) l (length fs * F) (length-flatten e)

  pub length_frames : {fs : List (List Float)} → Each F fs → (l : List Float) → length fs * F ≤ length l → length (with_frames fs l) ≡ length l
  length_frames {fs} e l h = length-put_front (flatten fs) l (omega (arith, length-flatten e))

flatten-append : (fs gs : List (List Float)) → flatten (fs ++ gs) ≡ flatten fs ++ flatten gs
unfolding flatten
flatten-append [] gs = refl
flatten-append (g ∷ fs) gs = rw (flatten-append fs gs, append_assoc)

module _ (xs f l : List Float) (at : ℕ) (e : length xs ≡ at) where
  put_behind_front : put at f (xs ++ drop (length xs) l) ≡ xs ++ (f ++ drop (length xs + length f) l)
  unfolding put
  put_behind_front =
      let rest = drop (length xs) l in
      ap₂ (λ (a b : List Float). a ++ (f ++ b)) (take_at xs rest at e)
      (ap (λ (k : ℕ). drop (k + length f) (xs ++ rest)) (sym e) ∙ drop-append-add xs rest (length f) ∙ drop-drop (length f) (length xs) l)

  put_behind : put at f (put 0 xs l) ≡ put 0 (xs ++ f) l
  put_behind =
      ap (put at f) (put_front xs l)
      ∙ put_behind_front
      ∙ ap (λ (k : ℕ). xs ++ (f ++ drop k l)) (sym (length-append xs f))
      ∙ sym (append_assoc xs f (drop (length (xs ++ f)) l))
      ∙ sym (put_front (xs ++ f) l)

-- frames put behind frames
pub put_frames :
    {F : ℕ} {fs : List (List Float)} → Each F fs → (gs : List (List Float)) (l : List Float) →
    put (length fs * F) (flatten gs) (with_frames fs l) ≡ with_frames (fs ++ gs) l
put_frames {F} {fs} e gs l =
    put_behind (flatten fs) (flatten gs) l (length fs * F) (length-flatten e)
    ∙ ap (λ (xs : List Float). put 0 xs l) (sym (flatten-append fs gs))
