-- Lines of a call in lent bytes, one after another, and the ways that a call takes.
use Rattle.std.proofs.Common.{◌≡◌, ℕ, zero, suc, ◌+◌, ◌-◌, ◌*◌, ◌/◌, ◌<◌, ◌≤◌, Bool, true, false, leb, List, [], ◌++◌, map, length, sym, refl, ap, ◌∙◌, mul-le-mul_right, suc-mul, add-one, append_assoc, append-nil, arith, length-append, le-leb, leb-false, leb-true}
use lib.Ieee.{Float}
use Rattle.std.proofs.Math.Seq.{take-append_seam, drop-append_seam}
use borrow.Author.Tests.{lt-leb}
use Rattle.vectors.specs.Memory.{put}
use Rattle.vectors.specs.MemoryLaws.{length-put}
use Rattle.run.specs.Calls.{frames_in}
use Rattle.run.specs.Report.{frame_line}
use Rattle.run.specs.ReportLaws.{length_frame}
use Rattle.run.specs.Lines.{frame, text_of, texts_of}
use Rattle.run.specs.LinesLaws.{each_frames_in, length-frames_in, frames_room}
use Rattle.run.specs.CarryOut.{room_for}
use Rattle.run.specs.declared.writer.Writer.{Writer as Held}
use Rattle.run.specs.Written.{Written, nothing, then, wider, tight}

-- the test for room, by a division that can't overflow
pub room_is : (frames out : ℕ) → 64 ≤ out → leb frames ((out - 64) / 18) ≡ leb (18 * frames + 64) out
room_is frames out h = go (leb frames ((out - 64) / 18)) refl
  where
    go : (b : Bool) → leb frames ((out - 64) / 18) ≡ b → b ≡ leb (18 * frames + 64) out
    go true e = rw (le-leb (18 * frames + 64) out (let l = leb-true frames ((out - 64) / 18) e in omega arith))
    go false e = rw (lt-leb (18 * frames + 64) out (let l = leb-false frames ((out - 64) / 18) e in omega arith))

-- ---- the lines of frames
abbrev pub frames_text : (i F : ℕ) → List Float → List ℕ
frames_text i F memory = texts_of (map frame (frames_in i F memory))

module _ (F room : ℕ) (memory : List Float) (large : 6 ≤ F) where
  pub frames_text_room : (i : ℕ) → i * F ≤ length memory → length (frames_text i F memory) ≤ 18 * (i * F)
  frames_text_room i h =
      let e : length (frames_in i F memory) * F ≡ i * F = ap (λ (k : ℕ). k * F) (length-frames_in i F memory) in
      omega (arith, frames_room (each_frames_in i F memory h) large)

-- frames up to a count that fits, written from the first byte on, leave the length of the lent bytes
pub frames_length_lem :
    (i count F : ℕ) (memory : List Float) (before after : List ℕ) → i ≤ count → count * F ≤ length memory → 6 ≤ F → room_for (length memory) ≤ length before →
    after ≡ put 0 (frames_text i F memory) before → length after ≡ length before
frames_length_lem i count F memory before after l fit large room e =
    let fewer : i * F ≤ length memory = omega (arith, mul-le-mul_right {m = i} {n = count} F l) in
    ap length e ∙ length-put 0 (frames_text i F memory) before (omega (arith, frames_text_room F (length memory) memory large i fewer))

-- the line of the first of k + 1 frames, and those of the others
text_first : (k F : ℕ) (f rest : List Float) → length f ≡ F → frames_text (k + 1) F (f ++ rest) ≡ frame_line f ++ frames_text k F rest
unfolding frames_in texts_of text_of
text_first k F f rest e = rw (add-one k, ← e, take-append_seam f rest, drop-append_seam f rest)

module _ (count F : ℕ) (memory : List Float) (a : Held ℕ) where
  -- the lines of the first frames of a memory are written, and k frames are left, in `rest`
  pub record Writing (k : ℕ) (rest : List Float) (b : Held ℕ) : Type 0 where
    pub fits : k * F ≤ length rest
    pub done : List ℕ
    pub wrote : Written (length done) done a b
    pub all : done ++ frames_text k F rest ≡ frames_text count F memory

  pub writing_first : count * F ≤ length memory → Writing count memory a
  writing_first fit = record { fits = fit; done = []; wrote = nothing a; all = refl }

  module _ (large : 6 ≤ F) (fit : count * F ≤ length memory) where
    -- one frame more
    module _ (k : ℕ) (f rest : List Float) {n : ℕ} {all : List Float} {b : Held ℕ} (now : Writing n all b) (less : k + 1 ≡ n) (split : all ≡ f ++ rest) (e : length f ≡ F) where
      w : Writing (k + 1) (f ++ rest) b
      w = rw (less, ← split) now

      parts : (w.done ++ frame_line f) ++ frames_text k F rest ≡ frames_text count F memory
      parts = append_assoc w.done (frame_line f) (frames_text k F rest) ∙ ap (λ (t : List ℕ). w.done ++ t) (sym (text_first k F f rest e)) ∙ w.all

      pub turn_room : a.at + 18 * length memory ≤ length a.out.now → b.at + (6 + 17 * length f) ≤ length b.out.now
      turn_room room =
          omega (
            arith,
            ap length parts,
            length-append (w.done ++ frame_line f) (frames_text k F rest),
            length-append w.done (frame_line f),
            length_frame f,
            frames_text_room F (length memory) memory large count fit,
            w.wrote.ends,
            w.wrote.long,
          )

      pub turn : {most : ℕ} {b' : Held ℕ} → Written most (frame_line f) b b' → Writing k rest b'
      turn g = record { fits = omega (arith, w.fits, e, length-append f rest, suc-mul k F); done = w.done ++ frame_line f; wrote = tight (then w.wrote g); all = parts }

    -- and none left
    pub writing_done : {k : ℕ} {rest : List Float} {b : Held ℕ} → Writing k rest b → (0 < k → length rest < F) → Written (18 * length memory) (frames_text count F memory) a b
    unfolding frames_in texts_of
    writing_done {k} {rest} {b} w few = wider (go k w few) (omega (arith, frames_text_room F (length memory) memory large count fit))
      where
        go : (k : ℕ) → Writing k rest b → (0 < k → length rest < F) → Written (length (frames_text count F memory)) (frames_text count F memory) a b
        go zero w few = rw (← w.all, append-nil) w.wrote
        go (suc k) w few = absurd (omega (arith, w.fits, suc-mul k F, few (omega arith)))
