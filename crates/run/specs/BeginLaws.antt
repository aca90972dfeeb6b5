-- What every begin leaves: its frame fits into frame memory, the length of frame memory stays, and the record has the settings.
use Rattle.std.specs.Prelude.{◌≡◌, ℕ, ◌*◌, ◌≤◌, Bool, true, false, cond, not, ◌&&◌, List, [], ◌∷◌, length, nat_lt, refl, Float}
use Rattle.std.specs.Prelude.{Option, None, Some}
use Rattle.std.proofs.Common.{sym, ap, subst, arith, ltb-false}
use Rattle.run.specs.declared.settings.Settings.{Settings}
use Rattle.run.specs.declared.settings.Record.{Record}
use Rattle.run.specs.Model.{frame_count, first_state, frame_of}
use Rattle.run.specs.ModelLaws.{frame_large}
use Rattle.run.specs.PlainRun.{start}
use Rattle.run.specs.PlainRunLaws.{start_formed}
use Rattle.run.specs.Calls.{record_of, accepted, AfterBegin, begin_refusal, begin_of}
use Rattle.run.specs.FrameLaws.{length_frames}
use Rattle.run.specs.DemandProof.{begin_some, begin_none, clash}
use Rattle.run.specs.OrderLinesLaws.{Roomy, lendable}

-- the frame of the start fits
pub start_fits : (s : Settings) (room : ℕ) → Roomy s room → length (start s).frames * frame_count s ≤ room
unfolding start
start_fits s room h = go s.skip h
  where
    go : (b : Bool) → (not b && nat_lt room (frame_count s)) ≡ false → length (cond b [] (frame_of s (first_state s) ∷ [])) * frame_count s ≤ room
    go true e = omega arith
    go false e = omega (arith, ltb-false room (frame_count s) e)

pub record Begins (s : Settings) (frames : List Float) (b : AfterBegin) : Type 0 where
  pub long : length b.frames ≡ length frames
  pub settings : (r : Record) (k : ℕ) → b.answer ≡ accepted r k → r.settings ≡ s
  pub fits : (r : Record) (k : ℕ) → b.answer ≡ accepted r k → k * frame_count s ≤ length frames
  pub large : (r : Record) (k : ℕ) → b.answer ≡ accepted r k → 6 ≤ frame_count s

module _ (s : Settings) (memory work frames : List Float) where
  pub begin_leaves : Begins s frames (begin_of s memory work frames)
  begin_leaves = go (begin_refusal s (length memory) (length work) (length frames)) refl
    where
      go : (o : Option ℕ) → begin_refusal s (length memory) (length work) (length frames) ≡ o → Begins s frames (begin_of s memory work frames)
      go (Some n) e =
          subst (Begins s frames) (sym (begin_some s memory work frames n e))
          (record {
            long = refl;
            settings = λ r k q. absurd (clash n r k q);
            fits = λ r k q. absurd (clash n r k q);
            large = λ r k q. absurd (clash n r k q);
          })
      go None e =
          let l = lendable s (length memory) (length work) (length frames) e in
          let f = start_fits s (length frames) l.roomy in
          subst (Begins s frames) (sym (begin_none s memory work frames e))
          (record {
            long = length_frames (start_formed s l.sound).framed frames f;
            settings = λ r k q. let z : record_of s (start s) ≡ r = cc in ap (λ (x : Record). x.settings) (sym z);
            fits = λ r k q. let z : length (start s).frames ≡ k = cc in subst (λ (i : ℕ). i * frame_count s ≤ length frames) z f;
            large = λ r k q. frame_large s l.sound;
          })
