-- Laws of what the calls answer, by what the slice holds.
use Rattle.std.specs.Prelude.{◌≡◌, ℕ, List, length, drop, Float}
use Rattle.std.proofs.Common.{◌∙◌}
use Rattle.std.proofs.Math.Path.{refl, ap}
use Rattle.std.specs.Prelude.{None, Some, Result}
use Rattle.run.specs.Answers.{reply_of, began_of, after_begin, after_advance}
use Rattle.run.specs.Calls.{begin_of, begin_uses, advance_of, advance_uses}
use Rattle.run.specs.declared.settings.Settings.{Settings}
use Rattle.run.specs.declared.settings.Record.{Record}
use Rattle.run.specs.declared.refusal.Refusal.{Refusal}
use Rattle.run.specs.declared.simulate.Advanced.{Advanced}
use Rattle.run.specs.declared.simulate.Begun.{Begun}
use Rattle.vectors.specs.Memory.{put}
use Rattle.capi.specs.Layout.{settings_in, record_in, laid_out}
use Rattle.capi.specs.declared.layout.LastCall.{LastCall}
use Rattle.capi.specs.declared.told.Told.{Told}
use Rattle.capi.specs.Told.{no_record_number, after_call, no_record, began_number, began_slice, began_call, begin_call, begin_call_uses, told_of, told_slice, advanced_call, advance_call, advance_call_uses}

-- ---- an answer whose case is known
pub begun_is : {a b : Result Begun Refusal} (n : ℕ) (slice after : List Float) → a ≡ b → n ≡ began_number (began_of b) → after ≡ began_slice (began_of b) slice
    → (n ≡ began_number (began_of a)) × (after ≡ began_slice (began_of a) slice)
begun_is n slice after e f g = rw e (f, g)

pub told_laid : (t u : Told) (last : LastCall) (r : Record) (slice after : List Float) → t ≡ u → t.last ≡ Some last
    → after ≡ put 0 (laid_out r last.frames last.attempts last.mass) slice → (t.number ≡ u.number) × (after ≡ told_slice u r slice)
unfolding told_slice
told_laid t u last r slice after e f g = rw (← e, f) (refl, g)

pub told_kept : (t u : Told) (r : Record) (slice : List Float) → t ≡ u → t.last ≡ None → (t.number ≡ u.number) × (slice ≡ told_slice u r slice)
unfolding told_slice
told_kept t u r slice e f = rw (← e, f) (refl, refl)

-- ---- begin
module _ (slice memory work frames : List Float) where
  pub begin_none : settings_in slice ≡ None → after_call no_record_number slice memory frames ≡ begin_call slice memory work frames
  unfolding begin_call no_record
  begin_none e = rw e

  pub begin_told : (s : Settings) (b : Result Begun Refusal) (n : ℕ) (slice' memory' frames' : List Float) → settings_in slice ≡ Some s
      → after_begin b memory' frames' ≡ begin_of s memory work frames → n ≡ began_number (began_of b) → slice' ≡ began_slice (began_of b) slice
      → after_call n slice' memory' frames' ≡ begin_call slice memory work frames
  unfolding begin_call began_call
  begin_told s b n slice' memory' frames' e f g h =
      let shown : after_call n slice' memory' frames' ≡ began_call slice (after_begin b memory' frames') = rw (g, h) in
      shown ∙ ap (began_call slice) f ∙ rw e

  pub begin_uses_lem : (s : Settings) → settings_in slice ≡ Some s
      → begin_uses s (length memory) (length work) (length frames) ≡ begin_call_uses slice (length memory) (length work) (length frames)
  unfolding begin_call_uses
  begin_uses_lem s e = rw e

-- ---- advance
module _ (slice memory work frames : List Float) (budget : ℕ) where
  pub advance_none : record_in slice ≡ None → after_call no_record_number slice memory frames ≡ advance_call slice memory work frames budget
  unfolding advance_call no_record
  advance_none e = rw e

  pub advance_told : (r : Record) (a : Advanced) (n : ℕ) (slice' memory' frames' : List Float) → record_in slice ≡ Some r
      → after_advance a memory' frames' ≡ advance_of r memory work frames budget → n ≡ (told_of (reply_of a.answer)).number
      → slice' ≡ told_slice (told_of (reply_of a.answer)) a.record slice
      → after_call n slice' memory' frames' ≡ advance_call slice memory work frames budget
  unfolding advance_call advanced_call
  advance_told r a n slice' memory' frames' e f g h =
      let shown : after_call n slice' memory' frames' ≡ advanced_call slice (after_advance a memory' frames') = rw (g, h) in
      shown ∙ ap (advanced_call slice) f ∙ rw e

  pub advance_uses_lem : (r : Record) → record_in slice ≡ Some r → advance_uses r memory (length work) budget ≡ advance_call_uses slice memory (length work) budget
  unfolding advance_call_uses
  advance_uses_lem r e = rw e

-- what lies beyond so many numbers stays, by another name of the number
pub kept_beyond : {m n : ℕ} (after before : List Float) → m ≡ n → drop m after ≡ drop m before → drop n after ≡ drop n before
kept_beyond after before e h = rw e at h
