-- Laws of the record's layout: what the code reads and stores, and that what is laid out is read back as the same record.
use Rattle.std.specs.Prelude.{◌≡◌, ℕ, ◌+◌, ◌<◌, ◌≤◌, Bool, true, false, cond, List, [], ◌∷◌, length, ◌≢◌, nat_le, slice_set, refl, Float}
use Rattle.std.specs.Prelude.{Option, None, Some}
use Rattle.std.proofs.Common.{arith, leb-true, le-leb}
use Rattle.std.proofs.lemmas.Bool.{lt-leb}
use Rattle.vectors.specs.Memory.{put}
use Rattle.vectors.specs.MemoryLaws.{length-put}
use Rattle.run.specs.PlainRun.{option}
use Rattle.run.specs.WriteLaws.{Wrote, wrote_one, wrote_both, wrote-length, put-append}
use Rattle.run.specs.declared.settings.Settings.{Settings}
use Rattle.run.specs.declared.settings.Record.{Record}
use Rattle.capi.specs.Numbers.{whole_in, switch_in}
use Rattle.capi.specs.NumbersLaws.{whole_back, switch_back}
use Rattle.capi.specs.Layout.{at, settings_of, record_of, settings_in, record_in, settings_out, progress_out, laid_out}

-- ---- reading
module _ (amplitude level max_time interval dx_level skip : Float) where
  pub settings_no_level : whole_in level ≡ None → None ≡ settings_of amplitude level max_time interval dx_level skip
  unfolding settings_of
  settings_no_level e = rw e

  pub settings_no_dx : {l : ℕ} → whole_in level ≡ Some l → whole_in dx_level ≡ None → None ≡ settings_of amplitude level max_time interval dx_level skip
  unfolding settings_of
  settings_no_dx e f = rw (e, f)

  pub settings_no_skip : {l d : ℕ} → whole_in level ≡ Some l → whole_in dx_level ≡ Some d → switch_in skip ≡ None → None ≡ settings_of amplitude level max_time interval dx_level skip
  unfolding settings_of
  settings_no_skip e f g = rw (e, f, g)

  pub settings_are : {l d : ℕ} {s : Bool} → whole_in level ≡ Some l → whole_in dx_level ≡ Some d → switch_in skip ≡ Some s
      → Some (record { amplitude = amplitude; level = l; max_time = max_time; interval = interval; dx_level = d; skip = s }) ≡ settings_of amplitude level max_time interval dx_level skip
  unfolding settings_of
  settings_are e f g = rw (e, f, g)

module _ (settings : Settings) (time steps broken : Float) where
  pub record_no_steps : whole_in steps ≡ None → None ≡ record_of settings time steps broken
  unfolding record_of
  record_no_steps e = rw e

  pub record_no_mark : {n : ℕ} → whole_in steps ≡ Some n → switch_in broken ≡ None → None ≡ record_of settings time steps broken
  unfolding record_of
  record_no_mark e f = rw (e, f)

  pub record_is : {n : ℕ} {b : Bool} → whole_in steps ≡ Some n → switch_in broken ≡ Some b
      → Some (record { settings = settings; time = time; steps = n; broken = b }) ≡ record_of settings time steps broken
  unfolding record_of
  record_is e f = rw (e, f)

pub settings_short : (slice : List Float) → length slice < 12 → None ≡ settings_in slice
unfolding settings_in
settings_short slice h = rw (lt-leb 12 (length slice) h)

pub settings_held : (slice : List Float) → 12 ≤ length slice
    → settings_of (at slice 0) (at slice 1) (at slice 2) (at slice 3) (at slice 4) (at slice 5) ≡ settings_in slice
unfolding settings_in
settings_held slice h = rw (le-leb 12 (length slice) h)

never : {A : Type 0} {a : A} → None ≢ Some a
never e = let z : ◌≡◌ {A = ℕ} 0 1 = cc in omega arith

pub settings_long : (slice : List Float) (s : Settings) → settings_in slice ≡ Some s → 12 ≤ length slice
unfolding settings_in
settings_long slice s e = go (nat_le 12 (length slice)) (leb-true 12 (length slice)) e
  where
    go : (b : Bool) → (b ≡ true → 12 ≤ length slice)
        → cond b (settings_of (at slice 0) (at slice 1) (at slice 2) (at slice 3) (at slice 4) (at slice 5)) None ≡ Some s → 12 ≤ length slice
    go true h e = h refl
    go false h e = absurd (never e)

pub record_none : (slice : List Float) → settings_in slice ≡ None → None ≡ record_in slice
unfolding record_in
record_none slice e = rw e

pub record_held : (slice : List Float) (s : Settings) → settings_in slice ≡ Some s
    → record_of s (at slice 6) (at slice 7) (at slice 8) ≡ record_in slice
unfolding record_in
record_held slice s e = rw e

pub record_long : (slice : List Float) (r : Record) → record_in slice ≡ Some r → 12 ≤ length slice
unfolding record_in
record_long slice r e = go (settings_in slice) (settings_long slice) e
  where
    go : (o : Option Settings) → ((s : Settings) → o ≡ Some s → 12 ≤ length slice)
        → option o (λ s. record_of s (at slice 6) (at slice 7) (at slice 8)) None ≡ Some r → 12 ≤ length slice
    go None h e = absurd (never e)
    go (Some s) h e = h s refl

-- ---- storing
-- four stores, one behind the other, and six
module _ (k : ℕ) (a b c d : Float) (xs : List Float) where
  abbrev after_four : List Float
  after_four = slice_set (slice_set (slice_set (slice_set xs k a) (k + 1) b) (k + 2) c) (k + 3) d

  four_wrote : k + 4 ≤ length xs → Wrote k (a ∷ b ∷ c ∷ d ∷ []) xs after_four
  four_wrote h =
      let w1 = wrote_one k a xs (omega arith) in
      let w2 = wrote_both w1 (wrote_one (k + 1) b _ (omega (arith, wrote-length w1))) refl refl in
      let w3 = wrote_both w2 (wrote_one (k + 2) c _ (omega (arith, wrote-length w2))) refl refl in
      wrote_both w3 (wrote_one (k + 3) d _ (omega (arith, wrote-length w3))) refl refl

  pub four_stores : k + 4 ≤ length xs → after_four ≡ put k (a ∷ b ∷ c ∷ d ∷ []) xs
  four_stores h = (four_wrote h).is

pub six_stores : (k : ℕ) (a b c d e f : Float) (xs : List Float) → k + 6 ≤ length xs
    → slice_set (slice_set (slice_set (slice_set (slice_set (slice_set xs k a) (k + 1) b) (k + 2) c) (k + 3) d) (k + 4) e) (k + 5) f ≡ put k (a ∷ b ∷ c ∷ d ∷ e ∷ f ∷ []) xs
six_stores k a b c d e f xs h =
    let w4 = four_wrote k a b c d xs (omega arith) in
    let w5 = wrote_both w4 (wrote_one (k + 4) e _ (omega (arith, wrote-length w4))) refl refl in
    let w6 = wrote_both w5 (wrote_one (k + 5) f _ (omega (arith, wrote-length w5))) refl refl in
    w6.is

pub settings_kept : (s : Settings) (xs : List Float) → 12 ≤ length xs → length (put 0 (settings_out s) xs) ≡ length xs
unfolding settings_out
settings_kept s xs h = length-put 0 (settings_out s) xs (omega arith)

pub progress_kept : (r : Record) (frames attempts : ℕ) (mass : Float) (xs : List Float) → 12 ≤ length xs → length (put 6 (progress_out r frames attempts mass) xs) ≡ length xs
unfolding progress_out
progress_kept r frames attempts mass xs h = length-put 6 (progress_out r frames attempts mass) xs (omega arith)

pub laid_kept : (r : Record) (frames attempts : ℕ) (mass : Float) (xs : List Float) → 12 ≤ length xs → length (put 0 (laid_out r frames attempts mass) xs) ≡ length xs
unfolding laid_out settings_out progress_out
laid_kept r frames attempts mass xs h = length-put 0 (laid_out r frames attempts mass) xs (omega arith)

-- the rest of the record behind its settings
pub laid_both : (r : Record) (frames attempts : ℕ) (mass : Float) (xs : List Float) → 12 ≤ length xs
    → put 6 (progress_out r frames attempts mass) (put 0 (settings_out r.settings) xs) ≡ put 0 (laid_out r frames attempts mass) xs
unfolding laid_out settings_out progress_out
laid_both r frames attempts mass xs h = put-append 0 (settings_out r.settings) (progress_out r frames attempts mass) xs (omega arith)

-- ---- reading back
-- the whole numbers of a record fit 32 bits
pub record Fits (r : Record) : Type 0 where
  pub level : r.settings.level < 4294967296
  pub dx : r.settings.dx_level < 4294967296
  pub steps : r.steps < 4294967296

pub read_back : (r : Record) (frames attempts : ℕ) (mass : Float) (slice : List Float) → Fits r → 12 ≤ length slice
    → record_in (put 0 (laid_out r frames attempts mass) slice) ≡ Some r
unfolding record_in settings_in settings_of record_of laid_out settings_out progress_out put
read_back r frames attempts mass slice fit h =
    let s = r.settings in
    rw (
      le-leb 12 (length (put 0 (laid_out r frames attempts mass) slice)) (omega (arith, laid_kept r frames attempts mass slice h)),
      whole_back s.level fit.level,
      whole_back s.dx_level fit.dx,
      switch_back s.skip,
      whole_back r.steps fit.steps,
      switch_back r.broken,
    )
