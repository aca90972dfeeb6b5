-- Where the commands of an accepted order stand: the settings before byte 33, none over another, 07 there, an 08 every five bytes, 09 last.
use Prim.Native.Nat.{ℕ, zero, suc, ◌+◌, ◌*◌, ◌≤◌, ◌<◌}
use Rattle.std.specs.Prelude.{Bool, true, false, ◌⊎◌, ◌≢◌, List, ◌≡◌, ltb, eqb, length}
use Rattle.std.proofs.Math.Bool.{cond}
use Rattle.std.proofs.Common.{true≢false, sym, ◌∙◌}
use Rattle.std.proofs.Math.Logic.{inl, inr}
use Rattle.std.proofs.Math.Path.{refl, ap}
use native.Mathlib.Omega.{arith}
use borrow.Author.Tests.{ltb-true, ltb-false, lt-ltb, le-ltb, eqb-true, eqb-false}
use Rattle.vectors.specs.MemoryLaws.{side}
use Rattle.run.specs.Bytes.{byte_at}
use Rattle.run.specs.Order.{operand_size, command_at, next_at, places, no_places, noted, begun, complete, command_fault, settings_at, read_order}
use Rattle.run.specs.OrderLaws.{both, tells, setting_early, setting_once, begin_once, begun_before, begun_advances}
use Rattle.run.specs.OrderLaws.{Keeps, accepted_ends, AllCame, complete_all, read_settings, Ends, Advances, advances_kept, advances_first}
use Rattle.run.specs.declared.settings.Settings.{Settings}
use Rattle.run.specs.Order.{Command, Amplitude, Level, MaxTime, Interval, DxLevel, Skip, Begin, Advance, End, Wrong, Order}
use Rattle.run.specs.declared.order.Places.{Places}
use Rattle.claims.specs.OrderFaults.{kind}
use Rattle.claims.specs.ReadySettingsLaws.{none_yet}
use Rattle.claims.specs.SettingPlacesLaws.{place_of, own_place, other_place, begun_setting, setting_fault_lem}
use Rattle.order_forms.specs.Spelling.{ascending}
use Rattle.order_forms.specs.CommandShape.{placed}

-- how many bytes the operand of a setting has, by its kind
abbrev pub size_of : ℕ → ℕ
size_of k = operand_size (suc k)

-- how many bytes the settings of the first n kinds have, with their command bytes: of those that came, and of all
taken_by : ℕ → Places → ℕ
taken_by zero p = 0
taken_by (suc k) p = taken_by k p + cond (ltb 0 (place_of p k)) (suc (size_of k)) 0

sizes : ℕ → ℕ
sizes zero = 0
sizes (suc k) = sizes k + suc (size_of k)

all_taken : (n : ℕ) (p : Places) → ((k : ℕ) → k < n → 0 < place_of p k) → taken_by n p ≡ sizes n
unfolding taken_by sizes
all_taken zero p h = refl
all_taken (suc k) p h =
    rw (lt-ltb 0 (place_of p k) (h k (omega arith))) (ap (λ (m : ℕ). m + suc (size_of k)) (all_taken k p (λ j l. h j (omega arith))))

-- before 07 nothing stands but settings, none over another; 07 stands at 33
record Packed (s : List ℕ) (p : Places) (at : ℕ) : Type 0 where
  idle : begun p ≡ false → at ≡ taken_by 6 p
  inside : (k : ℕ) → 0 < place_of p k → place_of p k + size_of k ≤ at
  apart : (j k : ℕ) → 0 < place_of p j → place_of p j < place_of p k → place_of p j + size_of j + 1 ≤ place_of p k
  begins : begun p ≡ true → p.advances ≡ 34
  settled : begun p ≡ true → (k : ℕ) → 0 < place_of p k → place_of p k + size_of k ≤ 33
  seven : begun p ≡ true → byte_at s 33 ≡ 7

-- ---- a setting
module _ (s : List ℕ) (p : Places) (at : ℕ) (c : Command) (l : at < length s) (r : Packed s p at)
    (e : command_at s at ≡ c) (f : command_fault p c ≡ 0) (h : kind c < 6) where
  abbrev q : Places
  q = noted p c (at + 1)

  early : begun q ≡ false
  early = begun_setting p c (at + 1) h ∙ setting_early p (place_of p (kind c)) (sym (setting_fault_lem p c h) ∙ f)

  never : {A : Type 0} → begun q ≡ true → A
  never b = absurd (true≢false (sym b ∙ early))

  next : next_at s at ≡ at + 1 + size_of (kind c)
  next = (placed s at c e (omega arith)).next

  -- a place is the new one or an earlier one
  which : (k : ℕ) → ((k ≡ kind c) × (place_of q k ≡ at + 1)) ⊎ ((k ≢ kind c) × (place_of q k ≡ place_of p k))
  which k = go (eqb k (kind c)) refl
    where
      go : (b : Bool) → eqb k (kind c) ≡ b → ((k ≡ kind c) × (place_of q k ≡ at + 1)) ⊎ ((k ≢ kind c) × (place_of q k ≡ place_of p k))
      go true b = let same = eqb-true k (kind c) b in inl (same, ap (place_of q) same ∙ own_place p c (at + 1) h)
      go false b = let other = eqb-false k (kind c) b in inr (other, other_place p c (at + 1) k h other)

  -- no earlier place is behind the new one
  earlier : (k : ℕ) → place_of p k ≤ at
  earlier k = go (ltb 0 (place_of p k)) refl
    where
      go : (b : Bool) → ltb 0 (place_of p k) ≡ b → place_of p k ≤ at
      go true b = omega (arith, r.inside k (ltb-true 0 (place_of p k) b))
      go false b = omega (arith, ltb-false 0 (place_of p k) b)

  taken_before : (n : ℕ) → n ≤ kind c → taken_by n q ≡ taken_by n p
  unfolding taken_by
  taken_before zero g = refl
  taken_before (suc k) g = elim (which k) [
    | inl w ↦ absurd (omega (arith, w.0))
    | inr w ↦ λ i. taken_before k (omega arith) i + cond (ltb 0 (w.1 i)) (suc (size_of k)) 0
  ]

  taken_now : (n : ℕ) → kind c < n → taken_by n q ≡ taken_by n p + suc (size_of (kind c))
  unfolding taken_by
  taken_now zero g = absurd (omega arith)
  taken_now (suc k) g = elim (which k) [
    | inl w ↦
        let once = setting_once p (place_of p (kind c)) (sym (setting_fault_lem p c h) ∙ f) in
        let none : place_of p k ≡ 0 = ap (place_of p) w.0 ∙ once in
        let size : size_of k ≡ size_of (kind c) = ap size_of w.0 in
        rw (lt-ltb 0 (place_of q k) (omega (arith, w.1)), le-ltb 0 (place_of p k) (omega arith))
        (omega (arith, taken_before k (omega (arith, w.0))))
    | inr w ↦
        let later : taken_by k q ≡ taken_by k p + suc (size_of (kind c)) = taken_now k (below k g w.0) in
        ap (λ (j : ℕ). taken_by k q + cond (ltb 0 j) (suc (size_of k)) 0) w.1 ∙ omega arith
  ]
    where
      below : (j : ℕ) → kind c < suc j → j ≢ kind c → kind c < j
      below j m n = elim (side (kind c) j) [
        | inl b ↦ b
        | inr b ↦ absurd (n (omega arith))
      ]

  inside_now : (k : ℕ) → 0 < place_of q k → place_of q k + size_of k ≤ next_at s at
  inside_now k g = elim (which k) [
    | inl w ↦ let size : size_of k ≡ size_of (kind c) = ap size_of w.0 in omega (arith, w.1, next)
    | inr w ↦ omega (arith, w.1, next, r.inside k (omega (arith, w.1)))
  ]

  apart_now : (j k : ℕ) → 0 < place_of q j → place_of q j < place_of q k → place_of q j + size_of j + 1 ≤ place_of q k
  apart_now j k g b = elim (which j) [
    | inl w ↦ elim (which k) [
      | inl v ↦ absurd (omega (arith, w.1, v.1))
      | inr v ↦ absurd (omega (arith, w.1, v.1, earlier k))
    ]
    | inr w ↦ elim (which k) [
      | inl v ↦ omega (arith, w.1, v.1, r.inside j (omega (arith, w.1)))
      | inr v ↦ omega (arith, w.1, v.1, r.apart j k (omega (arith, w.1)) (omega (arith, w.1, v.1)))
    ]
  ]

  packed_setting : Packed s q (next_at s at)
  packed_setting =
      record {
        idle = λ z. omega (arith, next, taken_now 6 h, r.idle (setting_early p (place_of p (kind c)) (sym (setting_fault_lem p c h) ∙ f)));
        inside = inside_now;
        apart = apart_now;
        begins = λ z. never z;
        settled = λ z. never z;
        seven = λ z. never z;
      }

-- ---- 07
all_came : (p : Places) → AllCame p → (k : ℕ) → k < 6 → 0 < place_of p k
unfolding place_of
all_came p c zero h = c.amplitude
all_came p c (suc zero) h = c.level
all_came p c (suc (suc zero)) h = c.max_time
all_came p c (suc (suc (suc zero))) h = c.interval
all_came p c (suc (suc (suc (suc zero)))) h = c.dx_level
all_came p c (suc (suc (suc (suc (suc zero))))) h = c.skip
all_came p c (suc (suc (suc (suc (suc (suc k)))))) h = absurd (omega arith)

packed_begin : (s : List ℕ) (p : Places) (at : ℕ) → Packed s p at → command_at s at ≡ Begin → (begun p ≡ false) × (complete p ≡ true)
    → Packed s (noted p Begin (at + 1)) (next_at s at)
unfolding noted begun kind sizes operand_size place_of
packed_begin s p at r e none =
    let w = placed s at Begin e (omega arith) in
    let here : at ≡ 33 = r.idle none.0 ∙ all_taken 6 p (all_came p (complete_all p none.1)) in
    let next : next_at s at ≡ at + 1 + 0 = w.next in
    record {
      idle = λ z. absurd (true≢false (sym (lt-ltb 0 (at + 1) (omega arith)) ∙ z));
      inside = λ k h. omega (arith, r.inside k h);
      apart = r.apart;
      begins = λ z. omega arith;
      settled = λ z k h. omega (arith, r.inside k h);
      seven = λ z. ap (byte_at s) (sym here) ∙ w.code;
    }

-- ---- every command
packed_kept : (s : List ℕ) → Keeps s (Packed s)
unfolding noted command_fault begun kind place_of
packed_kept s p at (Amplitude x) l r e f d = packed_setting s p at (Amplitude x) l r e f (omega arith)
packed_kept s p at (Level x) l r e f d = packed_setting s p at (Level x) l r e f (omega arith)
packed_kept s p at (MaxTime x) l r e f d = packed_setting s p at (MaxTime x) l r e f (omega arith)
packed_kept s p at (Interval x) l r e f d = packed_setting s p at (Interval x) l r e f (omega arith)
packed_kept s p at (DxLevel x) l r e f d = packed_setting s p at (DxLevel x) l r e f (omega arith)
packed_kept s p at (Skip x) l r e f d = packed_setting s p at (Skip x) l r e f (omega arith)
packed_kept s p at Begin l r e f d = packed_begin s p at r e (begin_once p f)
packed_kept s p at (Advance n) l r e f d =
    let b = begun_before p 2 f in
    let t = (placed s at (Advance n) e (omega arith)).next in
    record {
      idle = λ z. absurd (true≢false (sym b ∙ z));
      inside = λ k h. omega (arith, r.inside k h);
      apart = r.apart;
      begins = r.begins;
      settled = r.settled;
      seven = r.seven;
    }
packed_kept s p at End l r e f d = absurd (eqb-false (byte_at s at) 9 d (tells s at e))
packed_kept s p at (Wrong n) l r e f d = let t = tells s at e in absurd (omega arith)

packed_first : (s : List ℕ) → Packed s no_places 0
unfolding taken_by begun
packed_first s =
    record {
      idle = λ z. taken_none 6;
      inside = λ k h. absurd (omega (arith, none_yet k));
      apart = λ j k h b. absurd (omega (arith, none_yet j));
      begins = λ z. absurd (true≢false (sym z));
      settled = λ z. absurd (true≢false (sym z));
      seven = λ z. absurd (true≢false (sym z));
    }
  where
    taken_none : (n : ℕ) → 0 ≡ taken_by n no_places
    taken_none zero = refl
    taken_none (suc k) = rw (none_yet k) (omega (arith, taken_none k))

-- ---- an accepted order
module _ (s : List ℕ) (set : Settings) (p : Places) (read : read_order s ≡ Order set p) where
  packs : Ends s (Packed s) set p
  packs = accepted_ends s (Packed s) (packed_kept s) (packed_first s) set p read

  calls : Ends s (Advances s) set p
  calls = accepted_ends s (Advances s) (advances_kept s) (advances_first s) set p read

  -- 07 stands at 33
  pub begins_at : p.advances ≡ 34
  begins_at = packs.kept.begins packs.started

  pub begin_byte : byte_at s 33 ≡ 7
  begin_byte = packs.kept.seven packs.started

  nine_at : calls.at ≡ 34 + 5 * p.count
  nine_at = omega (arith, calls.kept.here (begun_advances p calls.started), begins_at)

  pub order_length : length s ≡ 35 + 5 * p.count
  order_length = omega (arith, calls.last, nine_at)

  pub end_byte : byte_at s (34 + 5 * p.count) ≡ 9
  end_byte = ap (byte_at s) (sym nine_at) ∙ tells s calls.at calls.end

  -- the settings are the operands at the places
  pub settings_are : set ≡ settings_at s p
  settings_are = calls.settings

  pub came : (k : ℕ) → k < 6 → 0 < place_of p k
  came =
      let o = read_settings s set p read in
      all_came p
      (record {
        amplitude = o.amplitude.after;
        level = o.level.after;
        max_time = o.max_time.after;
        interval = o.interval.after;
        dx_level = o.dx_level.after;
        skip = o.skip.after;
      })

  -- each operand stands before 07
  pub operand_inside : (k : ℕ) → k < 6 → place_of p k + size_of k ≤ 33
  operand_inside k h = packs.kept.settled packs.started k (came k h)

  -- settings that stand as 01 to 06 stand at known places
  pub ascending_places : ascending p ≡ true → p ≡ places 1 10 12 21 30 32 34 p.count
  unfolding ascending place_of operand_size
  ascending_places e =
      let first = came 0 (omega arith) in
      let second = came 1 (omega arith) in
      let third = came 2 (omega arith) in
      let fourth = came 3 (omega arith) in
      let fifth = came 4 (omega arith) in
      let last = operand_inside 5 (omega arith) in
      let apart = packs.kept.apart in
      let five = both _ _ e in
      let four = both _ _ five.0 in
      let ab = both _ _ four.0 in
      let cd = both _ _ four.1 in
      let a = apart 0 1 first (ltb-true p.amplitude p.level ab.0) in
      let b = apart 1 2 second (ltb-true p.level p.max_time ab.1) in
      let c = apart 2 3 third (ltb-true p.max_time p.interval cd.0) in
      let d = apart 3 4 fourth (ltb-true p.interval p.dx_level cd.1) in
      let f = apart 4 5 fifth (ltb-true p.dx_level p.skip five.1) in
      let n : p.amplitude ≡ 1 = omega arith in
      let l : p.level ≡ 10 = omega arith in
      let m : p.max_time ≡ 12 = omega arith in
      let i : p.interval ≡ 21 = omega arith in
      let x : p.dx_level ≡ 30 = omega arith in
      let k : p.skip ≡ 32 = omega arith in
      λ t. places (n t) (l t) (m t) (i t) (x t) (k t) (begins_at t) p.count
