-- What an answer says of the level and the lengths.
use Rattle.std.specs.Prelude.{◌≡◌, refl, Bool, true, false, cond, ℕ, ◌≤◌, ◌<◌, List, [], ◌∷◌, length, slice_index_or, Result, Ok}
use Rattle.std.proofs.Common.{sym, ap, ◌∙◌, arith, eqb-true}
pub use Rattle.std.proofs.lemmas.Bool.{and_parts as and_true}
use Rattle.std.proofs.lemmas.List.Sums.{AllPass-from_list_all}
use Rattle.vectors.specs.declared.answer.Refusal.{Refusal}
use Rattle.vectors.specs.Answer.{number_of, left_by, left_at, left_is}
use Rattle.vectors.specs.Grid.{level_in_range, points_of}
use Rattle.vectors.specs.GridLaws.{Level, level_of, in_range_lem, points_least}
use Rattle.vectors.specs.Fault.{fault_of, all_fit, both_fit}

pub fault_level : (level : ℕ) (fits : Bool) → level_in_range level ≡ false → 5 ≡ fault_of level fits
unfolding fault_of
fault_level level fits e = ap (λ b. cond b (cond fits 0 11) 5) (sym e)

pub fault_length : (level : ℕ) (fits : Bool) → Level level → fits ≡ false → 11 ≡ fault_of level fits
unfolding fault_of
fault_length level fits l e = rw (in_range_lem l, e)

pub fault_none : (level : ℕ) (fits : Bool) → Level level → fits ≡ true → 0 ≡ fault_of level fits
unfolding fault_of
fault_none level fits l e = rw (in_range_lem l, e)

-- a call that is not refused
pub record Accepted (level : ℕ) (fits : Bool) : Type 0 where
  pub ranged : Level level
  pub fitting : fits ≡ true

pub accepted : (level : ℕ) (fits : Bool) → 0 ≡ fault_of level fits → Accepted level fits
unfolding fault_of
accepted level fits e = go (level_in_range level) fits refl refl e
  where
    go : (a b : Bool) → level_in_range level ≡ a → fits ≡ b → ◌≡◌ {A = ℕ} 0 (cond a (cond b 0 11) 5) → Accepted level fits
    go true true p q e = record { ranged = level_of level p; fitting = q }
    go true false p q e = absurd (omega arith)
    go false b p q e = absurd (omega arith)

-- the number of an answer, where a `match` tells its case
pub told_number : {A : Type 0} {answer case : Result A Refusal} {number : ℕ} → answer ≡ case → number_of answer ≡ number → number_of case ≡ number
told_number told e = sym (ap number_of told) ∙ e

-- what a call leaves that nothing refuses
pub left_accepted : {A B : Type 0} (level : ℕ) (fits : Bool) (answer : Result A Refusal) (result before : B) → Level level → fits ≡ true
    → number_of answer ≡ fault_of level fits → left_by answer result before ≡ result
left_accepted level fits answer result before l f e =
    left_is answer result before ∙ ap (λ (number : ℕ). left_at number result before) (e ∙ sym (fault_none level fits l f))

-- two memories of one number for each point
pub record BothFit (level a b : ℕ) : Type 0 where
  pub one : a ≡ points_of level
  pub other : b ≡ points_of level

-- a level of the grid, and memories with a number for each point
pub record Lent (level : ℕ) (lengths : List ℕ) : Type 0 where
  pub ranged : Level level
  pub many : 33 ≤ points_of level
  pub each : (k : ℕ) → k < length lengths → slice_index_or lengths k 0 ≡ points_of level

-- what an accepted call was lent
pub lent_lem : (level : ℕ) (lengths : List ℕ) → 0 ≡ fault_of level (all_fit level lengths) → Lent level lengths
unfolding all_fit
lent_lem level lengths e =
    let call = accepted level _ e in
    record {
      ranged = call.ranged;
      many = points_least call.ranged;
      each = λ k h. eqb-true _ _ (AllPass-from_list_all _ lengths call.fitting k 0 h);
    }

-- the same of two memories, and of three, where a `match` tells that the call was accepted
module _ {A : Type 0} (level a b : ℕ) {answer : Result A Refusal} {value : A} (told : answer ≡ Ok value) where
  pub both_fit_lem : number_of answer ≡ fault_of level (both_fit level a b) → Level level × BothFit level a b
  both_fit_lem e =
      let lent = lent_lem level (a ∷ b ∷ []) (told_number told e) in
      (lent.ranged, record { one = lent.each 0 (omega arith); other = lent.each 1 (omega arith) })

  pub all_fit_lem : (c : ℕ) → number_of answer ≡ fault_of level (all_fit level (a ∷ b ∷ c ∷ [])) → Level level × BothFit level a b × (c ≡ points_of level)
  all_fit_lem c e =
      let lent = lent_lem level (a ∷ b ∷ c ∷ []) (told_number told e) in
      (lent.ranged, record { one = lent.each 0 (omega arith); other = lent.each 1 (omega arith) }, lent.each 2 (omega arith))
