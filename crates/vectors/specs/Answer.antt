-- The refusals of this layer, by the numbers that 01 gives them ("From the input", "From the state").
use Rattle.std.specs.Prelude.{◌≡◌, refl, cond, ℕ, eqb, Result, Ok, Err}
use Rattle.vectors.specs.declared.answer.Refusal.{Refusal}
use Rattle.vectors.specs.declared.answer.Refusal.TheVariants.{Level, Length}

-- 5: a level below 5 or above 16; 11: a memory of the wrong length
abbrev pub refusal_number : Refusal → ℕ
refusal_number Level = 5
refusal_number Length = 11

-- the number of an answer: 0 where nothing is refused
abbrev pub number_of : {A : Type 0} → Result A Refusal → ℕ
number_of (Ok value) = 0
number_of (Err refusal) = refusal_number refusal

module _ {A B : Type 0} where
  -- what memory holds after the call: the result, or, after a refusal, what it held before
  abbrev pub left_by : Result A Refusal → B → B → B
  left_by (Ok value) result before = result
  left_by (Err refusal) result before = before

-- the same by the number
abbrev pub left_at : {A : Type 0} → ℕ → A → A → A
left_at number result before = cond (eqb number 0) result before

pub left_is : {A B : Type 0} (answer : Result A Refusal) (result before : B) → left_by answer result before ≡ left_at (number_of answer) result before
left_is (Ok value) result before = refl
left_is (Err Level) result before = refl
left_is (Err Length) result before = refl
