-- Laws of the sums of rows: by the numbers that they are taken over, and at the sizes of the rows.
use Rattle.std.specs.Prelude.{◌≡◌, refl, List, [], ◌∷◌, ℕ, zero, suc, ◌+◌, ◌-◌, ◌/◌, ◌≤◌, ◌<◌, ◌++◌, ℤ, length, get_or, take, drop, map, reverse, Float}
use Rattle.std.proofs.Common.{sym, ap, arith, ◌∙◌, inl, inr, length-take, length-drop, ext_get_or}
use Rattle.std.proofs.Math.Nat.{add-zero}
use Rattle.std.proofs.Math.ListN.{get_or-eq_default}
use borrow.Author.Tests.{le-leb, lt-leb}
use Rattle.std.specs.List.{zip, fold}
use Rattle.std.proofs.lemmas.List.{take_all, map-append}
use Rattle.std.proofs.lemmas.List.Sums.{fold-append}
use Rattle.std.proofs.lemmas.Slice.Zip.{length-zip}
use Rattle.std.specs.Float.{nan, inf, fin, binary64}
use Rattle.std.specs.Float.Ieee.{add, mul}
use Rattle.vectors.specs.Memory.{part, tab, tab_from}
use Rattle.vectors.specs.MemoryLaws.{side, length_part, get_d_part, length_tab, get_d_tab}
use Rattle.vectors.specs.RowSums.{times, numbers, row_sum, hollow_sum, halves, descending_sum, sum4, sum5, sum5hollow, sum6, sum6descending, sum7hollow}
use Rattle.vectors.specs.Stencil.{total}

-- ---- the numbers, where they stand inside the list and where they do not
module _ (k n : ℕ) (xs : List Float) where
  pub numbers_inside : k + n ≤ length xs → numbers k n xs ≡ take (k + n - k) (drop k xs)
  unfolding numbers part
  numbers_inside h = let e : k + n - k ≡ n = omega arith in rw (le-leb (k + n) (length xs) h, e)

  pub numbers_outside : length xs < k + n → numbers k n xs ≡ []
  unfolding numbers
  numbers_outside h = rw (lt-leb (k + n) (length xs) h)

  numbers_tab : k + n ≤ length xs → numbers k n xs ≡ tab n (λ j. get_or xs (k + j) nan)
  unfolding numbers
  numbers_tab h =
      let g : ℕ → Float = λ j. get_or xs (k + j) nan in
      let l = length_part k n xs h in
      rw (le-leb (k + n) (length xs) h)
      (ext_get_or nan (part k n xs) (tab n g) (l ∙ sym (length_tab n g))
      (λ i b. let c : i < n = omega (arith, l) in get_d_part k n xs i nan c ∙ sym (get_d_tab n g i nan c)))

  -- what is taken over the numbers, if it is NaN over none
  over_numbers : (f : List Float → Float) (r : Float) → f [] ≡ nan → f (tab n (λ j. get_or xs (k + j) nan)) ≡ r → (length xs < k + n → nan ≡ r) → f (numbers k n xs) ≡ r
  over_numbers f r none e past = elim (side (length xs) (k + n)) [
    | inl h ↦ ap f (numbers_outside h) ∙ none ∙ past h
    | inr h ↦ ap f (numbers_tab h) ∙ e
  ]

-- ---- lists side by side
pub zip_none : {A B : Type 0} (xs : List A) → zip {X = B} xs [] ≡ []
zip_none [] = refl
zip_none (x ∷ xs) = refl

pub zip_take : {A B : Type 0} (n : ℕ) (xs : List A) (ys : List B) → zip (take n xs) (take n ys) ≡ take n (zip xs ys)
zip_take zero xs ys = refl
zip_take (suc n) [] ys = refl
zip_take (suc n) (x ∷ xs) [] = refl
zip_take (suc n) (x ∷ xs) (y ∷ ys) = ap (λ zs. (x, y) ∷ zs) (zip_take n xs ys)

pub zip_drop : {A B : Type 0} (n : ℕ) (xs : List A) (ys : List B) → zip (drop n xs) (drop n ys) ≡ drop n (zip xs ys)
zip_drop zero xs ys = refl
zip_drop (suc n) [] ys = refl
zip_drop (suc n) (x ∷ xs) [] = zip_none (drop n xs)
zip_drop (suc n) (x ∷ xs) (y ∷ ys) = zip_drop n xs ys

rest : {A : Type 0} (n : ℕ) (xs : List A) → take (length xs - n) (drop n xs) ≡ drop n xs
rest n xs = take_all (length xs - n) (drop n xs) (rw length-drop (omega arith))

-- the halves of two lists side by side
halves_zip : {A B : Type 0} (n : ℕ) (xs : List A) (ys : List B) → length xs ≡ n → length ys ≡ n
    → zip (take (n / 2) xs) (take (n / 2) ys) ++ zip (take (length xs - (n - n / 2)) (drop (n - n / 2) xs)) (take (length ys - (n - n / 2)) (drop (n - n / 2) ys)) ≡ halves (zip xs ys)
halves_zip n xs ys e f =
    let l : length (zip xs ys) ≡ n = length-zip xs ys ∙ omega arith in
    rw (rest (n - n / 2) xs, rest (n - n / 2) ys, zip_take (n / 2) xs ys, zip_drop (n - n / 2) xs ys, l)

-- a sum that goes on over more pairs
total_more : (ps qs : List (ℤ × Float)) → (length ps ≡ 0 → length qs ≡ 0) → fold (add binary64) (total (map times ps)) (map times qs) ≡ total (map times (ps ++ qs))
unfolding total
total_more [] [] h = refl
total_more [] (q ∷ qs) h = absurd (omega (arith, h refl))
total_more (p ∷ ps) qs h = sym (ap (fold (add binary64) (times p)) (map-append times ps qs) ∙ fold-append (add binary64) (times p) (map times ps) (map times qs))

pub halves_total : (n : ℕ) (ws : List ℤ) (xs : List Float) → length ws ≡ n → length xs ≡ n
    → fold (add binary64) (total (map times (zip (take (n / 2) ws) (take (n / 2) xs)))) (map times (zip (take (length ws - (n - n / 2)) (drop (n - n / 2) ws)) (take (length xs - (n - n / 2)) (drop (n - n / 2) xs))))
    ≡ total (map times (halves (zip ws xs)))
halves_total n ws xs e f =
    let k = n - n / 2 in
    total_more (zip (take (n / 2) ws) (take (n / 2) xs)) (zip (take (length ws - k) (drop k ws)) (take (length xs - k) (drop k xs)))
    (λ h. let z = simp (length-zip, length-take) at h in simp (length-zip, length-take, length-drop) (omega arith))
    ∙ ap (λ ps. total (map times ps)) (halves_zip n ws xs e f)

-- ---- the sums at the sizes of the rows

-- past the end of the list
add_nan : (x : Float) → add binary64 x nan ≡ nan
unfolding add
add_nan nan = refl
add_nan (inf s) = refl
add_nan (fin s m e) = refl

nan_add : (x : Float) → add binary64 nan x ≡ nan
unfolding add
nan_add x = refl

mul_nan : (x : Float) → mul binary64 x nan ≡ nan
unfolding mul
mul_nan nan = refl
mul_nan (inf s) = refl
mul_nan (fin s m e) = refl

module _ (ws : List ℤ) (xs : List Float) (k : ℕ) where
  pub sum4_past : length xs < k + 4 → nan ≡ sum4 ws xs k
  sum4_past h = sym (simp (get_or-eq_default xs nan {n = k + 3} (omega arith), mul_nan, add_nan))

  pub sum5_past : length xs < k + 5 → nan ≡ sum5 ws xs k
  sum5_past h = sym (simp (get_or-eq_default xs nan {n = k + 4} (omega arith), mul_nan, add_nan))

  pub sum5hollow_past : length xs < k + 5 → nan ≡ sum5hollow ws xs k
  sum5hollow_past h = sym (simp (get_or-eq_default xs nan {n = k + 4} (omega arith), mul_nan, add_nan))

  pub sum6_past : length xs < k + 6 → nan ≡ sum6 ws xs k
  sum6_past h = sym (simp (get_or-eq_default xs nan {n = k + 5} (omega arith), mul_nan, add_nan))

  pub sum6descending_past : length xs < k + 6 → nan ≡ sum6descending ws xs k
  sum6descending_past h = sym (simp (get_or-eq_default xs nan {n = k + 5} (omega arith), mul_nan, nan_add))

  pub sum7hollow_past : length xs < k + 7 → nan ≡ sum7hollow ws xs k
  sum7hollow_past h = sym (simp (get_or-eq_default xs nan {n = k + 6} (omega arith), mul_nan, add_nan))

module _ (a b c d : ℤ) (xs : List Float) (k : ℕ) where
  pub sum4_is : row_sum (a ∷ b ∷ c ∷ d ∷ []) xs k ≡ sum4 (a ∷ b ∷ c ∷ d ∷ []) xs k
  unfolding row_sum total tab tab_from
  sum4_is = let ws = a ∷ b ∷ c ∷ d ∷ [] in over_numbers k 4 xs (λ ns. total (map times (zip ws ns))) (sum4 ws xs k) refl (simp add-zero) (sum4_past ws xs k)

module _ (a b c d e : ℤ) (xs : List Float) (k : ℕ) where
  pub sum5_is : row_sum (a ∷ b ∷ c ∷ d ∷ e ∷ []) xs k ≡ sum5 (a ∷ b ∷ c ∷ d ∷ e ∷ []) xs k
  unfolding row_sum total tab tab_from
  sum5_is = let ws = a ∷ b ∷ c ∷ d ∷ e ∷ [] in over_numbers k 5 xs (λ ns. total (map times (zip ws ns))) (sum5 ws xs k) refl (simp add-zero) (sum5_past ws xs k)

  pub sum5hollow_is : hollow_sum (a ∷ b ∷ c ∷ d ∷ e ∷ []) xs k ≡ sum5hollow (a ∷ b ∷ c ∷ d ∷ e ∷ []) xs k
  unfolding hollow_sum total tab tab_from
  sum5hollow_is = let ws = a ∷ b ∷ c ∷ d ∷ e ∷ [] in over_numbers k 5 xs (λ ns. total (map times (halves (zip ws ns)))) (sum5hollow ws xs k) refl (simp add-zero) (sum5hollow_past ws xs k)

module _ (a b c d e f : ℤ) (xs : List Float) (k : ℕ) where
  pub sum6_is : row_sum (a ∷ b ∷ c ∷ d ∷ e ∷ f ∷ []) xs k ≡ sum6 (a ∷ b ∷ c ∷ d ∷ e ∷ f ∷ []) xs k
  unfolding row_sum total tab tab_from
  sum6_is = let ws = a ∷ b ∷ c ∷ d ∷ e ∷ f ∷ [] in over_numbers k 6 xs (λ ns. total (map times (zip ws ns))) (sum6 ws xs k) refl (simp add-zero) (sum6_past ws xs k)

  pub sum6descending_is : descending_sum (a ∷ b ∷ c ∷ d ∷ e ∷ f ∷ []) xs k ≡ sum6descending (a ∷ b ∷ c ∷ d ∷ e ∷ f ∷ []) xs k
  unfolding descending_sum total tab tab_from
  sum6descending_is = let ws = a ∷ b ∷ c ∷ d ∷ e ∷ f ∷ [] in over_numbers k 6 xs (λ ns. total (map times (zip ws (reverse ns)))) (sum6descending ws xs k) refl (simp add-zero) (sum6descending_past ws xs k)

module _ (a b c d e f g : ℤ) (xs : List Float) (k : ℕ) where
  pub sum7hollow_is : hollow_sum (a ∷ b ∷ c ∷ d ∷ e ∷ f ∷ g ∷ []) xs k ≡ sum7hollow (a ∷ b ∷ c ∷ d ∷ e ∷ f ∷ g ∷ []) xs k
  unfolding hollow_sum total tab tab_from
  sum7hollow_is =
      let ws = a ∷ b ∷ c ∷ d ∷ e ∷ f ∷ g ∷ [] in over_numbers k 7 xs (λ ns. total (map times (halves (zip ws ns)))) (sum7hollow ws xs k) refl (simp add-zero) (sum7hollow_past ws xs k)
