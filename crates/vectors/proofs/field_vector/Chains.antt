-- The minimum and the first index as a fold and a position, as the code's chains compute them.
use Rattle.std.proofs.Common.{◌≡◌, ℕ, suc, ◌+◌, Bool, true, false, not, cond, ltb, List, [], ◌∷◌, length, Option, None, Some, refl, sym, ap, ◌∙◌, arith}
use Rattle.std.proofs.lemmas.Bool.{ltb-true, ltb-false, lt-ltb, le-ltb}
use Rattle.std.specs.List.{fold, position, position_or_len}
use Rattle.std.specs.Option.{option_map}
use lib.Ieee.{Float, nan, le}
use Rattle.vectors.specs.Position.{first_at_or_below}
use Rattle.vectors.specs.TotalOrder.{lesser_of, minimum_of}
use Rattle.vectors.specs.TotalOrderLaws.{lesser_of_nan_left, lesser_of_nan_right, lesser_of_assoc}

fold_lesser : (m : Float) (xs : List Float) → fold lesser_of m xs ≡ lesser_of m (minimum_of xs)
unfolding minimum_of
fold_lesser m [] = sym (lesser_of_nan_right m)
fold_lesser m (x ∷ xs) = fold_lesser (lesser_of m x) xs ∙ lesser_of_assoc m x (minimum_of xs)

pub minimum_is : (xs : List Float) → fold lesser_of nan xs ≡ minimum_of xs
minimum_is xs = fold_lesser nan xs ∙ lesser_of_nan_left (minimum_of xs)

-- an element in front that does not pass
one_later : (k n : ℕ) → cond (ltb (1 + k) (suc n)) (Some (1 + k)) None ≡ option_map suc (cond (ltb k n) (Some k) None)
one_later k n = go (ltb k n) refl
  where
    go : (b : Bool) → ltb k n ≡ b → cond (ltb (1 + k) (suc n)) (Some (1 + k)) None ≡ option_map suc (cond b (Some k) None)
    go true e = rw (lt-ltb (1 + k) (suc n) (omega (arith, ltb-true k n e))) (ap {B = Option ℕ} Some (omega arith))
    go false e = rw (le-ltb (1 + k) (suc n) (omega (arith, ltb-false k n e)))

pub first_is : (bound : Float) (xs : List Float) → position (λ x. le x bound) xs ≡ first_at_or_below bound xs
unfolding first_at_or_below
first_is bound [] = refl
first_is bound (x ∷ xs) = go (le x bound) (first_is bound xs)
  where
    k : ℕ
    k = position_or_len (λ x. le x bound) xs

    go : (b : Bool) → position (λ x. le x bound) xs ≡ first_at_or_below bound xs → cond (ltb (cond (not b) (1 + k) 0) (length (x ∷ xs))) (Some (cond (not b) (1 + k) 0)) None ≡ cond b (Some 0) (option_map suc (first_at_or_below bound xs))
    go true e = rw (lt-ltb 0 (length (x ∷ xs)) (omega arith))
    go false e = one_later k (length xs) ∙ ap (option_map suc) e
