-- `vectors::tan::horner` meets its contract.
use Rattle.std.proofs.Common.{◌≡◌, rules, Some, refl, sym, ap, ◌∙◌, ℕ, zero, suc, ◌-◌, List, [], ◌∷◌, ◌++◌, reverse, length, get_or, arith}
use Rattle.std.specs.List.{reduce}
use Rattle.std.specs.Option.{unwrap_or}
use Rattle.std.specs.Float.{nan, binary64}
use Rattle.std.specs.Float.Ieee.{add, mul, of_bits}
use Rattle.std.proofs.lemmas.List.{map-id}
use Rattle.std.proofs.lemmas.List.Sums.{fold-append}
use Rattle.std.proofs.lemmas.Iterator.Adapters.{YieldsList-from_rev_slice}
use Rattle.std.proofs.lemmas.Iterator.Consumers.{YieldsList-from_copied, YieldsList-at}
use mathlib.Core.List.{reverse-cons}
use lib.Ieee.{Float}
use Rattle.vectors.specs.Tan.{horner}
use Rattle.vectors.proofs.Chains.{run_items, run_reduced}
use Rattle.vectors.proofs.tan.horner.Goals as goal

horner_shift : (z : Float) (c : ℕ → Float) (q n : ℕ) → horner z c (suc q) n ≡ horner z (λ j. c (suc j)) q n
horner_shift z c q zero = refl
horner_shift z c q (suc n) = ap (λ s. add binary64 (c (suc q)) (mul binary64 z s)) (horner_shift z c (suc q) n)

reduce_last : (h : Float → Float → Float) (xs : List Float) (s x : Float) → reduce h xs ≡ Some s → reduce h (xs ++ (x ∷ [])) ≡ Some (h s x)
reduce_last h [] s x e = absurd (cc)
reduce_last h (y ∷ ys) s x e = ap Some (fold-append h y ys (x ∷ [])) ∙ cc

abbrev step : Float → Float → Float → Float
step z s c = add binary64 c (mul binary64 z s)

module _ (z : Float) where
  reduced : (c : Float) (cs : List Float) → reduce (step z) (reverse (c ∷ cs)) ≡ Some (horner z (λ q. get_or (c ∷ cs) q nan) 0 (length cs))
  reduced c [] = refl
  reduced c (d ∷ ds) =
      ap (reduce (step z)) (reverse-cons c (d ∷ ds))
      ∙ reduce_last (step z) (reverse (d ∷ ds)) _ c (reduced d ds)
      ∙ ap (λ s. Some (step z s c)) (sym (horner_shift z (λ q. get_or (c ∷ d ∷ ds) q nan) 0 (length ds)))

  of_reduced : (cs : List Float) → unwrap_or (reduce (step z) (reverse cs)) nan ≡ horner z (λ q. get_or cs q nan) 0 (length cs - 1)
  of_reduced [] = refl
  of_reduced (c ∷ cs) = let e : suc (length cs) - 1 ≡ length cs = omega arith in rw e (ap (λ r. unwrap_or r nan) (reduced c cs))

pub returns : goal.returns
unfolding of_bits
returns c =
    let cs = c.args.coefficients.now in
    let z = c.args.z in
    let w = c.reduce.ensures.runs in
    c.unwrap_or.ensures
    ∙ ap (λ r. unwrap_or r nan) (run_reduced _ _ (step z) c.reduce.result w.0 w.3 (λ x y r q k. search rules))
    ∙ ap (λ ts. unwrap_or (reduce (step z) ts) nan)
    (sym (map-id w.0.items) ∙ run_items (λ x. x) w.0 w.1 w.2 (YieldsList-from_copied (YieldsList-at c.copied.ensures.source (YieldsList-from_rev_slice cs cc))).runs)
    ∙ of_reduced z cs
