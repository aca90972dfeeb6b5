-- Lists that are written into a memory one after another.
use Rattle.std.specs.Prelude.{◌≡◌, ℕ, suc, ◌+◌, ◌-◌, ◌<◌, ◌≤◌, List, [], ◌∷◌, ◌++◌, length, take, drop, slice_set}
use Rattle.std.proofs.Math.Path.{sym, ap}
use Rattle.std.proofs.Common.{◌∙◌, append_assoc, add-one, arith, length-take, take-append-drop, drop-drop, length-take-le, drop_at}
use Rattle.std.proofs.Math.Nat.{add-zero}
use Rattle.std.proofs.Math.ListN.{length-append}
use Rattle.std.proofs.lemmas.List.{set_split, take-set-le}
use Rattle.std.proofs.Math.Seq.{take-append_seam, take_at}
use Rattle.vectors.specs.Memory.{put}
use Rattle.vectors.specs.MemoryLaws.{length-put}

module _ {A : Type 0} where
  -- a put is a front and what follows it
  front : (at : ℕ) (ys xs : List A) → put at ys xs ≡ (take at xs ++ ys) ++ drop (at + length ys) xs
  unfolding put
  front at ys xs = sym (append_assoc (take at xs) ys (drop (at + length ys) xs))

  length_front : (at : ℕ) (ys xs : List A) → at + length ys ≤ length xs → length (take at xs ++ ys) ≡ at + length ys
  length_front at ys xs h = simp (length-append, length-take) (omega arith)

  -- what follows a put
  pub drop-put : (at : ℕ) (ys xs : List A) (n : ℕ) → at + length ys ≤ length xs → at + length ys ≤ n → drop n (put at ys xs) ≡ drop n xs
  drop-put at ys xs n h l =
      let m = at + length ys in
      let k = n - m in
      let e : n ≡ m + k = omega arith in
      let d : drop m (put at ys xs) ≡ drop m xs = ap (drop m) (front at ys xs) ∙ drop_at (take at xs ++ ys) (drop m xs) m (length_front at ys xs h) in
      ap (λ (i : ℕ). drop i (put at ys xs)) e ∙ sym (drop-drop k m (put at ys xs)) ∙ ap (drop k) d ∙ drop-drop k m xs ∙ ap (λ (i : ℕ). drop i xs) (sym e)

  -- a list written behind another
  pub put-append : (at : ℕ) (ys zs xs : List A) → at + length ys + length zs ≤ length xs → put (at + length ys) zs (put at ys xs) ≡ put at (ys ++ zs) xs
  unfolding put
  put-append at ys zs xs h =
      let n = at + length ys in
      let f = take at xs ++ ys in
      let t : take n (put at ys xs) ≡ f = ap (take n) (front at ys xs) ∙ take_at f (drop n xs) n (length_front at ys xs (omega arith)) in
      let g : drop (n + length zs) (put at ys xs) ≡ drop (n + length zs) xs = drop-put at ys xs (n + length zs) (omega arith) (omega arith) in
      let s : at + length (ys ++ zs) ≡ n + length zs = omega (arith, length-append ys zs) in
      rw (t, g, s) (simp append_assoc)

  -- one number
  pub put_one : (at : ℕ) (y : A) (xs : List A) → at < length xs → put at (y ∷ []) xs ≡ slice_set xs at y
  unfolding put
  put_one at y xs h = ap (λ (n : ℕ). take at xs ++ y ∷ drop n xs) (add-one at) ∙ sym (set_split xs at y h)

  -- nothing
  pub put_nil : (at : ℕ) (xs : List A) → put at [] xs ≡ xs
  unfolding put
  put_nil at xs = rw add-zero (take-append-drop at xs)

  -- the first number before the others
  pub put_cons : (at : ℕ) (y : A) (ys xs : List A) → at + 1 + length ys ≤ length xs → put (at + 1) ys (slice_set xs at y) ≡ put at (y ∷ ys) xs
  put_cons at y ys xs h = ap (put (at + 1) ys) (sym (put_one at y xs (omega arith))) ∙ put-append at (y ∷ []) ys xs (omega arith)

  drop_set : (n : ℕ) (xs : List A) (y : A) → n < length xs → drop n (slice_set xs n y) ≡ y ∷ drop (suc n) xs
  drop_set n xs y h = ap (drop n) (set_split xs n y h) ∙ drop_at (take n xs) (y ∷ drop (suc n) xs) n (length-take-le n xs (omega arith))

  -- the last number before the others
  pub put_snoc : (at : ℕ) (ys : List A) (y : A) (xs : List A) → at + length ys < length xs → put at ys (slice_set xs (at + length ys) y) ≡ put at (ys ++ (y ∷ [])) xs
  unfolding put
  put_snoc at ys y xs h =
      let n = at + length ys in
      let s : at + length (ys ++ (y ∷ [])) ≡ suc n = omega (arith, length-append ys (y ∷ [])) in
      rw (take-set-le at xs n y (omega arith), drop_set n xs y h, s) (simp append_assoc)

  -- what was put first
  pub take-put : (ys xs : List A) → take (length ys) (put 0 ys xs) ≡ ys
  unfolding put
  take-put ys xs = take-append_seam ys (drop (0 + length ys) xs)

  -- ys were written from at on, where there was room for them
  pub record Wrote (at : ℕ) (ys xs₀ xs : List A) : Type 0 where
    pub is : xs ≡ put at ys xs₀
    pub within : at + length ys ≤ length xs₀

  pub wrote-length : {at : ℕ} {ys xs₀ xs : List A} → Wrote at ys xs₀ xs → length xs ≡ length xs₀
  wrote-length {at} {ys} {xs₀} w = ap length w.is ∙ length-put at ys xs₀ w.within

  pub wrote_one : (at : ℕ) (y : A) (xs : List A) → at < length xs → Wrote at (y ∷ []) xs (slice_set xs at y)
  wrote_one at y xs h = record { is = sym (put_one at y xs h); within = omega arith }

  -- one after another
  pub wrote_both : {at b n : ℕ} {ys zs xs₀ xs₁ xs : List A} → Wrote at ys xs₀ xs₁ → Wrote b zs xs₁ xs → length ys ≡ n → b ≡ at + n → Wrote at (ys ++ zs) xs₀ xs
  wrote_both {at} {b} {n} {ys} {zs} {xs₀} {xs₁} {xs} v w l e =
      let k : b ≡ at + length ys = omega arith in
      let r : at + length ys + length zs ≤ length xs₀ = omega (arith, w.within, wrote-length v) in
      record {
        is = w.is ∙ ap (λ (j : ℕ). put j zs xs₁) k ∙ ap (put (at + length ys) zs) v.is ∙ put-append at ys zs xs₀ r;
        within = omega (arith, length-append ys zs);
      }
