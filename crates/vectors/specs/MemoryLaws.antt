-- Laws of `tab`, `part` and `put`, and the invariants of loops that write a memory point by point.
use Rattle.std.specs.Prelude.{◌≡◌, ◌⊎◌, take, set, Bool, true, false, ◌||◌, leb, ltb}
use Rattle.std.proofs.Math.Path.{refl, sym, ap}
use Rattle.std.proofs.Common.{◌∙◌, zero-add, suc-add, le_of_suc-le-suc, not-suc-le-zero, eq-or-lt_of_le, length-append, leb-true, ltb-true, ltb-false, le-leb, drop-drop, get_or-set_same, ext_get_or}
use mathlib.Core.List.Memᴰ
use mathlib.Core.List.{List, [], ◌∷◌, ◌++◌, map, Memᴰ}
use Prim.Native.Nat.{ℕ, zero, suc, ◌+◌, ◌-◌, ◌≤◌, ◌<◌}
use Rattle.std.proofs.Math.Nat.{add-zero, add-suc}
use Rattle.std.proofs.Math.Numerals.{add-one}
use native.Mathlib.Omega.{arith}
use Rattle.std.proofs.Math.Logic.{inl, inr}
use Rattle.std.proofs.Math.ListN.{length, get_or, drop, length-take, length-drop, length-set, get_or-append}
use borrow.Rule.Slice.PartMut.{put_mid}
use Rattle.std.proofs.Math.Seq.{get_or-set_other, get_or-take, get_or-drop, get_or-append-add, length-take-le}
use Rattle.vectors.specs.Memory.{tab_from, tab, part, put}

pub by_cases : {P Q : Type 0} (b : Bool) → (b ≡ true → P) → (b ≡ false → Q) → P ⊎ Q
by_cases true f g = inl (f refl)
by_cases false f g = inr (g refl)

pub side : (k a : ℕ) → (k < a) ⊎ (a ≤ k)
side k a = by_cases (ltb k a) (ltb-true k a) (ltb-false k a)

-- where two functions agree on a list they agree on each of its elements
pub same_at : {A B : Type 0} (f g : A → B) (list : List A) (x : A) → map f list ≡ map g list → Memᴰ x list → f x ≡ g x
same_at f g [] x e m = absurd (Memᴰ.not-nil m)
same_at f g (y ∷ list) x e m = elim (Memᴰ.cases_cons m) [
  | inl p ↦ cc
  | inr m' ↦ same_at f g list x (cc) m'
]

-- from a on m, and from b on n, have no place in common
unfoldable pub apart : ℕ → ℕ → ℕ → ℕ → Bool
apart a m b n = leb (a + m) b || leb (b + n) a

pub apart_or : (a m b n : ℕ) → apart a m b n ≡ true → (a + m ≤ b) ⊎ (b + n ≤ a)
unfolding apart
apart_or a m b n e = go (leb (a + m) b) (leb (b + n) a) (λ t. leb-true (a + m) b t) (λ t. leb-true (b + n) a t) e
  where
    go : {P Q : Type 0} (x y : Bool) → (x ≡ true → P) → (y ≡ true → Q) → (x || y) ≡ true → P ⊎ Q
    go true y f g e = inl (f refl)
    go false y f g e = inr (g e)

module _ {A : Type 0} where
  -- xs with g j stored at at + j, for each j below n
  unfoldable pub fill : ℕ → ℕ → (ℕ → A) → List A → List A
  fill at zero g xs = xs
  fill at (suc n) g xs = set (fill at n g xs) (at + n) (g n)

  -- ---- fill
  pub length_fill : (at n : ℕ) (g : ℕ → A) (xs : List A) → length (fill at n g xs) ≡ length xs
  unfolding fill
  length_fill at zero g xs = refl
  length_fill at (suc n) g xs = length-set (fill at n g xs) (at + n) (g n) ∙ length_fill at n g xs

  -- a turn of the loop
  pub fill_more : (at i : ℕ) (g : ℕ → A) (xs : List A) → set (fill at i g xs) (at + i) (g i) ≡ fill at (i + 1) g xs
  unfolding fill
  fill_more at i g xs = rw add-one

  pub fill_none : (at : ℕ) (g : ℕ → A) (xs : List A) → xs ≡ fill at 0 g xs
  unfolding fill
  fill_none at g xs = refl

  -- xs is xs₀ filled with g at at + j for each j below i: the invariant of a loop that writes, by a name whose arguments antt finds
  pub record Filled (at i : ℕ) (g : ℕ → A) (xs₀ xs : List A) : Type 0 where
    pub is : xs ≡ fill at i g xs₀

  pub filled_none : (at : ℕ) (g : ℕ → A) (xs : List A) → Filled at 0 g xs xs
  filled_none at g xs = record { is = fill_none at g xs }

  -- a turn of the loop
  pub step : {at i : ℕ} {g : ℕ → A} {xs₀ xs : List A} {k : ℕ} {v : A}
      → Filled at i g xs₀ xs → k ≡ at + i → v ≡ g i → Filled at (i + 1) g xs₀ (set xs k v)
  step {at} {i} {g} {xs₀} {xs} {k} {v} f p q = record { is = cc (f.is, fill_more at i g xs₀) }

  -- the same, where the count before is i, the count after j, and both are known by other names than m and m + 1
  pub step_at : {at i j : ℕ} {g : ℕ → A} {xs₀ xs : List A} {k : ℕ} {v : A} (m : ℕ)
      → Filled at i g xs₀ xs → v ≡ g m → i ≡ m → k ≡ at + m → m + 1 ≡ j → Filled at j g xs₀ (set xs k v)
  step_at {at} {i} {j} {g} {xs₀} {xs} {k} {v} m f q a p b = record { is = cc (f.is, fill_more at i g xs₀) }

  -- The invariant of a loop that stores g E i at at + i, from i₀ on, where xs₀ is the list where the loop begins: whatever list E xs₀ is filled from, so is xs.
  -- g may read E, as a part that lies apart from what is written
  pub record Grown (at i₀ i : ℕ) (g : List A → ℕ → A) (xs₀ xs : List A) : Type 0 where
    pub grow : (E : List A) → Filled at i₀ (g E) E xs₀ → Filled at i (g E) E xs

  pub grown_none : (at i₀ : ℕ) (g : List A → ℕ → A) (xs₀ : List A) → Grown at i₀ i₀ g xs₀ xs₀
  grown_none at i₀ g xs₀ = record { grow = λ E f. f }

  pub grown_step : {at i₀ i : ℕ} {g : List A → ℕ → A} {xs₀ xs : List A} {k : ℕ} {v : A}
      → Grown at i₀ i g xs₀ xs → k ≡ at + i → ((E : List A) → Filled at i (g E) E xs → v ≡ g E i) → Grown at i₀ (i + 1) g xs₀ (set xs k v)
  grown_step {at} {i₀} {i} {g} {xs₀} {xs} {k} {v} f p q = record { grow = λ E e. step (f.grow E e) p (q E (f.grow E e)) }

  -- what the loop has not written yet, or never writes
  pub read_above : (at n : ℕ) (g : ℕ → A) (xs : List A) (k : ℕ) (d : A) → at + n ≤ k → get_or (fill at n g xs) k d ≡ get_or xs k d
  unfolding fill
  read_above at zero g xs k d h = refl
  read_above at (suc n) g xs k d h =
      let l : at + n < k = omega (arith, add-suc at n) in
      get_or-set_other (fill at n g xs) (at + n) k (g n) d (λ e. omega arith) ∙ read_above at n g xs k d (omega arith)

  pub read_below : (at n : ℕ) (g : ℕ → A) (xs : List A) (k : ℕ) (d : A) → k < at → get_or (fill at n g xs) k d ≡ get_or xs k d
  unfolding fill
  read_below at zero g xs k d h = refl
  read_below at (suc n) g xs k d h = get_or-set_other (fill at n g xs) (at + n) k (g n) d (λ e. omega arith) ∙ read_below at n g xs k d h

  -- what the loop has written
  pub read_in : (at n : ℕ) (g : ℕ → A) (xs : List A) (j : ℕ) (d : A) → j < n → at + n ≤ length xs → get_or (fill at n g xs) (at + j) d ≡ g j
  unfolding fill
  read_in at zero g xs j d h b = absurd (not-suc-le-zero h)
  read_in at (suc n) g xs j d h b = elim (eq-or-lt_of_le (le_of_suc-le-suc h)) [
    | inl e ↦ rw e (get_or-set_same (fill at n g xs) (at + n) (g n) d (rw length_fill (omega (arith, add-suc at n))))
    | inr l ↦ get_or-set_other (fill at n g xs) (at + n) (at + j) (g n) d (λ e. omega arith) ∙ read_in at n g xs j d l (omega (arith, add-suc at n))
  ]

  -- ---- tab
  length_tab_from : (k n : ℕ) (g : ℕ → A) → length (tab_from k n g) ≡ n
  unfolding tab_from
  length_tab_from k zero g = refl
  length_tab_from k (suc n) g = ap suc (length_tab_from (suc k) n g)

  pub length_tab : (n : ℕ) (g : ℕ → A) → length (tab n g) ≡ n
  unfolding tab
  length_tab n g = length_tab_from 0 n g

  get_d_tab_from : (k n : ℕ) (g : ℕ → A) (j : ℕ) (d : A) → j < n → get_or (tab_from k n g) j d ≡ g (k + j)
  unfolding tab_from
  get_d_tab_from k zero g j d h = absurd (not-suc-le-zero h)
  get_d_tab_from k (suc n) g zero d h = rw add-zero
  get_d_tab_from k (suc n) g (suc j) d h = get_d_tab_from (suc k) n g j d (le_of_suc-le-suc h) ∙ ap g (suc-add k j ∙ sym (add-suc k j))

  pub get_d_tab : (n : ℕ) (g : ℕ → A) (j : ℕ) (d : A) → j < n → get_or (tab n g) j d ≡ g j
  unfolding tab
  get_d_tab n g j d h = get_d_tab_from 0 n g j d h ∙ ap g (zero-add j)

  -- two functions that agree below n
  pub tab_same : (n : ℕ) (f g : ℕ → A) (d : A) → ((i : ℕ) → i < n → f i ≡ g i) → tab n f ≡ tab n g
  tab_same n f g d e =
      ext_get_or d (tab n f) (tab n g) (length_tab n f ∙ sym (length_tab n g))
      (λ i h. let l : i < n = omega (arith, length_tab n f) in get_d_tab n f i d l ∙ e i l ∙ sym (get_d_tab n g i d l))

  -- a whole list filled
  pub fill_all : (n : ℕ) (g : ℕ → A) (xs : List A) (d : A) → length xs ≡ n → fill 0 n g xs ≡ tab n g
  fill_all n g xs d e =
      ext_get_or d (fill 0 n g xs) (tab n g) (length_fill 0 n g xs ∙ e ∙ sym (length_tab n g))
      (λ i h. let l : i < n = omega (arith, length_fill 0 n g xs) in
      ap (λ (k : ℕ). get_or (fill 0 n g xs) k d) (sym (zero-add i)) ∙ read_in 0 n g xs i d l (omega arith) ∙ sym (get_d_tab n g i d l))

  pub filled_all : {n : ℕ} {g : ℕ → A} {xs₀ xs : List A} (d : A) → Filled 0 n g xs₀ xs → length xs₀ ≡ n → xs ≡ tab n g
  filled_all {n} {g} {xs₀} d f e = f.is ∙ fill_all n g xs₀ d e

  -- ---- part
  pub length_part : (at n : ℕ) (xs : List A) → at + n ≤ length xs → length (part at n xs) ≡ n
  unfolding part
  length_part at n xs h = length-take-le n (drop at xs) (rw length-drop (omega arith))

  pub get_d_part : (at n : ℕ) (xs : List A) (i : ℕ) (d : A) → i < n → get_or (part at n xs) i d ≡ get_or xs (at + i) d
  unfolding part
  get_d_part at n xs i d h = get_or-take n (drop at xs) i d h ∙ get_or-drop at xs i d

  same_count : (at n : ℕ) (xs ys : List A) → length xs ≡ length ys → length (part at n xs) ≡ length (part at n ys)
  unfolding part
  same_count at n xs ys l = simp (length-take, length-drop, l)

  below_count : (at n : ℕ) (xs : List A) (i : ℕ) → i < length (part at n xs) → i < n
  unfolding part
  below_count at n xs i h = omega (arith, simp (length-take, length-drop) at h)

  -- two lists that agree from at to at + n have the same part there
  pub part_same : (at n : ℕ) (xs ys : List A) (d : A) → length xs ≡ length ys → ((i : ℕ) → i < n → get_or xs (at + i) d ≡ get_or ys (at + i) d) → part at n xs ≡ part at n ys
  part_same at n xs ys d l e =
      ext_get_or d (part at n xs) (part at n ys) (same_count at n xs ys l)
      (λ i h. let b : i < n = below_count at n xs i h in get_d_part at n xs i d b ∙ e i b ∙ sym (get_d_part at n ys i d b))

  -- ---- put
  pub length-put : (at : ℕ) (ys xs : List A) → at + length ys ≤ length xs → length (put at ys xs) ≡ length xs
  unfolding put
  length-put at ys xs h = simp (length-append, length-take, length-drop) (omega arith)

  pub get_d_put_below : (at : ℕ) (ys xs : List A) (k : ℕ) (d : A) → at + length ys ≤ length xs → k < at → get_or (put at ys xs) k d ≡ get_or xs k d
  unfolding put
  get_d_put_below at ys xs k d h l =
      get_or-append (take at xs) (ys ++ drop (at + length ys) xs) d k (rw length-take (omega arith)) ∙ get_or-take at xs k d l

  tail_put : (at : ℕ) (ys xs : List A) (j : ℕ) (d : A) → at + length ys ≤ length xs → get_or (put at ys xs) (at + j) d ≡ get_or (ys ++ drop (at + length ys) xs) j d
  unfolding put
  tail_put at ys xs j d h =
      ap (λ (k : ℕ). get_or (put at ys xs) (k + j) d) (sym (length-take-le at xs (omega arith))) ∙ get_or-append-add (take at xs) (ys ++ drop (at + length ys) xs) j d

  pub get_d_put_in : (at : ℕ) (ys xs : List A) (j : ℕ) (d : A) → at + length ys ≤ length xs → j < length ys → get_or (put at ys xs) (at + j) d ≡ get_or ys j d
  get_d_put_in at ys xs j d h l = tail_put at ys xs j d h ∙ get_or-append ys (drop (at + length ys) xs) d j l

  pub get_d_put_above : (at : ℕ) (ys xs : List A) (k : ℕ) (d : A) → at + length ys ≤ length xs → at + length ys ≤ k → get_or (put at ys xs) k d ≡ get_or xs k d
  get_d_put_above at ys xs k d h l =
      let j = k - (at + length ys) in
      let e : k ≡ at + (length ys + j) = omega arith in
      let e' : at + length ys + j ≡ k = omega arith in
      ap (λ (m : ℕ). get_or (put at ys xs) m d) e
      ∙ tail_put at ys xs (length ys + j) d h
      ∙ get_or-append-add ys (drop (at + length ys) xs) j d
      ∙ get_or-drop (at + length ys) xs j d
      ∙ ap (λ (m : ℕ). get_or xs m d) e'

  -- a list is xs with ys put at at, if it is so element by element
  pub is_put : (at : ℕ) (ys xs zs : List A) (d : A) → at + length ys ≤ length xs → length zs ≡ length xs
      → ((k : ℕ) → k < at → get_or zs k d ≡ get_or xs k d)
      → ((j : ℕ) → j < length ys → get_or zs (at + j) d ≡ get_or ys j d)
      → ((k : ℕ) → at + length ys ≤ k → get_or zs k d ≡ get_or xs k d)
      → zs ≡ put at ys xs
  is_put at ys xs zs d h l lo mid hi =
      ext_get_or d zs (put at ys xs) (l ∙ sym (length-put at ys xs h))
      (λ k b. elim (side k at) [
        | inl p ↦ lo k p ∙ sym (get_d_put_below at ys xs k d h p)
        | inr p ↦ elim (side k (at + length ys)) [
          | inl q ↦
              let e : at + (k - at) ≡ k = omega arith in
              ap (λ (m : ℕ). get_or zs m d) (sym e) ∙ mid (k - at) (omega arith) ∙ sym (get_d_put_in at ys xs (k - at) d h (omega arith)) ∙ ap (λ (m : ℕ). get_or (put at ys xs) m d) e
          | inr q ↦ hi k q ∙ sym (get_d_put_above at ys xs k d h q)
        ]
      ])

  pub fill_put : (at n : ℕ) (g : ℕ → A) (xs : List A) (d : A) → at + n ≤ length xs → fill at n g xs ≡ put at (tab n g) xs
  fill_put at n g xs d h =
      let l = length_tab n g in
      is_put at (tab n g) xs (fill at n g xs) d (omega arith) (length_fill at n g xs)
      (λ k p. read_below at n g xs k d p)
      (λ j p. let q : j < n = omega arith in read_in at n g xs j d q h ∙ sym (get_d_tab n g j d q))
      (λ k p. read_above at n g xs k d (omega arith))

  -- the part that was put, and a part that lies apart from it
  pub part-put : (at : ℕ) (ys xs : List A) (d : A) → at + length ys ≤ length xs → part at (length ys) (put at ys xs) ≡ ys
  part-put at ys xs d h =
      let l = length_part at (length ys) (put at ys xs) (omega (arith, length-put at ys xs h)) in
      ext_get_or d (part at (length ys) (put at ys xs)) ys l
      (λ i b. get_d_part at (length ys) (put at ys xs) i d (omega arith) ∙ get_d_put_in at ys xs i d h (omega arith))

  pub part-put_apart : (at : ℕ) (ys xs : List A) (b n : ℕ) (d : A) → at + length ys ≤ length xs → apart at (length ys) b n ≡ true → part b n (put at ys xs) ≡ part b n xs
  part-put_apart at ys xs b n d h e =
      part_same b n (put at ys xs) xs d (length-put at ys xs h)
      (λ i l. elim (apart_or at (length ys) b n e) [
        | inl p ↦ get_d_put_above at ys xs (b + i) d h (omega arith)
        | inr p ↦ get_d_put_below at ys xs (b + i) d h (omega arith)
      ])

  pub part_fill_apart : (at i n : ℕ) (g : ℕ → A) (xs : List A) (b m : ℕ) (d : A) → i ≤ n → apart at n b m ≡ true → part b m (fill at i g xs) ≡ part b m xs
  part_fill_apart at i n g xs b m d h e =
      part_same b m (fill at i g xs) xs d (length_fill at i g xs)
      (λ j l. elim (apart_or at n b m e) [
        | inl p ↦ read_above at i g xs (b + j) d (omega arith)
        | inr p ↦ read_below at i g xs (b + j) d (omega arith)
      ])

  -- one store
  pub part_set_apart : (at n : ℕ) (xs : List A) (k : ℕ) (v : A) (b m : ℕ) (d : A) → at ≤ k → k < at + n → apart at n b m ≡ true → part b m (set xs k v) ≡ part b m xs
  part_set_apart at n xs k v b m d lo hi e =
      part_same b m (set xs k v) xs d (length-set xs k v)
      (λ j l. elim (apart_or at n b m e) [
        | inl p ↦ get_or-set_other xs k (b + j) v d (λ q. omega arith)
        | inr p ↦ get_or-set_other xs k (b + j) v d (λ q. omega arith)
      ])

  pub filled_put : {at n : ℕ} {g : ℕ → A} {xs₀ xs : List A} (d : A) → Filled at n g xs₀ xs → at + n ≤ length xs₀ → xs ≡ put at (tab n g) xs₀
  filled_put {at} {n} {g} {xs₀} d f h = f.is ∙ fill_put at n g xs₀ d h

  -- a part that code lends, from a to e
  pub lent : (a e n : ℕ) (xs : List A) → e ≡ a + n → take (e - a) (drop a xs) ≡ part a n xs
  unfolding part
  lent a e n xs h = let k : e - a ≡ n = omega arith in rw k

  -- ---- what a loop reads of the list that it writes
  -- a part apart from what is written
  pub filled_part : {at i : ℕ} {g : ℕ → A} {E xs : List A} (n b m : ℕ) (d : A) → Filled at i g E xs → i ≤ n → apart at n b m ≡ true → part b m xs ≡ part b m E
  filled_part {at} {i} {g} {E} n b m d f h e = ap (λ (l : List A). part b m l) f.is ∙ part_fill_apart at i n g E b m d h e

  -- the element that is written next, or a later one
  pub filled_later : {at i : ℕ} {g : ℕ → A} {E xs : List A} (k : ℕ) (d : A) → Filled at i g E xs → at + i ≤ k → get_or xs k d ≡ get_or E k d
  filled_later {at} {i} {g} {E} k d f h = ap (λ (l : List A). get_or l k d) f.is ∙ read_above at i g E k d h

  -- an earlier result of its own
  pub filled_own : {at i : ℕ} {g : ℕ → A} {E xs : List A} (j : ℕ) (d : A) → Filled at i g E xs → j < i → at + i ≤ length xs → get_or xs (at + j) d ≡ g j
  filled_own {at} {i} {g} {E} {xs} j d f h b =
      ap (λ (l : List A). get_or l (at + j) d) f.is ∙ read_in at i g E j d h (omega (arith, filled_length f))
    where
      filled_length : Filled at i g E xs → length xs ≡ length E
      filled_length f = ap length f.is ∙ length_fill at i g E

  -- the same of a whole list
  pub own : {i : ℕ} {g : ℕ → A} {E xs : List A} (j : ℕ) (d : A) → Filled 0 i g E xs → j < i → i ≤ length xs → get_or xs j d ≡ g j
  own {i} {g} {E} {xs} j d f h b = ap (λ (k : ℕ). get_or xs k d) (sym (zero-add j)) ∙ filled_own j d f h (omega arith)

  -- a `&mut` part from a to e that was lent and holds zs when it is back
  pub back : (a e : ℕ) (ys zs xs : List A) → zs ≡ ys → e ≡ a + length ys → put_mid a (e - a) xs zs ≡ put a ys xs
  unfolding put
  back a e ys zs xs h p =
      let k : e - a ≡ length ys = omega arith in
      rw (h, k, drop-drop)

  -- an element of a part apart from what is written
  pub filled_at : {at i : ℕ} {g : ℕ → A} {E xs : List A} (n b m j : ℕ) (d : A) → Filled at i g E xs → i ≤ n → apart at n b m ≡ true → j < m → get_or xs (b + j) d ≡ get_or (part b m E) j d
  filled_at {at} {i} {g} {E} {xs} n b m j d f h e l = sym (get_d_part b m xs j d l) ∙ ap (λ (p : List A). get_or p j d) (filled_part n b m d f h e)

  -- the element that is written next, as the part that is written had it
  pub filled_mine : {at i : ℕ} {g : ℕ → A} {E xs : List A} (n : ℕ) (d : A) → Filled at i g E xs → i < n → get_or xs (at + i) d ≡ get_or (part at n E) i d
  filled_mine {at} {i} {g} {E} n d f h = filled_later (at + i) d f (omega arith) ∙ sym (get_d_part at n E i d h)

  -- a loop that wrote n from the start, at at, and one that wrote the whole list
  pub grown_put : {at i : ℕ} {g : List A → ℕ → A} {xs₀ xs : List A} (n : ℕ) (d : A) → Grown at 0 i g xs₀ xs → i ≡ n → at + n ≤ length xs₀ → xs ≡ put at (tab n (g xs₀)) xs₀
  grown_put {at} {i} {g} {xs₀} n d f e h = filled_put d (rw e at (f.grow xs₀ (filled_none at (g xs₀) xs₀))) h

  pub grown_all : {i : ℕ} {g : List A → ℕ → A} {xs₀ xs : List A} (n : ℕ) (d : A) → Grown 0 0 i g xs₀ xs → i ≡ n → length xs₀ ≡ n → xs ≡ tab n (g xs₀)
  grown_all {i} {g} {xs₀} n d f e h = filled_all d (rw e at (f.grow xs₀ (filled_none 0 (g xs₀) xs₀))) h

  fill_split : (m k : ℕ) (g : ℕ → A) (xs : List A) → fill 0 (m + k) g xs ≡ fill m k (λ j. g (m + j)) (fill 0 m g xs)
  unfolding fill
  fill_split m zero g xs = rw (add-zero m)
  fill_split m (suc k) g xs = rw (add-suc m k) (cc (fill_split m k g xs, zero-add (m + k)))

  -- a part from i₀ to e that was lent, each number of which came back as g of its place
  pub grown_part : {g : ℕ → A} {zs : List A} (i₀ k e : ℕ) (d : A) (xs : List A) → zs ≡ tab k (λ j. g (i₀ + j)) → e ≡ i₀ + k → e ≤ length xs
      → Grown 0 i₀ e (λ E. g) xs (put_mid i₀ (e - i₀) xs zs)
  grown_part {g} {zs} i₀ k e d xs p q h =
      let h' = λ (j : ℕ). g (i₀ + j) in
      let l = length_tab k h' in
      let placed = back i₀ e (tab k h') zs xs p (omega (arith, l)) ∙ sym (fill_put i₀ k h' xs d (omega arith)) in
      record { grow = λ E F. record { is = placed ∙ ap (fill i₀ k h') F.is ∙ sym (fill_split i₀ k g E) ∙ ap (λ (n : ℕ). fill 0 n g E) (sym q) } }

  -- the laws of `part` and `put` where the lengths have other names
  pub part_of_put : (at n : ℕ) (ys xs : List A) (d : A) → length ys ≡ n → at + n ≤ length xs → part at n (put at ys xs) ≡ ys
  part_of_put at n ys xs d e h = rw (sym e) (part-put at ys xs d (omega arith))

  pub part_past-put : (at m : ℕ) (ys xs : List A) (b n : ℕ) (d : A) → length ys ≡ m → at + m ≤ length xs → apart at m b n ≡ true → part b n (put at ys xs) ≡ part b n xs
  part_past-put at m ys xs b n d e h a = part-put_apart at ys xs b n d (omega arith) (rw (sym e) at a)

  pub length-put_is : (at n : ℕ) (ys xs : List A) → length ys ≡ n → at + n ≤ length xs → length (put at ys xs) ≡ length xs
  length-put_is at n ys xs e h = length-put at ys xs (omega arith)

  -- two numbers stored at each end, and a loop between them
  pub edged : {i : ℕ} {g : ℕ → A} {xs : List A} {a b y z : A} (n : ℕ) (d : A) (xs₀ : List A) → 4 ≤ n → length xs₀ ≡ n → i ≡ n - 2
      → Grown 0 2 i (λ E. g) (set (set xs₀ 0 a) 1 b) xs → a ≡ g 0 → b ≡ g 1 → y ≡ g (n - 2) → z ≡ g (n - 1)
      → set (set xs (n - 2) y) (n - 1) z ≡ tab n g
  edged {i} {g} n d xs₀ h l e f p q r s =
      let before = step (step (filled_none 0 g xs₀) refl p) refl q in
      filled_all d (step_at (n - 1) (step_at (n - 2) (f.grow xs₀ before) r e (omega arith) (omega arith)) s refl (omega arith) (omega arith)) l

-- a before b
pub apart_left : (a m b n : ℕ) → a + m ≤ b → apart a m b n ≡ true
unfolding apart
apart_left a m b n h = rw (le-leb (a + m) b h)

pub apart_right : (a m b n : ℕ) → b + n ≤ a → apart a m b n ≡ true
unfolding apart
apart_right a m b n h = go (leb (a + m) b) (leb (b + n) a) (le-leb (b + n) a h)
  where
    go : (x y : Bool) → y ≡ true → (x || y) ≡ true
    go true y e = refl
    go false y e = e
