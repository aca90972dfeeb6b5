-- Slots that stand side by side, read, written or advanced as one list.
use Rattle.std.specs.Prelude.{◌≡◌, ℕ, suc, ◌+◌, ◌-◌, ◌*◌, ◌<◌, ◌≤◌, List, ◌++◌, length, take, drop, slice_index_or, refl, Float}
use Rattle.std.proofs.Common.{sym, ◌∙◌, inl, inr, length-append, drop-drop, ext_get_or, get_or-append-add}
use Rattle.std.proofs.Math.Path.{ap}
use Rattle.std.proofs.Math.Nat.{suc-mul}
use native.Mathlib.Omega.{arith}
use Rattle.std.proofs.Math.ListN.{get_or-append}
use Rattle.std.proofs.Math.Seq.{take-add}
use Rattle.std.specs.Float.{nan}
use Rattle.vectors.specs.Memory.{tab, part, put}
use Rattle.vectors.specs.MemoryLaws.{side, length_tab, get_d_tab, length-put, get_d_put_below, get_d_put_in, get_d_put_above, is_put, length-put_is}
use Rattle.physics.specs.Slots.{slots, upd, Became, wrote, both, length_slot}
use Rattle.physics.specs.StepPasses.{advanced_by_sum}
use Rattle.physics.specs.Vector.{at, advanced_of}

-- ---- read

module _ (n : ℕ) (w : List Float) where
  pub one_more : (k m : ℕ) → take (suc m * n) (drop (k * n) w) ≡ slots n w k ++ take (m * n) (drop (suc k * n) w)
  unfolding slots part
  one_more k m =
      let e : suc m * n ≡ n + m * n = omega (arith, suc-mul m n) in
      let f : suc k * n ≡ k * n + n = suc-mul k n in
      rw (e, f, take-add n (m * n) (drop (k * n) w), drop-drop)

  last : (k : ℕ) → take (1 * n) (drop (k * n) w) ≡ slots n w k
  unfolding slots part
  last k = let o : 1 * n ≡ n = omega arith in ap (λ (j : ℕ). take j (drop (k * n) w)) o

  pub two_slots : (k : ℕ) → part (k * n) (2 * n) w ≡ slots n w k ++ slots n w (suc k)
  unfolding part
  two_slots k = one_more k 1 ∙ ap (λ (x : List Float). slots n w k ++ x) (last (suc k))

  pub three_slots : (k : ℕ) → part (k * n) (3 * n) w ≡ slots n w k ++ (slots n w (suc k) ++ slots n w (suc (suc k)))
  unfolding part
  three_slots k = one_more k 2 ∙ ap (λ (x : List Float). slots n w k ++ x) (two_slots (suc k))

-- ---- written

put-append : (at : ℕ) (xs ys w : List Float) → at + (length xs + length ys) ≤ length w → put at (xs ++ ys) w ≡ put (at + length xs) ys (put at xs w)
put-append at xs ys w h =
    let v = put at xs w in
    let m = length-append xs ys in
    let l = length-put at xs w (omega arith) in
    let k = length-put (at + length xs) ys v (omega arith) in
    sym (is_put at (xs ++ ys) w (put (at + length xs) ys v) nan (omega arith) (k ∙ l)
    (λ j p. get_d_put_below (at + length xs) ys v j nan (omega arith) (omega arith) ∙ get_d_put_below at xs w j nan (omega arith) p)
    (λ j p. elim (side j (length xs)) [
      | inl q ↦
          get_d_put_below (at + length xs) ys v (at + j) nan (omega arith) (omega arith) ∙ get_d_put_in at xs w j nan (omega arith) q
          ∙ sym (get_or-append xs ys nan j q)
      | inr q ↦
          let e : at + j ≡ at + length xs + (j - length xs) = omega arith in
          let f : length xs + (j - length xs) ≡ j = omega arith in
          ap (λ (i : ℕ). slice_index_or (put (at + length xs) ys v) i nan) e
          ∙ get_d_put_in (at + length xs) ys v (j - length xs) nan (omega arith) (omega arith)
          ∙ sym (get_or-append-add xs ys (j - length xs) nan) ∙ ap (λ (i : ℕ). slice_index_or (xs ++ ys) i nan) f
    ])
    (λ j p. get_d_put_above (at + length xs) ys v j nan (omega arith) (omega arith) ∙ get_d_put_above at xs w j nan (omega arith) (omega arith)))

module _ (n k : ℕ) (w : List Float) where
  one : (xs : List Float) → length xs ≡ n → k * n + n ≤ length w → Became n (upd k xs) w (put (k * n) xs w)
  one xs l h = wrote n k (λ S. xs) w _ l h refl

  next : (xs ys : List Float) → length xs ≡ n → k * n + (n + length ys) ≤ length w → put (k * n) (xs ++ ys) w ≡ put (suc k * n) ys (put (k * n) xs w)
  next xs ys l h =
      let e : k * n + length xs ≡ suc k * n = omega (arith, suc-mul k n) in
      put-append (k * n) xs ys w (omega arith) ∙ ap (λ (j : ℕ). put j ys (put (k * n) xs w)) e

pub wrote_two : (n k : ℕ) (xs ys w : List Float) {w' : List Float} → length xs ≡ n → length ys ≡ n → k * n + 2 * n ≤ length w → w' ≡ put (k * n) (xs ++ ys) w
    → Became n (λ S. upd (suc k) ys (upd k xs S)) w w'
wrote_two n k xs ys w l m h e =
    let v = put (k * n) xs w in
    let q : length v ≡ length w = length-put_is (k * n) n xs w l (omega arith) in
    let s = suc-mul k n in
    rw (e, next n k w xs ys l (omega arith)) (both (one n k w xs l (omega arith)) (one n (suc k) v ys m (omega arith)))

pub wrote_three : (n k : ℕ) (xs ys zs w : List Float) {w' : List Float} → length xs ≡ n → length ys ≡ n → length zs ≡ n → k * n + 3 * n ≤ length w
    → w' ≡ put (k * n) (xs ++ (ys ++ zs)) w → Became n (λ S. upd (suc (suc k)) zs (upd (suc k) ys (upd k xs S))) w w'
wrote_three n k xs ys zs w l m o h e =
    let v = put (k * n) xs w in
    let q : length v ≡ length w = length-put_is (k * n) n xs w l (omega arith) in
    let s = suc-mul k n in
    let p = length-append ys zs in
    both (one n k w xs l (omega arith)) (wrote_two n (suc k) ys zs v m o (omega arith) (e ∙ next n k w xs (ys ++ zs) l (omega arith)))

-- three slots of v, from j on, copied to those from k on
pub copied_three : (n k j : ℕ) (v w : List Float) {w' : List Float} → j * n + 3 * n ≤ length v → k * n + 3 * n ≤ length w → w' ≡ put (k * n) (part (j * n) (3 * n) v) w
    → Became n (λ S. upd (suc (suc k)) (slots n v (suc (suc j))) (upd (suc k) (slots n v (suc j)) (upd k (slots n v j) S))) w w'
copied_three n k j v w g h e =
    let p = suc-mul j n in
    let q = suc-mul (suc j) n in
    wrote_three n k _ _ _ w (length_slot n j v (omega arith)) (length_slot n (suc j) v (omega arith)) (length_slot n (suc (suc j)) v (omega arith)) h
    (e ∙ ap (λ (x : List Float). put (k * n) x w) (three_slots n v j))

-- ---- advanced

tab_append : (n m : ℕ) (f g h : ℕ → Float) → ((i : ℕ) → i < n → f i ≡ g i) → ((i : ℕ) → i < m → f (n + i) ≡ h i) → tab (n + m) f ≡ tab n g ++ tab m h
tab_append n m f g h p q =
    let l = length_tab (n + m) f in
    let a = length_tab n g in
    let b = length_tab m h in
    let c = length-append (tab n g) (tab m h) in
    ext_get_or nan (tab (n + m) f) (tab n g ++ tab m h) (omega arith) (λ i s. get_d_tab (n + m) f i nan (omega arith) ∙ elim (side i n) [
      | inl u ↦ p i u ∙ sym (get_d_tab n g i nan u) ∙ sym (get_or-append (tab n g) (tab m h) nan i (omega arith))
      | inr u ↦
          let e : n + (i - n) ≡ i = omega arith in
          let d : length (tab n g) + (i - n) ≡ i = omega arith in
          ap f (sym e) ∙ q (i - n) (omega arith) ∙ sym (get_d_tab m h (i - n) nan (omega arith))
          ∙ sym (get_or-append-add (tab n g) (tab m h) (i - n) nan) ∙ ap (λ (j : ℕ). slice_index_or (tab n g ++ tab m h) j nan) d
    ])

module _ (n : ℕ) (xs ys : List Float) (l : length xs ≡ n) where
  at_left : (i : ℕ) → i < n → at (xs ++ ys) i ≡ at xs i
  at_left i h = get_or-append xs ys nan i (rw l h)

  at_right : (i : ℕ) → at (xs ++ ys) (n + i) ≡ at ys i
  at_right i = rw (sym l) (get_or-append-add xs ys i nan)

advanced-append : (n m : ℕ) (c : Float) (xs ys us vs : List Float) → length xs ≡ n → length us ≡ n
    → advanced_of (n + m) c (xs ++ ys) (us ++ vs) ≡ advanced_of n c xs us ++ advanced_of m c ys vs
unfolding advanced_of
advanced-append n m c xs ys us vs l k =
    tab_append n m _ _ _ (λ i h. rw (at_left n xs ys l i h, at_left n us vs k i h)) (λ i h. rw (at_right n xs ys l i, at_right n us vs k i))

advanced_by_sum-append : (n m : ℕ) (c : Float) (xs ys sums more us vs : List Float) → length xs ≡ n → length sums ≡ n → length us ≡ n
    → advanced_by_sum (n + m) c (xs ++ ys) (sums ++ more) (us ++ vs) ≡ advanced_by_sum n c xs sums us ++ advanced_by_sum m c ys more vs
unfolding advanced_by_sum
advanced_by_sum-append n m c xs ys sums more us vs l j k =
    tab_append n m _ _ _ (λ i h. rw (at_left n xs ys l i h, at_left n sums more j i h, at_left n us vs k i h))
    (λ i h. rw (at_right n xs ys l i, at_right n sums more j i, at_right n us vs k i))

-- slots a of v and b of w, and their neighbours
module _ (n : ℕ) (c : Float) (v : List Float) (a : ℕ) (w : List Float) (b : ℕ) where
  pub advanced_two : a * n + 2 * n ≤ length v → b * n + 2 * n ≤ length w
      → advanced_of (2 * n) c (part (a * n) (2 * n) v) (part (b * n) (2 * n) w)
      ≡ advanced_of n c (slots n v a) (slots n w b) ++ advanced_of n c (slots n v (suc a)) (slots n w (suc b))
  advanced_two g h =
      let e : 2 * n ≡ n + n = omega arith in
      rw (two_slots n v a, two_slots n w b, e) (advanced-append n n c _ _ _ _ (length_slot n a v (omega arith)) (length_slot n b w (omega arith)))

  pub advanced_three : a * n + 3 * n ≤ length v → b * n + 3 * n ≤ length w
      → advanced_of (3 * n) c (part (a * n) (3 * n) v) (part (b * n) (3 * n) w)
      ≡ advanced_of n c (slots n v a) (slots n w b)
      ++ (advanced_of n c (slots n v (suc a)) (slots n w (suc b)) ++ advanced_of n c (slots n v (suc (suc a))) (slots n w (suc (suc b))))
  advanced_three g h =
      let p = suc-mul a n in
      let q = suc-mul b n in
      let e : 3 * n ≡ n + (n + n) = omega arith in
      rw (three_slots n v a, three_slots n w b, e)
      (advanced-append n (n + n) c _ _ _ _ (length_slot n a v (omega arith)) (length_slot n b w (omega arith))
      ∙ ap (λ (x : List Float). advanced_of n c (slots n v a) (slots n w b) ++ x) (advanced-append n n c _ _ _ _ (length_slot n (suc a) v (omega arith)) (length_slot n (suc b) w (omega arith))))

  pub advanced_by_sum_three : (d : ℕ) → a * n + 3 * n ≤ length v → b * n + 3 * n ≤ length w → d * n + 3 * n ≤ length w
      → advanced_by_sum (3 * n) c (part (a * n) (3 * n) v) (part (b * n) (3 * n) w) (part (d * n) (3 * n) w)
      ≡ advanced_by_sum n c (slots n v a) (slots n w b) (slots n w d)
      ++ (advanced_by_sum n c (slots n v (suc a)) (slots n w (suc b)) (slots n w (suc d)) ++ advanced_by_sum n c (slots n v (suc (suc a))) (slots n w (suc (suc b))) (slots n w (suc (suc d))))
  advanced_by_sum_three d g h i =
      let p = suc-mul a n in
      let q = suc-mul b n in
      let r = suc-mul d n in
      let e : 3 * n ≡ n + (n + n) = omega arith in
      rw (three_slots n v a, three_slots n w b, three_slots n w d, e)
      (advanced_by_sum-append n (n + n) c _ _ _ _ _ _ (length_slot n a v (omega arith)) (length_slot n b w (omega arith)) (length_slot n d w (omega arith))
      ∙ ap (λ (x : List Float). advanced_by_sum n c (slots n v a) (slots n w b) (slots n w d) ++ x)
      (advanced_by_sum-append n n c _ _ _ _ _ _ (length_slot n (suc a) v (omega arith)) (length_slot n (suc b) w (omega arith)) (length_slot n (suc d) w (omega arith))))
