-- Work memory as slots of n numbers: slot k is what stands from k n on. A pass turns the slots by a function; passes in a row turn them by the functions in a row.
use Rattle.std.specs.Prelude.{◌≡◌, ℕ, suc, ◌+◌, ◌-◌, ◌*◌, ◌<◌, ◌≤◌, true, false, cond, List, map, ◌++◌, length, get_or, take, drop, ◌==◌, slice_index_or, refl, Float}
use Rattle.std.proofs.Common.{sym, ap, ◌∙◌, inl, inr, mul-le-mul_right, suc-mul, add-zero, arith, eqb-true, eq-eqb, append_assoc, drop-drop}
use Rattle.std.specs.Float.Ieee.{nan}
use borrow.Rule.Slice.PartMut.{put_mid}
use Rattle.std.proofs.lemmas.Bool.{eqb-false}
use Rattle.std.proofs.lemmas.List.{length-map, drop-take, take-take, take-append-drop}
use Rattle.vectors.specs.Memory.{part, put, tab}
use Rattle.vectors.specs.MemoryLaws.{apart, by_cases, side, part_of_put, part_past-put, length-put_is, length_part, apart_left, apart_right, get_d_part, length_tab, Filled, filled_at, filled_mine, filled_part, Grown, grown_put, lent, back}
use Rattle.physics.specs.Fills.{Filled2, filled2_none, filled2_at, filled2_mine, filled2_put, Grown2}

abbrev pub Slots : Type 0
Slots = ℕ → List Float

unfoldable pub slots : ℕ → List Float → Slots
slots n w k = part (k * n) n w

-- slot k holds ys, the others what they held
abbrev pub upd : ℕ → List Float → Slots → Slots
upd k ys S j = cond (j == k) ys (S j)

-- w' is as long as w, and has its slots turned by f
pub record Became (n : ℕ) (f : Slots → Slots) (w w' : List Float) : Type 0 where
  pub long : length w' ≡ length w
  pub holds : slots n w' ≡ f (slots n w)

-- two passes
pub both : {n : ℕ} {f g : Slots → Slots} {w w' w'' : List Float} → Became n f w w' → Became n g w' w'' → Became n (λ S. g (f S)) w w''
both {g = g} F G = record { long = G.long ∙ F.long; holds = G.holds ∙ ap g F.holds }

-- the same pass by another name
pub known : {n : ℕ} {f g : Slots → Slots} {w w' : List Float} → ((S : Slots) (k : ℕ) → f S k ≡ g S k) → Became n f w w' → Became n g w w'
known {n} {f} {g} {w} e F = record { long = F.long; holds = F.holds ∙ (λ i k. e (slots n w) k i) }

pub times_less : (j k n : ℕ) → j < k → j * n + n ≤ k * n
times_less j k n h = omega (arith, mul-le-mul_right {m = suc j} {n = k} n h, suc-mul j n)

-- two slots lie apart: `refl` where their numbers are written out
pub slots_apart : (n a b : ℕ) → (b == a) ≡ false → apart (a * n) n (b * n) n ≡ true
slots_apart n a b e = elim (side b a) [
  | inl h ↦ apart_right (a * n) n (b * n) n (times_less b a n h)
  | inr h ↦ apart_left (a * n) n (b * n) n (times_less a b n (omega (arith, eqb-false b a e)))
]

slot_put : (n k : ℕ) (ys w : List Float) → length ys ≡ n → k * n + n ≤ length w → (j : ℕ) → slots n (put (k * n) ys w) j ≡ upd k ys (slots n w) j
unfolding slots
slot_put n k ys w l h j = elim (by_cases (j == k) (eqb-true j k) (λ f. f)) [
  | inl e ↦ rw (e, eq-eqb k k refl) (part_of_put (k * n) n ys w nan l h)
  | inr f ↦ rw f (part_past-put (k * n) n ys w (j * n) n nan l h (slots_apart n k j f))
]

-- a pass that wrote one slot, of what the slots held
pub wrote : (n k : ℕ) (g : Slots → List Float) (w w' : List Float) → length (g (slots n w)) ≡ n → k * n + n ≤ length w → w' ≡ put (k * n) (g (slots n w)) w → Became n (λ S. upd k (g S) S) w w'
wrote n k g w w' l h e =
    let ys = g (slots n w) in
    record { long = ap length e ∙ length-put_is (k * n) n ys w l h; holds = ap (slots n) e ∙ (λ i j. slot_put n k ys w l h j i) }

-- a pass that wrote two
pub wrote2 : (n a b : ℕ) (f g : Slots → List Float) (w w' : List Float) → length (f (slots n w)) ≡ n → length (g (slots n w)) ≡ n → a * n + n ≤ length w → b * n + n ≤ length w
    → w' ≡ put (b * n) (g (slots n w)) (put (a * n) (f (slots n w)) w) → Became n (λ S. upd b (g S) (upd a (f S) S)) w w'
wrote2 n a b f g w w' l m h k e =
    let xs = f (slots n w) in
    let ys = g (slots n w) in
    let v = put (a * n) xs w in
    let q : length v ≡ length w = length-put_is (a * n) n xs w l h in
    let k' : b * n + n ≤ length v = rw q k in
    record {
      long = ap length e ∙ length-put_is (b * n) n ys v m k' ∙ q;
      holds = ap (slots n) e ∙ (λ i j. slot_put n b ys v m k' j i) ∙ ap (λ (S : Slots). upd b ys S) (λ i j. slot_put n a xs w l h j i);
    }

-- a pass whose loop filled one slot, and one whose loop filled two
pub grown_slot : {n i : ℕ} {w w' : List Float} (a : ℕ) (f : Slots → ℕ → Float) → Grown (a * n) 0 i (λ E. f (slots n E)) w w' → i ≡ n → a * n + n ≤ length w → Became n (λ S. upd a (tab n (f S)) S) w w'
grown_slot {n} {i} {w} {w'} a f G e h =
    wrote n a (λ S. tab n (f S)) w w' (length_tab n _) h (grown_put n nan G e h)

pub grown_slots : {n i : ℕ} {w w' : List Float} (a b : ℕ) (f g : Slots → ℕ → Float) → Grown2 (a * n) (b * n) 0 i (λ E. f (slots n E)) (λ E. g (slots n E)) w w' → i ≡ n → a * n + n ≤ length w → b * n + n ≤ length w
    → Became n (λ S. upd b (tab n (g S)) (upd a (tab n (f S)) S)) w w'
grown_slots {n} {i} {w} {w'} a b f g G e h k =
    wrote2 n a b (λ S. tab n (f S)) (λ S. tab n (g S)) w w' (length_tab n _) (length_tab n _) h k (filled2_put n nan (G.grow w (filled2_none _ _ _ _ w)) e h k)

-- what a loop that fills slot a, or slots a and b, reads of another slot k
module _ (n : ℕ) {i : ℕ} {E xs : List Float} where
  pub reads : {g : ℕ → Float} (a k j : ℕ) → Filled (a * n) i g E xs → i ≤ n → (k == a) ≡ false → j < n → slice_index_or xs (k * n + j) nan ≡ slice_index_or (slots n E k) j nan
  unfolding slots
  reads a k j F h e l = filled_at n (k * n) n j nan F h (slots_apart n a k e) l

  pub reads2 : {f g : ℕ → Float} (a b k j : ℕ) → Filled2 (a * n) (b * n) i f g E xs → i ≤ n → (k == a) ≡ false → (k == b) ≡ false → j < n → slice_index_or xs (k * n + j) nan ≡ slice_index_or (slots n E k) j nan
  unfolding slots
  reads2 a b k j F h p q l = filled2_at n (k * n) n j nan F h (slots_apart n a k p) (slots_apart n b k q) l

  -- at the point that is written next
  pub reads2_next : {f g : ℕ → Float} (a b k : ℕ) → Filled2 (a * n) (b * n) i f g E xs → i < n → (k == a) ≡ false → (k == b) ≡ false → slice_index_or xs (k * n + i) nan ≡ slice_index_or (slots n E k) i nan
  reads2_next a b k F h p q = reads2 a b k i F (omega arith) p q h

  -- of its own slot a, what is written next
  pub mine : {g : ℕ → Float} (a : ℕ) → Filled (a * n) i g E xs → i < n → slice_index_or xs (a * n + i) nan ≡ slice_index_or (slots n E a) i nan
  unfolding slots
  mine a F h = filled_mine n nan F h

  pub mine2 : {f g : ℕ → Float} (a b : ℕ) → Filled2 (a * n) (b * n) i f g E xs → i < n → (a == b) ≡ false → slice_index_or xs (a * n + i) nan ≡ slice_index_or (slots n E a) i nan
  unfolding slots
  mine2 a b F h e = filled2_mine n nan F h (slots_apart n b a e)

-- what stands in a slot
pub slot_is : (n k j : ℕ) (w : List Float) → j < n → slice_index_or w (k * n + j) nan ≡ slice_index_or (slots n w k) j nan
unfolding slots
slot_is n k j w h = sym (get_d_part (k * n) n w j nan h)

pub slot_start : (n k : ℕ) (w : List Float) → 1 ≤ n → slice_index_or w (k * n) nan ≡ slice_index_or (slots n w k) 0 nan
slot_start n k w h = ap (λ (j : ℕ). get_or w j nan) (sym (add-zero (k * n))) ∙ slot_is n k 0 w h

pub length_slot : (n k : ℕ) (w : List Float) → k * n + n ≤ length w → length (slots n w k) ≡ n
unfolding slots
length_slot n k w h = length_part (k * n) n w h

-- a slot lent, `&w[k n..e]`
pub lent_slot : (n k e : ℕ) (w : List Float) → e ≡ k * n + n → take (e - k * n) (drop (k * n) w) ≡ slots n w k
unfolding slots
lent_slot n k e w h = lent (k * n) e n w h

-- a slot lent, `&mut w[k n..e]`, that came back holding zs
pub wrote_back : (n k e : ℕ) (g : List Float → List Float) (w zs : List Float) → zs ≡ g (slots n w k) → ((xs : List Float) → length (g xs) ≡ length xs) → k * n + n ≤ length w → e ≡ k * n + n
    → Became n (λ S. upd k (g (S k)) S) w (put_mid (k * n) (e - k * n) w zs)
wrote_back n k e g w zs q l h p =
    let m : length (g (slots n w k)) ≡ n = l (slots n w k) ∙ length_slot n k w h in
    wrote n k (λ S. g (S k)) w _ m h (back (k * n) e (g (slots n w k)) zs w q (omega arith))

-- each number of which came back as f of it
pub wrote_map : (n k e : ℕ) (f : Float → Float) (w zs : List Float) → zs ≡ map f (take (e - k * n) (drop (k * n) w)) → k * n + n ≤ length w → e ≡ k * n + n
    → Became n (λ S. upd k (map f (S k)) S) w (put_mid (k * n) (e - k * n) w zs)
wrote_map n k e f w zs q h p = wrote_back n k e (map f) w zs (q ∙ ap (map f) (lent_slot n k e w p)) (λ xs. length-map xs f) h p

module _ (n : ℕ) {i : ℕ} {E xs : List Float} where
  pub lends : {g : ℕ → Float} (a k e : ℕ) → Filled (a * n) i g E xs → i ≤ n → (k == a) ≡ false → e ≡ k * n + n → take (e - k * n) (drop (k * n) xs) ≡ slots n E k
  unfolding slots
  lends a k e F h p q = lent (k * n) e n xs q ∙ filled_part n (k * n) n nan F h (slots_apart n a k p)

-- a part of what stands before m
pub part_before : (m from n : ℕ) (w : List Float) → from + n ≤ m → part from n (take m w) ≡ part from n w
unfolding part
part_before m from n w h =
    let e : from + (m - from) ≡ m = omega arith in
    let short = rw e at (drop-take from (m - from) w) in
    rw short (take-take n (m - from) (drop from w) (omega arith))

-- the same part, lent
pub lent_before : (m from n : ℕ) (front w : List Float) → front ≡ take m w → from + n ≤ m → take (from + n - from) (drop from front) ≡ part from n w
lent_before m from n front w e h = lent from (from + n) n front refl ∙ ap (part from n) e ∙ part_before m from n w h

-- a part put before m
pub put_before : (m to : ℕ) (ys w : List Float) → to + length ys ≤ m → put to ys (take m w) ++ drop m w ≡ put to ys w
unfolding put
put_before m to ys w h =
    let k = to + length ys in
    let e : k + (m - k) ≡ m = omega arith in
    let short = rw e at (drop-take k (m - k) w) in
    let rest = rw e at (drop-drop (m - k) k w) in
    simp (append_assoc, take-take to m w (omega arith), short, sym rest, take-append-drop (m - k) (drop k w))

-- the n numbers from to on, lent as the first of what stands there, that came back as ys
pub put_after : (to n : ℕ) (ys w : List Float) → length ys ≡ n → take to w ++ (ys ++ drop n (drop to w)) ≡ put to ys w
unfolding put
put_after to n ys w l = rw (l, drop-drop)

-- a slot lent, and the n numbers of a later one, that came back as what g makes of it
pub wrote_after : (n from to : ℕ) (g : List Float → List Float) (w front back zs : List Float) → front ≡ take (to * n) w → back ≡ drop (to * n) w → zs ≡ g (take (from * n + n - from * n) (drop (from * n) front))
    → ((xs : List Float) → length (g xs) ≡ length xs) → from * n + n ≤ to * n → to * n + n ≤ length w → Became n (λ S. upd to (g (S from)) S) w (front ++ (zs ++ drop n back))
unfolding slots
wrote_after n from to g w front back zs p q made same a b =
    let long = same (part (from * n) n w) ∙ length_part (from * n) n w (omega arith) in
    let is = made ∙ ap g (lent_before (to * n) (from * n) n front w p a) in
    wrote n to (λ S. g (S from)) w _ long b (rw (p, q, is) (put_after (to * n) n _ w long))
