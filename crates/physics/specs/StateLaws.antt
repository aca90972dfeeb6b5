-- Laws of `lay_out` and `state_in`: what is laid out is read back, whole and vector by vector. Only these know at which offset a vector stands.
use Rattle.std.specs.Prelude.{◌≡◌, ℕ, zero, suc, ◌+◌, ◌*◌, ◌<◌, ◌≤◌, List, [], ◌∷◌, ◌++◌, length, take, drop, slice_index_or, Float}
use Rattle.std.proofs.Math.Path.{refl, ap}
use Rattle.std.proofs.Common.{sym, ◌∙◌, append-nil, suc-add, le_of_suc-le-suc, not-suc-le-zero, mul-le-mul_right, drop-drop, take-take, take_at, length-take-le}
use Rattle.std.proofs.Math.Nat.{suc-mul}
use native.Mathlib.Omega.{arith}
use Rattle.std.proofs.Math.ListN.{length-append}
use Rattle.std.proofs.Math.Seq.{take-add, take-nil, drop-append-add}
use Rattle.std.specs.Float.{nan}
use Rattle.vectors.specs.Memory.{tab_from, tab, part, put}
use Rattle.vectors.specs.MemoryLaws.{get_d_tab, length_part, part_of_put}
use Rattle.physics.specs.State.{State, lay_out, vector_of, state_in}

-- each of the eight vectors has n numbers
pub record Sized (n : ℕ) (s : State) : Type 0 where
  pub field : length s.field ≡ n
  pub conj_momentum : length s.conj_momentum ≡ n
  pub alternate_mass : length s.alternate_mass ≡ n
  pub energy_density : length s.energy_density ≡ n
  pub mass : length s.mass ≡ n
  pub radial_factor : length s.radial_factor ≡ n
  pub lapse : length s.lapse ≡ n
  pub char_speed : length s.char_speed ≡ n

-- ---- vectors of one length, one after another
joined : List (List Float) → List Float
joined [] = []
joined (xs ∷ more) = xs ++ joined more

-- each has n numbers
data EachOf (n : ℕ) : List (List Float) → Type 0 where
  none : EachOf n []
  also : {xs : List Float} {more : List (List Float)} → length xs ≡ n → EachOf n more → EachOf n (xs ∷ more)

module _ (n : ℕ) where
  length_at : (vectors : List (List Float)) → EachOf n vectors → (k : ℕ) → k < length vectors → length (slice_index_or vectors k []) ≡ n
  length_at [] none k h = absurd (not-suc-le-zero h)
  length_at (xs ∷ more) (also l e) zero h = l
  length_at (xs ∷ more) (also l e) (suc k) h = length_at more e k (le_of_suc-le-suc h)

  length_joined : (vectors : List (List Float)) → EachOf n vectors → length (joined vectors) ≡ length vectors * n
  unfolding joined
  length_joined [] none = omega arith
  length_joined (xs ∷ more) (also l e) = length-append xs (joined more) ∙ omega (arith, length_joined more e, suc-mul (length more) n)

  part_joined : (vectors : List (List Float)) → EachOf n vectors → (k : ℕ) → k < length vectors → part (k * n) n (joined vectors) ≡ slice_index_or vectors k []
  unfolding joined part
  part_joined [] none k h = absurd (not-suc-le-zero h)
  part_joined (xs ∷ more) (also l e) zero h = let z : 0 * n ≡ 0 = omega arith in rw z (take_at xs (joined more) n l)
  part_joined (xs ∷ more) (also l e) (suc k) h =
      let p : suc k * n ≡ length xs + k * n = omega (arith, suc-mul k n) in
      rw (p, drop-append-add xs (joined more) (k * n)) (part_joined more e k (le_of_suc-le-suc h))

  -- m vectors of a memory from vector k on
  joined_parts : (memory : List Float) (k m : ℕ) → joined (tab_from k m (λ j. part (j * n) n memory)) ≡ take (m * n) (drop (k * n) memory)
  unfolding joined tab_from part
  joined_parts memory k zero = let z : 0 * n ≡ 0 = omega arith in rw z
  joined_parts memory k (suc m) =
      let p : suc m * n ≡ n + m * n = omega (arith, suc-mul m n) in
      let q : suc k * n ≡ k * n + n = suc-mul k n in
      rw (p, take-add n (m * n) (drop (k * n) memory), joined_parts memory (suc k) m, q, drop-drop)

-- ---- a state's vectors
vectors : State → List (List Float)
vectors s = s.field ∷ s.conj_momentum ∷ s.alternate_mass ∷ s.energy_density ∷ s.mass ∷ s.radial_factor ∷ s.lapse ∷ s.char_speed ∷ []

lay_out_joined : (s : State) → lay_out s ≡ joined (vectors s)
unfolding lay_out vectors joined
lay_out_joined s = rw (append-nil s.char_speed)

each_sized : {n : ℕ} {s : State} → Sized n s → EachOf n (vectors s)
unfolding vectors
each_sized z =
    also z.field (also z.conj_momentum (also z.alternate_mass (also z.energy_density
    (also z.mass (also z.radial_factor (also z.lapse (also z.char_speed none)))))))

of_vectors : Float → (ℕ → List Float) → State
of_vectors time v =
    record { time = time; field = v 0; conj_momentum = v 1; alternate_mass = v 2; energy_density = v 3; mass = v 4; radial_factor = v 5; lapse = v 6; char_speed = v 7 }

-- a state is its time and its eight vectors
pub same_state : (s t : State) → s.time ≡ t.time → ((k : ℕ) → k < 8 → vector_of s k ≡ vector_of t k) → s ≡ t
unfolding vector_of of_vectors
same_state s t e f =
    let same : of_vectors s.time (vector_of s) ≡ of_vectors t.time (vector_of t) =
    cc (f 0 (omega arith), f 1 (omega arith), f 2 (omega arith), f 3 (omega arith), f 4 (omega arith), f 5 (omega arith), f 6 (omega arith), f 7 (omega arith)) in
    same

module _ (n : ℕ) (time : Float) (memory : List Float) where
  pub vector_state_in : (k : ℕ) → k < 8 → vector_of (state_in n time memory) k ≡ part (k * n) n memory
  unfolding state_in vector_of tab tab_from
  vector_state_in k h = get_d_tab 8 (λ j. part (j * n) n memory) k [] h

  pub lay_out-state_in : lay_out (state_in n time memory) ≡ take (8 * n) memory
  unfolding state_in vectors tab_from
  lay_out-state_in =
      let o : 0 * n ≡ 0 = omega arith in
      lay_out_joined (state_in n time memory) ∙ joined_parts n memory 0 8 ∙ rw o

  pub sized_state_in : 8 * n ≤ length memory → Sized n (state_in n time memory)
  unfolding state_in
  sized_state_in h =
      record {
        field = length_part (0 * n) n memory (omega arith);
        conj_momentum = length_part (1 * n) n memory (omega arith);
        alternate_mass = length_part (2 * n) n memory (omega arith);
        energy_density = length_part (3 * n) n memory (omega arith);
        mass = length_part (4 * n) n memory (omega arith);
        radial_factor = length_part (5 * n) n memory (omega arith);
        lapse = length_part (6 * n) n memory (omega arith);
        char_speed = length_part (7 * n) n memory (omega arith);
      }

module _ {n : ℕ} {s : State} (z : Sized n s) where
  pub length_vector : (k : ℕ) → k < 8 → length (vector_of s k) ≡ n
  unfolding vector_of vectors
  length_vector k h = length_at n (vectors s) (each_sized z) k h

  pub length-lay_out : length (lay_out s) ≡ 8 * n
  unfolding vectors
  length-lay_out = ap length (lay_out_joined s) ∙ length_joined n (vectors s) (each_sized z)

  pub part-lay_out : (k : ℕ) → k < 8 → part (k * n) n (lay_out s) ≡ vector_of s k
  unfolding vector_of vectors
  part-lay_out k h = ap (part (k * n) n) (lay_out_joined s) ∙ part_joined n (vectors s) (each_sized z) k h

  pub state_in-lay_out : state_in n s.time (lay_out s) ≡ s
  unfolding state_in
  state_in-lay_out = same_state (state_in n s.time (lay_out s)) s refl (λ k h. vector_state_in n s.time (lay_out s) k h ∙ part-lay_out k h)

-- ---- a layout in a longer memory
part-take : (a n m : ℕ) (xs : List Float) → a + n ≤ m → part a n (take m xs) ≡ part a n xs
unfolding part
part-take zero n m xs h = take-take n m xs (omega arith)
part-take (suc a) n m [] h = rw (take-nil m)
part-take (suc a) n zero (x ∷ xs) h = absurd (omega (arith, suc-add a n))
part-take (suc a) n (suc m) (x ∷ xs) h = part-take a n m xs (omega (arith, suc-add a n))

take-put : (m : ℕ) (ys xs : List Float) → length ys ≡ m → take m (put 0 ys xs) ≡ ys
unfolding put
take-put m ys xs e = take_at ys (drop (0 + length ys) xs) m e

-- the first 8n numbers alone say which state a memory holds
pub state_in-take : (n : ℕ) (time : Float) (memory : List Float) → state_in n time (take (8 * n) memory) ≡ state_in n time memory
unfolding state_in
state_in-take n time memory =
    let front = take (8 * n) memory in
    same_state (state_in n time front) (state_in n time memory) refl
    (λ k h. vector_state_in n time front k h
    ∙ part-take (k * n) n (8 * n) memory (omega (arith, suc-mul k n, mul-le-mul_right {m = suc k} n h))
    ∙ sym (vector_state_in n time memory k h))

pub state_in_same : (n : ℕ) (time : Float) (xs ys : List Float) → take (8 * n) xs ≡ take (8 * n) ys → state_in n time xs ≡ state_in n time ys
state_in_same n time xs ys e = sym (state_in-take n time xs) ∙ ap (state_in n time) e ∙ state_in-take n time ys

-- after `store`
pub state_in_stored : (n : ℕ) (time : Float) (from memory : List Float) → 8 * n ≤ length from → state_in n time (put 0 (take (8 * n) from) memory) ≡ state_in n time from
state_in_stored n time from memory h =
    state_in_same n time (put 0 (take (8 * n) from) memory) from (take-put (8 * n) (take (8 * n) from) memory (length-take-le (8 * n) from h))

module _ {n : ℕ} {s : State} (z : Sized n s) (memory : List Float) where
  -- at the front
  pub take-lay_out : take (8 * n) (put 0 (lay_out s) memory) ≡ lay_out s
  take-lay_out = take-put (8 * n) (lay_out s) memory (length-lay_out z)

  pub state_in-put : state_in n s.time (put 0 (lay_out s) memory) ≡ s
  state_in-put = sym (state_in-take n s.time (put 0 (lay_out s) memory)) ∙ ap (state_in n s.time) take-lay_out ∙ state_in-lay_out z

  -- at a place
  pub part-put-lay_out : (at : ℕ) → at + 8 * n ≤ length memory → part at (8 * n) (put at (lay_out s) memory) ≡ lay_out s
  part-put-lay_out at h = part_of_put at (8 * n) (lay_out s) memory nan (length-lay_out z) h

  pub state_in-part : (at : ℕ) → at + 8 * n ≤ length memory → state_in n s.time (part at (8 * n) (put at (lay_out s) memory)) ≡ s
  state_in-part at h = ap (state_in n s.time) (part-put-lay_out at h) ∙ state_in-lay_out z
