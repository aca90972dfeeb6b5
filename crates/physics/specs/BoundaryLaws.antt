-- The boundary values that code stores are those of `bounded_of`.
use Rattle.std.specs.Prelude.{◌≡◌, ℕ, ◌+◌, ◌-◌, ◌<◌, ◌≤◌, List, length, ◌==◌, slice_set, refl, Float}
use Rattle.std.proofs.Common.{sym, ap, ◌∙◌, inl, inr, arith, eqb-true, length-set, get_or-set_same, get_or-set_other}
use Rattle.std.proofs.lemmas.Bool.{eqb-false}
use Rattle.std.specs.Float.{nan, binary64}
use Rattle.std.specs.Float.Ieee.{of_int, of_bits}
use Rattle.vectors.specs.Memory.{part, put}
use Rattle.vectors.specs.MemoryLaws.{by_cases, is_put, length_part, get_d_part, length-put, get_d_put_below, get_d_put_in, get_d_put_above}
use Rattle.vectors.specs.Stencil.{neumann_of, with_left_neumann}
use Rattle.physics.specs.Equations.{bounded_of}

pub length-bounded_of : (xs : List Float) → length (bounded_of xs) ≡ length xs
unfolding bounded_of
length-bounded_of xs = length-set (with_left_neumann xs) _ _ ∙ length-set xs 0 _

-- a store into a part
put-part_same : (m n : ℕ) (w : List Float) → m + n ≤ length w → put m (part m n w) w ≡ w
put-part_same m n w h =
    let l = length_part m n w h in
    sym (is_put m (part m n w) w w nan (omega arith) refl (λ k p. refl) (λ j p. sym (get_d_part m n w j nan (omega arith))) (λ k p. refl))

put_set : (m k : ℕ) (ys w : List Float) (v : Float) → k < length ys → m + length ys ≤ length w → slice_set (put m ys w) (m + k) v ≡ put m (slice_set ys k v) w
put_set m k ys w v b h =
    let l = length-set ys k v in
    let long = length-put m ys w h in
    is_put m (slice_set ys k v) w _ nan (omega arith) (length-set (put m ys w) (m + k) v ∙ long)
    (λ j p. get_or-set_other (put m ys w) (m + k) j v nan (λ e. omega arith) ∙ get_d_put_below m ys w j nan h p)
    (λ j p. elim (by_cases (j == k) (eqb-true j k) (eqb-false j k)) [
      | inl e ↦ rw e (get_or-set_same (put m ys w) (m + k) v nan (omega arith) ∙ sym (get_or-set_same ys k v nan b))
      | inr d ↦
          get_or-set_other (put m ys w) (m + k) (m + j) v nan (λ e. d (omega arith)) ∙ get_d_put_in m ys w j nan h (omega arith) ∙ sym (get_or-set_other ys k j v nan d)
    ])
    (λ j p. get_or-set_other (put m ys w) (m + k) j v nan (λ e. omega arith) ∙ get_d_put_above m ys w j nan h (omega arith))

-- the two stores of `set_bcs`
pub bounded_put : (m n : ℕ) (w : List Float) (left : Float) → 2 ≤ n → m + n ≤ length w → left ≡ neumann_of (part m n w)
    → slice_set (slice_set w m left) (m + (n - 1)) (of_bits binary64 0) ≡ put m (bounded_of (part m n w)) w
unfolding bounded_of of_bits of_int
bounded_put m n w left b h e =
    let xs = part m n w in
    let l = length_part m n w h in
    let z : m ≡ m + 0 = omega arith in
    let last : n - 1 ≡ length xs - 1 = omega arith in
    let one : slice_set w m left ≡ put m (slice_set xs 0 left) w =
    ap (λ (k : ℕ). slice_set w k left) z ∙ ap (λ (v : List Float). slice_set v (m + 0) left) (sym (put-part_same m n w h)) ∙ put_set m 0 xs w left (omega arith) (omega arith) in
    let long = length-set xs 0 left in
    ap (λ (v : List Float). slice_set v (m + (n - 1)) (of_bits binary64 0)) one ∙ put_set m (n - 1) (slice_set xs 0 left) w (of_bits binary64 0) (omega arith) (omega arith) ∙ rw (last, e)
