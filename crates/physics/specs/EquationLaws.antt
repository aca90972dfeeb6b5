-- The passes of the equations of motion make the rates that `equations_of` defines.
use Rattle.std.specs.Prelude.{◌≡◌, ℕ, ◌+◌, ◌-◌, ◌<◌, ◌≤◌, Bool, true, false, cond, List, length, take, drop, ◌==◌, Float}
use Rattle.std.proofs.Math.Path.{refl}
use Rattle.std.proofs.Common.{sym, ap, ◌∙◌, arith}
use Rattle.std.specs.Float.{nan, binary64}
use Rattle.std.specs.Float.Ieee.{div, add}
use Rattle.vectors.specs.Dissipation.{radial_correction_of, half_dissipation_at, half_dissipation_of, dissipation_scale, dissipation_at}
use Rattle.vectors.specs.Grid.{points_of, spacing_of, point_of}
use Rattle.vectors.specs.Memory.{tab, part, put}
use Rattle.vectors.specs.MemoryLaws.{length_tab, Filled, Grown, filled_none, filled_put, apart, get_d_tab, filled_part, lent, length_part}
use Rattle.vectors.specs.RowSums.{hollow_sum}
use Rattle.vectors.specs.Stencil.{diff2_of, diff3_at, diff3_row}
use Rattle.vectors.specs.StencilLaws.{Window, window_left, window_inner, window_right, diff3_by, eight}
use Rattle.physics.specs.Equations.{dt_field_of, dt_conj_momentum_of, dt_alternate_mass_of}
use Rattle.physics.specs.Constraints.{radial_gradient_of}
use Rattle.physics.specs.SlotNumbers.{field_slot, momentum_slot, radial_factor_slot, lapse_slot, char_speed_slot, gradient_slot, scratch_slot, half_field_slot, half_momentum_slot, dt_field_slot, dt_momentum_slot, dt_mass_slot, points_slot, correction_slot}
use Rattle.physics.specs.Slots.{Slots, upd}
use Rattle.physics.specs.Vector.{at}
use Rattle.physics.specs.VectorLaws.{tab_same}
use Rattle.physics.specs.Passes.{Run, half_val, half_on, halves, seconds, field_rate_val, momentum_rate_val, mass_rate_val, rates, derivatives, damping_val, dampings, field_rate_in, momentum_rate_in, field_rates, momentum_rates, mass_rates}

-- three runs over the points
pub runs_put : (n at : ℕ) (g : List Float → ℕ → Float) (w w₁ w₂ w₃ : List Float) → at + n ≤ length w → Grown at 0 3 g w w₁ → Grown at 3 (n - 3) g w₁ w₂ → Grown at (n - 3) n g w₂ w₃
    → w₃ ≡ put at (tab n (g w)) w
runs_put n at g w w₁ w₂ w₃ h A B C = filled_put nan (C.grow w (B.grow w (A.grow w (filled_none at (g w) w)))) h

pub run_left : (n lo : ℕ) → 9 ≤ n → lo ≤ 3 → Run n lo 3 0
run_left n lo h l = record { order = l; within = omega arith; leftmost = omega arith; windows = λ i a b. window_left n i b }

pub run_inner : (n : ℕ) → 9 ≤ n → Run n 3 (n - 3) 3
run_inner n h = record { order = omega arith; within = omega arith; leftmost = omega arith; windows = λ i a b. window_inner n i a b }

pub run_right : (n : ℕ) → 9 ≤ n → Run n (n - 3) n 6
run_right n h = record { order = omega arith; within = omega arith; leftmost = omega arith; windows = λ i a b. window_right n i h a b }

pub half_tab : (c : ℕ → Float) (xs : List Float) (n : ℕ) → length xs ≡ n → tab n (half_val c xs) ≡ half_on c xs
unfolding half_on
half_tab c xs n l = rw l

pub length-half_on : (c : ℕ → Float) (xs : List Float) → length (half_on c xs) ≡ length xs
unfolding half_on
length-half_on c xs = length_tab (length xs) (half_val c xs)

-- a third difference that code takes over a part from from on that it lends while it fills the part from to on, in memory xs that was E
pub third_in : {i to : ℕ} {E xs : List Float} {g : ℕ → Float} {r : Float} (n from back : ℕ) → Filled to i g E xs → i < n → apart to n from n ≡ true → from + n ≤ length xs → Window n i back
    → r ≡ hollow_sum diff3_row.weights (take (from + n - from) (drop from xs)) (i - back) → div binary64 r eight ≡ diff3_at (part from n E) i
third_in {i} {xs = xs} n from back F l far h W q =
    let same = filled_part n from n nan F (omega arith) far in
    let long = ap length (sym same) ∙ length_part from n xs h in
    diff3_by _ _ (lent from (from + n) n xs refl ∙ same) i back (rw long W) q

-- the passes of the rates
pub rate_passes : (n : ℕ) (scale : Float) (S : Slots) (k : ℕ) → mass_rates n (momentum_rates n (field_rates n (dampings n scale S))) k ≡ rates n scale S k
rate_passes n scale S k = go _ _ _ _ _ _ _ _ field momentum (k == dt_mass_slot) (k == dt_momentum_slot) (k == dt_field_slot)
  where
    field : tab n (field_rate_in (dampings n scale S)) ≡ tab n (field_rate_val scale (S char_speed_slot) (S momentum_slot) (S half_field_slot))
    field = tab_same n _ _ (λ j l. ap (add binary64 _) (get_d_tab n (damping_val scale (S half_field_slot)) j nan l))

    momentum : tab n (momentum_rate_in (field_rates n (dampings n scale S))) ≡ tab n (momentum_rate_val (at (S points_slot)) scale (S char_speed_slot) (S scratch_slot) (S radial_factor_slot) (S gradient_slot) (S lapse_slot) (S half_momentum_slot))
    momentum = tab_same n _ _ (λ j l. ap (add binary64 _) (get_d_tab n (damping_val scale (S half_momentum_slot)) j nan l))

    go : (M P F P' F' D D' C : List Float) → F' ≡ F → P' ≡ P → (b15 b14 b13 : Bool)
        → cond b15 M (cond b14 P' (cond b13 F' (cond b14 D (cond b13 D' C)))) ≡ cond b15 M (cond b14 P (cond b13 F C))
    go M P F P' F' D D' C e f true b14 b13 = refl
    go M P F P' F' D D' C e f false true b13 = f
    go M P F P' F' D D' C e f false false true = e
    go M P F P' F' D D' C e f false false false = refl

-- the passes of the equations of motion on n points with spacing h, r i the coordinate of point i, c i the radial correction there, gradient that of the field
unfoldable derivatives_on : ℕ → Float → (ℕ → Float) → (ℕ → Float) → List Float → Slots → Slots
derivatives_on n h r c gradient S =
    let scale = dissipation_scale h in
    let second = diff2_of h (S field_slot) in
    upd dt_mass_slot (tab n (mass_rate_val r (S radial_factor_slot) (S lapse_slot) gradient (S momentum_slot)))
    (upd dt_momentum_slot (tab n (momentum_rate_val r scale (S char_speed_slot) second (S radial_factor_slot) gradient (S lapse_slot) (half_on c (S momentum_slot))))
    (upd dt_field_slot (tab n (field_rate_val scale (S char_speed_slot) (S momentum_slot) (half_on c (S field_slot))))
    (upd scratch_slot second (upd half_momentum_slot (half_on c (S momentum_slot)) (upd half_field_slot (half_on c (S field_slot)) S)))))

module _ (level : ℕ) (S : Slots) where
  derivatives_by : derivatives_on (points_of level) (spacing_of level) (point_of level) (λ i. radial_correction_of (point_of level i)) (radial_gradient_of level (S field_slot)) S ≡ derivatives level S
  unfolding derivatives_on half_on dt_field_of dt_conj_momentum_of dt_alternate_mass_of dissipation_at half_dissipation_of half_dissipation_at
  derivatives_by = refl

  derivatives_on_lem : (n : ℕ) (h : Float) → rates n (dissipation_scale h) (seconds h (halves S)) ≡ derivatives_on n h (at (S points_slot)) (at (S correction_slot)) (S gradient_slot) S
  unfolding derivatives_on
  derivatives_on_lem n h = refl

  pub derivatives_are : (n : ℕ) (h scale : Float) → n ≡ points_of level → h ≡ spacing_of level → scale ≡ dissipation_scale h → at (S points_slot) ≡ point_of level
      → at (S correction_slot) ≡ (λ i. radial_correction_of (point_of level i)) → S gradient_slot ≡ radial_gradient_of level (S field_slot) → rates n scale (seconds h (halves S)) ≡ derivatives level S
  derivatives_are n h scale p q s e f g =
      let known : derivatives_on n h (at (S points_slot)) (at (S correction_slot)) (S gradient_slot) S
      ≡ derivatives_on (points_of level) (spacing_of level) (point_of level) (λ i. radial_correction_of (point_of level i)) (radial_gradient_of level (S field_slot)) S = cc in
      ap (λ (x : Float). rates n x (seconds h (halves S))) s ∙ derivatives_on_lem n h ∙ known ∙ derivatives_by
