-- The passes of the constraints make the vectors that `constraints_of` defines.
use Rattle.std.specs.Prelude.{◌≡◌, ℕ, ◌-◌, ◌*◌, ◌≤◌, Bool, true, false, cond, List, map, length, ◌==◌, Float}
use Rattle.std.proofs.Math.Path.{refl, ap}
use Rattle.std.proofs.Common.{sym, ◌∙◌, arith}
use Rattle.std.proofs.lemmas.List.{length-map}
use Rattle.std.specs.Float.Ieee.{nan, binary64, mul, div}
use Rattle.vectors.specs.Grid.{points_of, spacing_of, point_of}
use Rattle.vectors.specs.Memory.{tab, put}
use Rattle.vectors.specs.MemoryLaws.{length_tab, get_d_tab}
use Rattle.vectors.specs.Powers.{reciprocal_of}
use Rattle.vectors.specs.Stencil.{diff_of}
use Rattle.physics.specs.Integral.{integral_of}
use Rattle.physics.specs.Constraints.{normalised_of, radial_gradient_of, integrand_of, lapse_of, radial_factor_of, char_speed_of, energy_density_of, mass_of}
use Rattle.physics.specs.SlotNumbers.{field_slot, momentum_slot, energy_density_slot, mass_slot, radial_factor_slot, lapse_slot, char_speed_slot, gradient_slot, scratch_slot, integral_slot, points_slot, slot_count}
use Rattle.physics.specs.Slots.{Slots, slots, upd, Became, wrote2, length_slot}
use Rattle.physics.specs.Vector.{at}
use Rattle.physics.specs.VectorLaws.{tab_same, tab_map, map-map}
use Rattle.physics.specs.Passes.{integrands, log_lapses, exps, normals, lapse_on, lapses, gradients, radial_val, speed_val, energy_val, mass_val, radials, radial_factors, energies, constraints, full_constraints}

-- what the loop of `normals` leaves, where factor is 1 over the last
pub normals_wrote : (n : ℕ) (w w' : List Float) (factor : Float) → factor ≡ reciprocal_of (at (slots n w lapse_slot) (n - 1)) → slot_count * n ≤ length w
    → w' ≡ put (scratch_slot * n) (tab n (λ j. reciprocal_of (mul binary64 factor (at (slots n w lapse_slot) j)))) (put (lapse_slot * n) (tab n (λ j. mul binary64 factor (at (slots n w lapse_slot) j))) w) → Became n normals w w'
unfolding normalised_of
normals_wrote n w w' factor e h p =
    let xs = slots n w lapse_slot in
    let l : length xs ≡ n = length_slot n lapse_slot w (omega arith) in
    let k : factor ≡ reciprocal_of (at xs (length xs - 1)) = rw l e in
    let f : tab n (λ j. mul binary64 factor (at xs j)) ≡ normalised_of xs = tab_map n (mul binary64 factor) xs l ∙ rw k in
    let g : tab n (λ j. reciprocal_of (mul binary64 factor (at xs j))) ≡ map reciprocal_of (normalised_of xs) =
    tab_map n (λ x. reciprocal_of (mul binary64 factor x)) xs l ∙ map-map reciprocal_of (mul binary64 factor) xs ∙ rw k in
    let m : length (normalised_of xs) ≡ n = length-map xs _ ∙ l in
    wrote2 n lapse_slot scratch_slot (λ S. normalised_of (S lapse_slot)) (λ S. map reciprocal_of (normalised_of (S lapse_slot))) w w' m (length-map (normalised_of xs) _ ∙ m) (omega arith) (omega arith) (rw (f, g) at p)

-- what the loop of `radials` leaves, where integral₀ is entry 0 of the integral
pub radials_wrote : (n : ℕ) (w w' : List Float) (integral₀ : Float) → integral₀ ≡ at (slots n w integral_slot) 0 → slot_count * n ≤ length w
    → w' ≡ put (char_speed_slot * n) (tab n (speed_val (at (slots n w points_slot)) (slots n w lapse_slot) (slots n w integral_slot) integral₀)) (put (radial_factor_slot * n) (tab n (radial_val (at (slots n w points_slot)) (slots n w lapse_slot) (slots n w integral_slot) integral₀)) w) → Became n (radials n) w w'
radials_wrote n w w' integral₀ e h p =
    wrote2 n radial_factor_slot char_speed_slot (λ S. tab n (radial_val (at (S points_slot)) (S lapse_slot) (S integral_slot) (at (S integral_slot) 0))) (λ S. tab n (speed_val (at (S points_slot)) (S lapse_slot) (S integral_slot) (at (S integral_slot) 0))) w w' (length_tab n _) (length_tab n _) (omega arith) (omega arith) (rw e at p)

-- the four passes of the lapse
pub lapse_passes : (n : ℕ) (h : Float) (S : Slots) (k : ℕ) → normals (exps (log_lapses h (integrands n S))) k ≡ lapses n h S k
lapse_passes n h S k = go _ _ _ _ _ _ (k == scratch_slot) (k == lapse_slot)
  where
    go : (A B B' B'' A' C : List Float) (b9 b6 : Bool) → cond b9 A (cond b6 B (cond b6 B' (cond b6 B'' (cond b9 A' C)))) ≡ cond b9 A (cond b6 B C)
    go A B B' B'' A' C true b6 = refl
    go A B B' B'' A' C false true = refl
    go A B B' B'' A' C false false = refl

-- the passes of the constraints on n points with spacing h, r i the coordinate of point i
unfoldable constraints_on : ℕ → Float → (ℕ → Float) → Slots → Slots
constraints_on n h r S =
    let gradient = diff_of h (S field_slot) in
    let lapse = lapse_on n h r gradient (S momentum_slot) in
    let integral = integral_of h (map reciprocal_of lapse) in
    upd char_speed_slot (tab n (speed_val r lapse integral (at integral 0)))
    (upd radial_factor_slot (tab n (radial_val r lapse integral (at integral 0)))
    (upd integral_slot integral (upd scratch_slot (map reciprocal_of lapse) (upd lapse_slot lapse (upd gradient_slot gradient S)))))

unfoldable energies_on : ℕ → (ℕ → Float) → Slots → Slots
energies_on n r S = upd mass_slot (tab n (mass_val r (S radial_factor_slot))) (upd energy_density_slot (tab n (energy_val r (S gradient_slot) (S momentum_slot))) S)

module _ (level : ℕ) (S : Slots) where
  constraints_by : constraints_on (points_of level) (spacing_of level) (point_of level) S ≡ constraints level S
  unfolding constraints_on lapse_of integrand_of radial_gradient_of radial_factor_of char_speed_of
  constraints_by =
      let n = points_of level in
      let lapse = lapse_of level (radial_gradient_of level (S field_slot)) (S momentum_slot) in
      let integral = integral_of (spacing_of level) (map reciprocal_of lapse) in
      let value = radial_val (point_of level) lapse integral (at integral 0) in
      let speed : tab n (speed_val (point_of level) lapse integral (at integral 0)) ≡ char_speed_of level (radial_factor_of level lapse) lapse =
      tab_same n _ _ (λ j l. ap (λ (x : Float). div binary64 x (at lapse j)) (sym (get_d_tab n value j nan l))) in
      ap (λ (xs : List Float). upd char_speed_slot xs (upd radial_factor_slot (radial_factor_of level lapse) (upd integral_slot integral (upd scratch_slot (map reciprocal_of lapse) (upd lapse_slot lapse (upd gradient_slot (radial_gradient_of level (S field_slot)) S)))))) speed

  energies_by : energies_on (points_of level) (point_of level) (constraints level S) ≡ full_constraints level S
  unfolding energies_on energy_density_of mass_of
  energies_by = refl

  constraints_on_lem : (n : ℕ) (h : Float) → radial_factors n h (lapses n h (gradients h S)) ≡ constraints_on n h (at (S points_slot)) S
  unfolding constraints_on
  constraints_on_lem n h = refl

  energies_on_lem : (n : ℕ) → energies n (constraints level S) ≡ energies_on n (at (S points_slot)) (constraints level S)
  unfolding energies_on
  energies_on_lem n = refl

  pub constraints_are : (n : ℕ) (h : Float) → n ≡ points_of level → h ≡ spacing_of level → at (S points_slot) ≡ point_of level → radial_factors n h (lapses n h (gradients h S)) ≡ constraints level S
  constraints_are n h p q e =
      let known : constraints_on n h (at (S points_slot)) S ≡ constraints_on (points_of level) (spacing_of level) (point_of level) S = cc in
      constraints_on_lem n h ∙ known ∙ constraints_by

  pub energies_are : (n : ℕ) → n ≡ points_of level → at (S points_slot) ≡ point_of level → energies n (constraints level S) ≡ full_constraints level S
  energies_are n p e =
      let known : energies_on n (at (S points_slot)) (constraints level S) ≡ energies_on (points_of level) (point_of level) (constraints level S) = cc in
      energies_on_lem n ∙ known ∙ energies_by
