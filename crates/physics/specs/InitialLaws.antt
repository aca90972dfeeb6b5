-- The slots after the passes of `build_initial_state` are the state that `initial_state_of` defines.
use Rattle.std.specs.Prelude.{◌≡◌, ℕ, ◌-◌, ◌*◌, ◌≤◌, Bool, true, false, cond, List, map, length, take, drop, ◌==◌, refl, Float}
use Rattle.std.proofs.Common.{sym, ap, ◌∙◌, subst, leb-true}
use borrow.Rule.Slice.PartMut.{put_mid}
use Rattle.std.specs.Float.{nan, binary64}
use Rattle.std.specs.Float.Ieee.{mul}
use Rattle.vectors.specs.Constants.{whole}
use Rattle.vectors.specs.DissipationLaws.{scaled_by}
use Rattle.vectors.specs.Exp.{exp_of}
use Rattle.vectors.specs.Fault.{fault_of}
use Rattle.vectors.specs.FaultLaws.{accepted}
use Rattle.vectors.specs.Grid.{points_of, point_of}
use Rattle.vectors.specs.GridLaws.{Level}
use Rattle.vectors.specs.Memory.{tab}
use Rattle.vectors.specs.MemoryLaws.{length_tab, get_d_tab}
use Rattle.physics.specs.Built.{room_to_build}
use Rattle.physics.specs.Constraints.{constraints_of}
use Rattle.physics.specs.InitialPasses.{exponent_val, exponents, scales, profile_on, variables, initials}
use Rattle.physics.specs.InitialState.{wave_profile_of, initial_state_of}
use Rattle.physics.specs.Rk4.{state_of}
use Rattle.physics.specs.SlotNumbers.{momentum_slot, points_slot, slots_start, slots_end}
use Rattle.physics.specs.Slots.{Slots, slots, upd, Became}
use Rattle.physics.specs.StepLaws.{state_of_slots, grid_points}
use Rattle.physics.specs.Vector.{at}
use Rattle.physics.specs.VectorLaws.{tab_same, tab_map, map-map}
use Rattle.physics.specs.Passes.{grids}
use Rattle.physics.specs.WorkAfter.{Made}
use Rattle.physics.specs.WorkLaws.{made_in}

-- the three passes of field and momentum
abbrev pub exps : Slots → Slots
exps S = upd momentum_slot (map exp_of (S momentum_slot)) S

pub variable_passes : (n : ℕ) (amplitude : Float) (S : Slots) (k : ℕ) → scales amplitude (exps (exponents n S)) k ≡ variables n amplitude S k
variable_passes n amplitude S k = go _ _ _ _ (k == momentum_slot)
  where
    go : (A B C D : List Float) (b : Bool) → cond b A (cond b B (cond b C D)) ≡ cond b A D
    go A B C D true = refl
    go A B C D false = refl

profile_is : (level : ℕ) (amplitude : Float) → profile_on (points_of level) amplitude (point_of level) ≡ wave_profile_of level amplitude
unfolding wave_profile_of
profile_is level amplitude =
    let n = points_of level in
    let xs = tab n (exponent_val (point_of level)) in
    sym (map-map (mul binary64 amplitude) exp_of xs)
    ∙ sym (tab_map n (λ x. mul binary64 amplitude (exp_of x)) xs (length_tab n _))
    ∙ tab_same n _ _ (λ j l. ap (λ (x : Float). mul binary64 amplitude (exp_of x)) (get_d_tab n (exponent_val (point_of level)) j nan l))

-- on a grid that the level's points are read from
initial_slots : (level : ℕ) (amplitude : Float) (S : Slots) → at (S points_slot) ≡ point_of level
    → state_of_slots (whole 0) (initials level (points_of level) amplitude S) ≡ initial_state_of level amplitude
unfolding initial_state_of state_of constraints_of
initial_slots level amplitude S e =
    let made : List Float → _ = λ (p : List Float). let field = tab (points_of level) (λ i. whole 0) in state_of level (whole 0) field p (constraints_of level field p).mass in
    ap (λ (r : ℕ → Float). made (profile_on (points_of level) amplitude r)) e ∙ ap made (profile_is level amplitude)

build_state_is : (level n : ℕ) (amplitude : Float) (w w' : List Float) → n ≡ points_of level → Became n (λ S. initials level n amplitude (grids level n S)) w w'
    → state_of_slots (whole 0) (slots n w') ≡ initial_state_of level amplitude
build_state_is level n amplitude w w' p B =
    subst (λ (m : ℕ). Became m (λ S. initials level m amplitude (grids level m S)) w w' → state_of_slots (whole 0) (slots m w') ≡ initial_state_of level amplitude) (sym p) at_points B
  where
    at_points : Became (points_of level) (λ S. initials level (points_of level) amplitude (grids level (points_of level) S)) w w' → state_of_slots (whole 0) (slots (points_of level) w') ≡ initial_state_of level amplitude
    at_points B =
        ap (λ (S : Slots). state_of_slots (whole 0) S) B.holds ∙ initial_slots level amplitude (grids level (points_of level) (slots (points_of level) w)) (grid_points level (points_of level) refl)

initial_time : (level : ℕ) (amplitude : Float) → whole 0 ≡ (initial_state_of level amplitude).time
unfolding initial_state_of state_of
initial_time level amplitude = refl

pub built_made : (level n : ℕ) (amplitude : Float) (work w' : List Float) → n ≡ points_of level → 40 * n ≤ length work
    → Became n (λ S. initials level n amplitude (grids level n S)) (take (slots_end * n - slots_start * n) (drop (slots_start * n) work)) w'
    → Made level (initial_state_of level amplitude) work (put_mid (slots_start * n) (slots_end * n - slots_start * n) work w')
built_made level n amplitude work w' p h B =
    let s = initial_state_of level amplitude in
    let e : state_of_slots s.time (slots n w') ≡ s =
    ap (λ (t : Float). state_of_slots t (slots n w')) (sym (initial_time level amplitude)) ∙ build_state_is level n amplitude _ w' p B in
    made_in level n s _ work w' p h B e

pub record RoomToBuild (level w : ℕ) : Type 0 where
  pub ranged : Level level
  pub work : 40 * points_of level ≤ w

pub room_to_build_lem : (level work : ℕ) → 0 ≡ fault_of level (room_to_build level work) → RoomToBuild level work
room_to_build_lem level work e =
    let g = accepted level (room_to_build level work) e in
    record { ranged = g.ranged; work = leb-true (40 * points_of level) work g.fitting }

pub scaled_map : (factor : Float) (xs : List Float) → scaled_by factor xs ≡ map (mul binary64 factor) xs
unfolding scaled_by
scaled_map factor xs = tab_map (length xs) (mul binary64 factor) xs refl
