-- A state that was made in a part of work memory.
use Rattle.std.specs.Prelude.{◌≡◌, Bool, true, ℕ, suc, ◌+◌, ◌-◌, ◌*◌, ◌%◌, ◌^◌, ◌≤◌, List, length, take, drop, nat_le, refl, Float, Result}
use Rattle.std.proofs.Common.{sym, ap, ◌∙◌, subst, arith, le-leb, leb-true, take-take, length-take, length-drop, ext_get_or, get_or-take, get_or-drop}
use borrow.Rule.Slice.PartMut.{put_mid}
use Rattle.std.specs.Float.{nan, binary64}
use Rattle.std.specs.Float.Ieee.{add}
use Rattle.std.proofs.lemmas.Bool.{and_parts}
use Rattle.vectors.specs.declared.answer.Refusal.{Refusal}
use Rattle.vectors.specs.Answer.{number_of, left_by}
use Rattle.vectors.specs.FaultLaws.{accepted, fault_none, left_accepted}
use Rattle.vectors.specs.Fault.{fault_of}
use Rattle.vectors.specs.Grid.{points_of}
use Rattle.vectors.specs.GridLaws.{Level, points_in, points_least}
use Rattle.vectors.specs.Memory.{part, put}
use Rattle.vectors.specs.MemoryLaws.{back, lent, length-put, length_part, get_d_part, get_d_put_in, get_d_put_above}
use Rattle.physics.specs.Rk4.{state_of, rk4_of}
use Rattle.physics.specs.SlotNumbers.{slot_count, slots_start, slots_end}
use Rattle.physics.specs.Slots.{Slots, slots, Became}
use Rattle.physics.specs.State.{State, state_in, lay_out}
use Rattle.physics.specs.StepLaws.{state_of_slots, step_is, slots_front}
use Rattle.physics.specs.StepPasses.{steps}
use Rattle.physics.specs.Stepped.{room_to_step}
use Rattle.physics.specs.Passes.{grids}
use Rattle.physics.specs.Store.{both_hold, stored_of}
use Rattle.physics.specs.WorkAfter.{WorkAfter, Made}

-- ---- what an accepted call knows

pub points_odd : {level : ℕ} → Level level → points_of level % 2 ≡ 1
points_odd {level} l = points_in' ∙ even (level - 1) (omega (arith, l.least))
  where
    points_in' : points_of level % 2 ≡ (2 ^ level + 1) % 2
    points_in' = ap (λ (n : ℕ). n % 2) (points_in l)

    even : (k : ℕ) → level ≡ suc k → (2 ^ level + 1) % 2 ≡ 1
    even k e = rw e (omega arith)

-- room for the slots on the grid of a level, with n points
pub record Roomy (level n : ℕ) : Type 0 where
  pub is : n ≡ points_of level
  pub many : 9 ≤ n
  pub odd : n % 2 ≡ 1

pub roomy : {level n : ℕ} → Level level → n ≡ points_of level → Roomy level n
roomy {level} {n} l e = record { is = e; many = omega (arith, points_least l); odd = ap (λ (m : ℕ). m % 2) e ∙ points_odd l }

pub record RoomToStep (level s w : ℕ) : Type 0 where
  pub ranged : Level level
  pub state : 8 * points_of level ≤ s
  pub work : 40 * points_of level ≤ w

pub room_to_step_lem : (level state work : ℕ) → 0 ≡ fault_of level (room_to_step level state work) → RoomToStep level state work
room_to_step_lem level state work e =
    let g = accepted level (room_to_step level state work) e in
    let h = and_parts (nat_le (8 * points_of level) state) (nat_le (40 * points_of level) work) g.fitting in
    record { ranged = g.ranged; state = leb-true (8 * points_of level) state h.0; work = leb-true (40 * points_of level) work h.1 }

-- ---- memory around the part

part-put_front : (at m : ℕ) (ys xs : List Float) → at + length ys ≤ length xs → m ≤ length ys → part at m (put at ys xs) ≡ take m ys
part-put_front at m ys xs h l =
    let long = length-put at ys xs h in
    let p = length_part at m (put at ys xs) (omega arith) in
    let t : length (take m ys) ≡ m = simp length-take (omega arith) in
    ext_get_or nan (part at m (put at ys xs)) (take m ys) (p ∙ sym t)
    (λ i b. get_d_part at m (put at ys xs) i nan (omega arith) ∙ get_d_put_in at ys xs i nan h (omega arith) ∙ sym (get_or-take m ys i nan (omega arith)))

drop-put_beyond : (at k : ℕ) (ys xs : List Float) → at + length ys ≤ length xs → at + length ys ≤ k → drop k (put at ys xs) ≡ drop k xs
drop-put_beyond at k ys xs h l =
    let long = length-put at ys xs h in
    ext_get_or nan (drop k (put at ys xs)) (drop k xs) (simp (length-drop, long))
    (λ i b. get_or-drop k (put at ys xs) i nan ∙ get_d_put_above at ys xs (k + i) nan h (omega arith) ∙ sym (get_or-drop k xs i nan))

-- the slots w, lent from work memory, came back as w', whose first eight are those of s
pub made_in : (level n : ℕ) (s : State) (f : Slots → Slots) (work w' : List Float) → n ≡ points_of level → 40 * n ≤ length work
    → Became n f (take (slots_end * n - slots_start * n) (drop (slots_start * n) work)) w' → state_of_slots s.time (slots n w') ≡ s → Made level s work (put_mid (slots_start * n) (slots_end * n - slots_start * n) work w')
made_in level n s f work w' p h B e =
    let size : length w' ≡ slot_count * n = B.long ∙ simp (length-take, length-drop) (omega arith) in
    let same = back (slots_start * n) (slots_end * n) w' w' work refl (omega arith) in
    let fits : slots_start * n + length w' ≤ length work = omega arith in
    record {
      long = ap length same ∙ length-put (slots_start * n) w' work fits;
      made = rw (sym p) (rw same (part-put_front (slots_start * n) (8 * n) w' work fits (omega arith) ∙ slots_front n w' s.time ∙ ap lay_out e));
      beyond = rw (sym p) (rw same (drop-put_beyond (slots_start * n) (40 * n) w' work fits (omega arith)));
    }

-- ---- a step

state_in_lem : (level : ℕ) (time : Float) (memory : List Float) → state_of_slots time (slots (points_of level) memory) ≡ state_in (points_of level) time memory
unfolding state_in slots
state_in_lem level time memory = refl

step_state : (level n : ℕ) (time delta : Float) (state w w' : List Float) → n ≡ points_of level → Became n (λ S. steps level n delta (slots n state) (grids level n S)) w w'
    → state_of_slots (add binary64 time delta) (slots n w') ≡ rk4_of level delta (state_in (points_of level) time state)
step_state level n time delta state w w' p B =
    subst (λ (m : ℕ). Became m (λ S. steps level m delta (slots m state) (grids level m S)) w w' → state_of_slots (add binary64 time delta) (slots m w') ≡ rk4_of level delta (state_in (points_of level) time state)) (sym p) at_points B
  where
    at_points : Became (points_of level) (λ S. steps level (points_of level) delta (slots (points_of level) state) (grids level (points_of level) S)) w w'
        → state_of_slots (add binary64 time delta) (slots (points_of level) w') ≡ rk4_of level delta (state_in (points_of level) time state)
    at_points B =
        ap (λ (S : Slots). state_of_slots (add binary64 time delta) S) B.holds ∙ step_is level time delta (slots (points_of level) state) (grids level (points_of level) (slots (points_of level) w)) ∙ ap (rk4_of level delta) (state_in_lem level time state)

step_time : (level : ℕ) (delta : Float) (s : State) → (rk4_of level delta s).time ≡ add binary64 s.time delta
unfolding rk4_of state_of
step_time level delta s = refl

pub stepped_time_lem : (level : ℕ) (time delta : Float) (state : List Float) → add binary64 time delta ≡ (rk4_of level delta (state_in (points_of level) time state)).time
unfolding state_in
stepped_time_lem level time delta state = sym (step_time level delta (state_in (points_of level) time state))

pub stepped_made : (level n : ℕ) (time delta : Float) (state work w' : List Float) → n ≡ points_of level → 40 * n ≤ length work
    → Became n (λ S. steps level n delta (slots n state) (grids level n S)) (take (slots_end * n - slots_start * n) (drop (slots_start * n) work)) w'
    → Made level (rk4_of level delta (state_in (points_of level) time state)) work (put_mid (slots_start * n) (slots_end * n - slots_start * n) work w')
stepped_made level n time delta state work w' p h B =
    let next = rk4_of level delta (state_in (points_of level) time state) in
    let e : state_of_slots next.time (slots n w') ≡ next =
    ap (λ (t : Float). state_of_slots t (slots n w')) (sym (stepped_time_lem level time delta state)) ∙ step_state level n time delta state _ w' p B in
    made_in level n next _ work w' p h B e

-- ---- what a call that nothing refuses leaves

-- work memory after a call whose number is known
pub after_number : {number : ℕ} (known level : ℕ) (s : State) (work after : List Float) → number ≡ known → WorkAfter number level s work after
    → WorkAfter known level s work after
after_number known level s work after e made = subst (λ (k : ℕ). WorkAfter k level s work after) e made

pub made_accepted : (level number : ℕ) (fits : Bool) (s : State) (work after : List Float) → Level level → fits ≡ true → number ≡ fault_of level fits
    → WorkAfter number level s work after → Made level s work after
made_accepted level number fits s work after l f e made = after_number 0 level s work after (e ∙ sym (fault_none level fits l f)) made

-- the state that was made, as code lends it
pub lent_made : (level n : ℕ) (work : List Float) → n ≡ points_of level → take (16 * n - 8 * n) (drop (8 * n) work) ≡ part (8 * points_of level) (8 * points_of level) work
lent_made level n work is =
    let here : take (16 * n - 8 * n) (drop (8 * n) work) ≡ part (8 * n) (8 * n) work = lent (8 * n) (16 * n) (8 * n) work (omega arith) in
    here ∙ ap (λ (m : ℕ). part (8 * m) (8 * m) work) is

pub take-part : (a m : ℕ) (xs : List Float) → take m (part a m xs) ≡ part a m xs
unfolding part
take-part a m xs = take-take m m (drop a xs) (omega arith)

pub take_made : (level : ℕ) (work : List Float) → let size = 8 * points_of level in take size (part size size work) ≡ part size size work
take_made level work = let size = 8 * points_of level in take-part size size work

-- the state that was made, stored in state memory
pub stored_made : {A : Type 0} (level n : ℕ) (answer : Result A Refusal) (work state after : List Float) → RoomToStep level (length state) (length work) → n ≡ points_of level
    → number_of answer ≡ fault_of level (both_hold level (length (take (16 * n - 8 * n) (drop (8 * n) work))) (length state))
    → after ≡ left_by answer (stored_of (points_of level) (take (16 * n - 8 * n) (drop (8 * n) work)) state) state
    → after ≡ put 0 (part (8 * points_of level) (8 * points_of level) work) state
stored_made level n answer work state after room is number left =
    let size = 8 * points_of level in
    let from = take (16 * n - 8 * n) (drop (8 * n) work) in
    let same : from ≡ part size size work = lent_made level n work is in
    let long : length from ≡ size = ap length same ∙ length_part size size work (omega (arith, room.work)) in
    let held : both_hold level (length from) (length state) ≡ true = rw (le-leb size (length from) (omega arith), le-leb size (length state) room.state) in
    left
    ∙ left_accepted level _ answer (stored_of (points_of level) from state) state room.ranged held number
    ∙ ap (λ (l : List Float). put 0 l state) (ap (take size) same ∙ take_made level work)
