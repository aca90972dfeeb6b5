-- What a call leaves in work memory and in state memory, where the memories have room for it.
use Rattle.std.specs.Prelude.{◌≡◌, List, ℕ, ◌*◌, length, Float}
use Rattle.std.proofs.Common.{sym, ap, subst, le-leb}
use Rattle.vectors.specs.Fault.{fault_of}
use Rattle.vectors.specs.Grid.{points_of}
use Rattle.vectors.specs.Memory.{part, put}
use Rattle.physics.specs.Built.{room_to_build}
use Rattle.physics.specs.State.{State, lay_out}
use Rattle.physics.specs.WorkAfter.{WorkAfter, Made}
use Rattle.physics.specs.WorkLaws.{RoomToStep, made_accepted}

-- the initial state is made where there is room to step
pub built : (level number room : ℕ) (s : State) (work after : List Float) → RoomToStep level room (length work)
    → number ≡ fault_of level (room_to_build level (length work)) → WorkAfter number level s work after → Made level s work after
built level number room s work after fits e made =
    made_accepted level number _ s work after fits.ranged (le-leb (40 * points_of level) (length work) fits.work) e made

-- the room is as before, since a call keeps work memory's length
pub still : {level room : ℕ} {s : State} {work after : List Float} → RoomToStep level room (length work) → Made level s work after
    → RoomToStep level room (length after)
still {level} {room} fits made = subst (λ (k : ℕ). RoomToStep level room k) (sym made.long) fits

-- the state that was made, stored
pub stored : {level : ℕ} {s : State} {work after : List Float} (state : List Float) → Made level s work after
    → put 0 (part (8 * points_of level) (8 * points_of level) after) state ≡ put 0 (lay_out s) state
stored state made = ap (λ (l : List Float). put 0 l state) made.made
