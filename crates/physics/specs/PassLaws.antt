-- A pass by another name, and what it leaves in the slots of the grid.
use Rattle.std.specs.Prelude.{◌≡◌, ℕ, List, Float}
use Rattle.std.proofs.Common.{ap, ◌∙◌}
use Rattle.physics.specs.SlotNumbers.{points_slot, correction_slot}
use Rattle.physics.specs.Slots.{Slots, slots, Became}
use Rattle.physics.specs.Vector.{at}
use Rattle.physics.specs.Passes.{Ready}

-- a pass by another name, of the slots that memory held
pub renamed : {n : ℕ} {f g : Slots → Slots} {w w' : List Float} → f (slots n w) ≡ g (slots n w) → Became n f w w' → Became n g w w'
renamed e F = record { long = F.long; holds = F.holds ∙ e }

-- the grid still stands in its slots after a pass that leaves them
pub ready_after : {level n : ℕ} {f : Slots → Slots} {w w' : List Float} → Ready level n w → Became n f w w' → f (slots n w) points_slot ≡ slots n w points_slot → f (slots n w) correction_slot ≡ slots n w correction_slot → Ready level n w'
ready_after {level} {n} {f} {w} {w'} R B p q =
    let l = B.long in
    let a : slots n w' points_slot ≡ slots n w points_slot = ap (λ (S : Slots). S points_slot) B.holds ∙ p in
    let b : slots n w' correction_slot ≡ slots n w correction_slot = ap (λ (S : Slots). S correction_slot) B.holds ∙ q in
    record {
      many = R.many;
      odd = R.odd;
      fits = rw l R.fits;
      grid = R.grid;
      points = ap (λ (xs : List Float). at xs) a ∙ R.points;
      correction = ap (λ (xs : List Float). at xs) b ∙ R.correction;
    }
