-- `run::adaptive_time_step::time_to_next_frame` meets its contract.
use Rattle.std.proofs.Common.{◌≡◌, ◌+◌, ◌-◌, ◌*◌, ◌/◌, true, false, ℕ, refl, ap, arith}
use lib.Ieee.{Float, nan, inf, fin, binary64, of_bits, round, up, down}
use lib.Ieee.Fits.{down_pos}
use Rattle.std.specs.Float.{floor, round_with}
use Rattle.run.specs.Clock.{floor_of, time_to_next_of}
use Rattle.run.proofs.adaptive_time_step.time_to_next_frame.Goals as goal

-- std rounds a + d - 1 down where Clock.antt has a + (d - 1)
floor_same : (x : Float) → floor binary64 x ≡ floor_of x
unfolding floor_of round_with
floor_same nan = refl
floor_same (inf s) = refl
floor_same (fin false m e) = refl
floor_same (fin true m e) =
    let above : m * up e + down e - 1 ≡ m * up e + (down e - 1) = omega (arith, down_pos e) in
    ap (λ (a : ℕ). round binary64 true (a / down e) 1) above

pub returns : goal.returns
unfolding time_to_next_of of_bits
returns c = rw (c.floor.ensures, floor_same)
