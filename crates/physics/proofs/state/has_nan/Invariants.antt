use Rattle.std.proofs.Common.{◌≡◌, ◌||◌, take}
use Rattle.std.specs.List.{list_any}
use lib.Ieee.{is_nan}
use Rattle.physics.proofs.state.has_nan.Given as goal

-- whether the time is a NaN, or a number before x
abbrev pub invariant-loop-x : goal.invariant-loop-x
invariant-loop-x l = l.found ≡ (is_nan l.time || list_any is_nan (take l.x-index l.vectors))
