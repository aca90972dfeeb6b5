use Rattle.std.proofs.Common.{◌≡◌, ◌++◌, map, take, drop}
use Rattle.vectors.specs.Exp.{exp_of}
use Rattle.vectors.proofs.exp.each.Given as goal

-- the numbers before x are the exponentials of those that were passed, the others are as they were
abbrev pub invariant-loop-x : goal.invariant-loop-x
invariant-loop-x g l =
    l.values ≡ map exp_of (take l.x-index l.initial.values) ++ drop l.x-index l.initial.values
