use Rattle.std.proofs.Common.{take, All}
use Rattle.std.specs.Bool.{OnTrue}
use Rattle.vectors.specs.ExpInside.{Inside}
use Rattle.vectors.proofs.exp.all_inside.Given as goal

-- where the flag is up, the numbers before x are inside
abbrev pub invariant-loop-x : goal.invariant-loop-x
invariant-loop-x l = OnTrue l.all (All Inside (take l.x-index l.values))
