-- The invariant: the digits that are left, put where they belong, make the text asked for.
use Rattle.std.proofs.Common.{◌≡◌}
use Rattle.vectors.specs.Memory.{put}
use Rattle.run.specs.Report.{digits}
use Rattle.run.proofs.text.Writer+u8.digits.Given as goal

abbrev pub invariant-loop-i : goal.invariant-loop-i
invariant-loop-i l = put 1 (digits l.base l.i l.rest) l.text ≡ put 1 (digits l.base l.k l.n) l.initial.text
