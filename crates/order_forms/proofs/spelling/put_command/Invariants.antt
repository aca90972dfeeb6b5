use Rattle.std.specs.Prelude.{take}
use Rattle.run.specs.WriteLaws.{Wrote}
use Rattle.order_forms.proofs.spelling.put_command.Given as goal

-- the first i bytes of the operand stand behind the command byte
abbrev pub invariant-loop-i : goal.invariant-loop-i
invariant-loop-i l = Wrote l.from (take l.i l.operand) l.initial.out l.out
