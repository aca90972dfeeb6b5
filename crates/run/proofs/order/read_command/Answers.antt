-- `run::order::read_command` meets its contract.
use Rattle.std.proofs.Common.{refl, arith}
use Rattle.run.proofs.Orders.{read_none, read_cut, read_whole}
use Rattle.run.proofs.order.read_command.Goals as goal

pub returns-then-len-at : goal.returns-then-len-at
returns-then-len-at c = read_none _ _ c.if-len-at.true

pub returns-then-len-from : goal.returns-then-len-from
returns-then-len-from c =
    read_cut _ _ c.if-len-at.false c.operand_size-size.ensures (omega arith)

pub returns : goal.returns
returns c =
    read_whole _ _ c.if-len-at.false c.operand_size-size.ensures (omega arith) c.command_of.ensures refl
