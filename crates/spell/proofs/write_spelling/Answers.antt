-- `spell::write_spelling` meets its contract.
use Rattle.std.proofs.Common.{arith}
use Rattle.spell.proofs.Replies.{reply_told, ends_in, reply_bytes, refuses, fails}
use Rattle.spell.proofs.write_spelling.Goals as goal

pub returns-in_err-end : goal.returns-in_err-end
returns-in_err-end g c =
    refuses _ _ c.in_err-end.field-0.0 (reply_told _ _ (omega arith) (omega arith) _ _ c.spell.ensures _ c.in_err-end.was) _ c.from_residual.ensures.1

pub slice_bounds-write-end : goal.slice_bounds-write-end
slice_bounds-write-end g c = omega (arith, ends_in _ _ (omega arith) (omega arith) _ _ c.spell.ensures _ c.in_ok-end.was)

pub returns-in_err-write : goal.returns-in_err-write
returns-in_err-write g c =
    fails _ _ _ _ c.in_err-write.field-0.0 (reply_bytes _ _ (omega arith) (omega arith) _ _ c.spell.ensures _ c.in_ok-end.was) c.in_err-write.ensures.sent
    c.in_err-write.ensures.cut _ c.from_residual-in_err-write.ensures.1

pub returns : goal.returns
returns g c = (_, reply_bytes _ _ (omega arith) (omega arith) _ _ c.spell.ensures _ c.in_ok-end.was, c.in_ok-write.ensures.sent)
