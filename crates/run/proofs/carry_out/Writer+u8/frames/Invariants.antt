-- The frames that are left are those that the iterator has.
use Rattle.std.proofs.Common.{◌≡◌}
use Rattle.std.specs.Iterator.Adapters.{take_source, take_count}
use Rattle.std.specs.Slice.Iter.{chunks_exact_rest, chunks_exact_size}
use Rattle.run.proofs.CarryOut.{Writing}
use Rattle.run.proofs.carry_out.Writer+u8.frames.Given as goal

abbrev pub invariant-loop-frame : goal.invariant-loop-frame
invariant-loop-frame l =
    (chunks_exact_size (take_source l.frame-iterator) ≡ l.size)
    × Writing l.count l.size l.frames l.initial.self (take_count l.frame-iterator) (chunks_exact_rest (take_source l.frame-iterator)) l.self
