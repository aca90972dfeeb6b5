-- `collapse::carry_out`: the calls one after another.
use Rattle.std.proofs.Common.{◌≡◌, ℕ, List, Option, length, take}
use Rattle.std.specs.Io.KnownBytes.{Appends}
use Rattle.run.specs.CarryOut.{after_carried, begin_order_of}
use Rattle.run.specs.CarryOutEnds.{calls_left}
use Rattle.collapse.specs.Turns.{left_of, end_of, texts_to}
use Rattle.collapse.proofs.Turns.{Going}
use Rattle.collapse.proofs.carry_out.Given as goal

-- the lengths stay, the call is one of the order's, and the output got the lines of those before it and its own
abbrev pub invariant-loop-job : goal.invariant-loop-job
invariant-loop-job g l = record {
  state : length l.state ≡ length l.fn.state;
  work : length l.work ≡ length l.fn.work;
  frames : length l.frames ≡ length l.fn.frames;
  out : length l.out ≡ length l.fn.out;
  calls : ℕ;
  going : Going l.fn.input l.fn.state l.fn.work l.fn.frames l.fn.out calls (after_carried l.call l.state l.frames l.out);
  before : Option (List ℕ);
  earlier :
      Appends (g.W.Write.contents l.fn.output) before
      (texts_to l.fn.input l.fn.work (begin_order_of l.fn.input l.fn.state l.fn.work l.fn.frames l.fn.out) calls);
  sent : Appends before (g.W.Write.contents l.output) (take (end_of l.call) l.out);
}

abbrev pub decreases-loop-job : goal.decreases-loop-job
decreases-loop-job g l = calls_left l.fn.input (left_of l.call)
