-- `run::carry_out::begin_lines` meets its contract.
use Rattle.std.proofs.Common.{arith}
use Rattle.std.proofs.lemmas.Grind.{common_steps}
use Rattle.run.specs.Lines.{refusal, refusal_at, text_of}
use Rattle.run.specs.Model.{frame_count}
use Rattle.run.specs.CarryOut.{begin_order_of, begin_turn}
use Rattle.run.proofs.Carrying.{line_alone, begun_fits, begun_large}
use Rattle.run.proofs.carry_out.begin_lines.Goals as goal

pub frames-requires-clause-size_in_bounds : goal.frames-requires-clause-size_in_bounds
unfolding frame_count
frames-requires-clause-size_in_bounds c = rw c.frame_size.ensures (begun_fits c.in-Ok.order.settings _ _ _ c.in-Ok-begin.begun _ _ c.in-Ok-begin.ensures.frames_after)

pub frames-requires-clause-le_size : goal.frames-requires-clause-le_size
unfolding frame_count
frames-requires-clause-le_size c = rw c.frame_size.ensures (begun_large c.in-Ok.order.settings _ _ _ c.in-Ok-begin.begun _ _ c.in-Ok-begin.ensures.frames_after)

pub returns-then-input-gt-LONGEST_ORDER-clause-out_after : goal.returns-then-input-gt-LONGEST_ORDER-clause-out_after
unfolding begin_order_of text_of
returns-then-input-gt-LONGEST_ORDER-clause-out_after c =
    let w = line_alone (refusal 8) c.refusal.ensures in
    grind (arith, common_steps, w.is, w.ends)

pub returns-in-Err-clause-out_after : goal.returns-in-Err-clause-out_after
unfolding begin_order_of text_of
returns-in-Err-clause-out_after c =
    let w = line_alone (refusal_at _ _) c.refusal_at.ensures in
    grind (arith, common_steps, w.is, w.ends)

pub returns-in-Ok-begin-clause-out_after : goal.returns-in-Ok-begin-clause-out_after
unfolding begin_order_of begin_turn frame_count
returns-in-Ok-begin-clause-out_after c =
    let w = c.frames.ensures in
    grind (arith, common_steps, w.is, w.ends)

pub returns-in-Err-begin-clause-out_after : goal.returns-in-Err-begin-clause-out_after
unfolding begin_order_of begin_turn text_of
returns-in-Err-begin-clause-out_after c =
    let w = line_alone (refusal _) c.refusal-in-Err-begin.ensures in
    grind (arith, common_steps, w.is, w.ends)
