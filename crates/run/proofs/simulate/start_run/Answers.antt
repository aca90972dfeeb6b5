-- `run::simulate::start_run` meets its contract.
use Rattle.std.proofs.Common.{arith, sym, ◌∙◌}
use Rattle.run.specs.Model.{frame_of}
use Rattle.run.proofs.Leaves.{frame_room}
use Rattle.run.proofs.Refusals.{lent_all}
use Rattle.run.proofs.Beginning.{begin_nan, begin_skipped, begin_framed}
use Rattle.run.proofs.simulate.start_run.Goals as goal

pub returns-then-has_nan-clause-frames_after : goal.returns-then-has_nan-clause-frames_after
returns-then-has_nan-clause-frames_after c =
    let made = c.start_state-time in
    begin_nan _ _ _ _ c.requires _ _ made.ensures.work_after made.auto.work
    (sym c.has_nan.ensures ∙ c.if-has_nan.true)

pub returns-then-s-clause-frames_after : goal.returns-then-s-clause-frames_after
returns-then-s-clause-frames_after c =
    let made = c.start_state-time in
    begin_skipped _ _ _ _ c.requires _ _ made.ensures.work_after made.auto.work
    (sym c.has_nan.ensures ∙ c.if-has_nan.false) _ c.store_next.ensures c.if-s.true

pub write_frame-requires : goal.write_frame-requires
write_frame-requires c =
    let given = lent_all _ _ _ _ c.requires in
    let framed = given.framed c.if-s.false in
    frame_room _ _ _ _ _ (record { sound = given.lent.sound; state_fits = omega arith; work_fits = omega arith }) (omega (arith, framed))

pub returns-clause-frames_after : goal.returns-clause-frames_after
unfolding frame_of
returns-clause-frames_after c =
    let made = c.start_state-time in
    begin_framed _ _ _ _ c.requires _ _ made.ensures.work_after made.auto.work
    (sym c.has_nan.ensures ∙ c.if-has_nan.false) _ c.store_next.ensures c.if-s.false _ c.write_frame.ensures.0
