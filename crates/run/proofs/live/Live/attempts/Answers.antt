-- `run::live::Live::attempts` meets its contract.
use Rattle.std.proofs.Common.{sym, ◌∙◌}
use Rattle.run.proofs.Attempts.{starts, ended_is, full_is, can_attempt, goes_on_lem, ends_ended, ends_full, ends_spent}
use Rattle.run.proofs.live.Live.attempts.Goals as goal

pub loop-made-init : goal.loop-made-init
loop-made-init c = starts c.args.self.now c.args.budget c.requires

pub returns-then-has_ended : goal.returns-then-has_ended
returns-then-has_ended c =
    ends_ended _ _ c.requires c.loop-made.invariant (sym c.if-has_ended.true ∙ c.has_ended.ensures) _ c.outcome.ensures

pub returns-then-is_full : goal.returns-then-is_full
returns-then-is_full c =
    ends_full _ _ c.requires c.loop-made.invariant c.loop-made-test.true (sym c.if-has_ended.false ∙ c.has_ended.ensures) c.clock-clock.result
    c.clock-clock.ensures (sym c.if-is_full.true ∙ c.is_full.ensures)

pub attempt-requires : goal.attempt-requires
attempt-requires c =
    let p = c.requires in
    let i = c.loop-made.invariant in
    can_attempt _ _ p i c.loop-made-test.true
    (sym (ended_is _ _ p i.holds) ∙ sym c.has_ended.ensures ∙ c.if-has_ended.false)
    c.clock-clock.result c.clock-clock.ensures (sym c.is_full.ensures ∙ c.if-is_full.false)

pub loop-made-preserved : goal.loop-made-preserved
loop-made-preserved c =
    let p = c.requires in
    let i = c.loop-made.invariant in
    let going = sym (ended_is _ _ p i.holds) ∙ sym c.has_ended.ensures ∙ c.if-has_ended.false in
    goes_on_lem _ _ p i c.loop-made-test.true going
    (sym (full_is _ _ p i.holds c.clock-clock.result c.clock-clock.ensures going) ∙ sym c.is_full.ensures ∙ c.if-is_full.false)
    c.attempt.ensures

pub returns : goal.returns
returns c =
    ends_spent _ _ c.requires c.loop-made.invariant c.loop-made-test.false _ c.outcome-2.ensures
