-- The invariant: the attempts that are left end as those from the start.
use Rattle.run.proofs.Attempts.{GoesOn}
use Rattle.run.proofs.live.Live.attempts.Given as goal

abbrev pub invariant-loop-made : goal.invariant-loop-made
invariant-loop-made l =
    GoesOn l.initial.self l.budget l.self l.made
