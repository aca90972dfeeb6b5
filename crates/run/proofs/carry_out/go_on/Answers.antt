-- `run::carry_out::go_on` meets its contract.
use Rattle.run.proofs.Carrying.{told_fits, told_long, rest_fits}
use Rattle.run.proofs.carry_out.go_on.Goals as goal

pub reply-requires-clause-settings_in_bounds : goal.reply-requires-clause-settings_in_bounds
reply-requires-clause-settings_in_bounds c = told_fits c.args.job _ _ _ _ _ _ c.advance-done.ensures.frames_after

pub reply-requires-clause-long : goal.reply-requires-clause-long
reply-requires-clause-long c = told_long c.args.job _ _ _ _ _ _ c.advance-done.ensures.frames_after

pub left_after-requires : goal.left_after-requires
left_after-requires c = rest_fits c.args.job _ _ _ _ _ _ c.advance-done.ensures.frames_after
