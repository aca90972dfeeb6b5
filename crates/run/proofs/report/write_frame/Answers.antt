-- `run::report::write_frame` meets its contract.
use Rattle.std.proofs.Common.{ℕ, ◌+◌, leb, length, sym, ap, ◌∙◌, rules}
use Rattle.run.specs.ReportLaws.{length_frame}
use Rattle.run.proofs.Texts.{no_room_lem, has_room}
use Rattle.run.proofs.report.write_frame.Goals as goal

pub returns-then-not-frame_fits : goal.returns-then-not-frame_fits
returns-then-not-frame_fits c = no_room_lem _ _ _ (length_frame _) (sym c.frame_fits.ensures ∙ c.if-not-frame_fits.true)

pub returns : goal.returns
returns c =
    let a = c.args in
    let wrote = c.frame.ensures in
    let fits = ap (λ (n : ℕ). leb (a.at + n) (length a.out.now)) (length_frame a.frame.now) ∙ sym c.frame_fits.ensures ∙ c.if-not-frame_fits.false in
    let memory = wrote.memory in
    let became = has_room _ _ _ fits wrote.ends wrote.is in
    search rules
