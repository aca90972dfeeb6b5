-- `run::report::write_text` meets its contract.
use Rattle.std.proofs.Common.{sym, refl, ◌∙◌, rules}
use Rattle.run.proofs.Texts.{no_room_lem, has_room}
use Rattle.run.proofs.report.write_text.Goals as goal

pub returns-then-not-fits : goal.returns-then-not-fits
returns-then-not-fits c = no_room_lem _ _ _ refl (sym c.fits.ensures ∙ c.if-not-fits.true)

pub returns : goal.returns
returns c =
    let wrote = c.extend.ensures in
    let memory = wrote.memory in
    let became = has_room _ _ _ (sym c.fits.ensures ∙ c.if-not-fits.false) wrote.ends wrote.is in
    search rules
