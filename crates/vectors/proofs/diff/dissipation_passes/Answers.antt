-- `vectors::diff::dissipation_passes` meets its contract.
use mathlib.Core.Path.{ap, ◌∙◌}
use Rattle.vectors.specs.DissipationLaws.{corrected_by, corrected_is, scaled_is}
use Rattle.vectors.proofs.diff.dissipation_passes.Goals as goal

pub returns : goal.returns
returns c =
    let a = c.args in
    let half = c.correct.ensures ∙ ap (corrected_by a.level) c.diff3_rows.ensures ∙ corrected_is a.level a.vector.now in (
      half,
      c.scale.ensures ∙ rw (c.dissipation_scale.ensures, c.delta.ensures, c.diff3_rows-2.ensures, half) (scaled_is a.level a.vector.now),
    )
