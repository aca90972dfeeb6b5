-- `vectors::diff::dissipation` meets its contract.
use Rattle.std.proofs.Common.{arith}
use Rattle.vectors.specs.FaultLaws.{lent_lem}
use Rattle.vectors.proofs.diff.dissipation.Goals as goal

pub dissipation_passes-requires : goal.dissipation_passes-requires
dissipation_passes-requires c =
    let lent = lent_lem _ _ c.in_ok-checked_lengths.ensures in
    (omega arith, record { one = lent.each 0 (omega arith); other = lent.each 1 (omega arith) }, lent.each 2 (omega arith))
