-- `vectors::diff::diff` meets its contract.
use Rattle.std.proofs.Common.{sym, ◌∙◌, arith}
use Rattle.vectors.specs.FaultLaws.{lent_lem}
use Rattle.vectors.proofs.diff.diff.Goals as goal

pub diff_rows-requires : goal.diff_rows-requires
diff_rows-requires c =
    let lent = lent_lem _ _ c.in_ok-checked_lengths.ensures in
    let points = lent.each 0 (omega arith) in
    (omega arith, lent.each 1 (omega arith) ∙ sym points)
