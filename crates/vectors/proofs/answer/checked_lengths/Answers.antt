-- `vectors::answer::checked_lengths` meets its contract.
use Rattle.std.proofs.Common.{rules}
use Rattle.std.proofs.lemmas.Iterator.{YieldsList-from_slice}
use Rattle.std.proofs.lemmas.Iterator.Search.{all_from_yields_List}
use Rattle.std.specs.Prelude.{◌==◌}
use Rattle.vectors.specs.Fault.{all_fit}
use Rattle.vectors.proofs.answer.checked_lengths.Goals as goal

pub returns : goal.returns
unfolding all_fit
returns c =
    let n = c.length_at_discretization-n.result in
    let all = all_from_yields_List (λ len. len == n) _ _ _ c.all.ensures.ran (YieldsList-from_slice c.args.lengths.now cc) (λ x b q k. search rules) in
    rw (all, c.length_at_discretization-n.ensures) at c.checked.ensures
