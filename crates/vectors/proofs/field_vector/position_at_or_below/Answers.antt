-- `position_at_or_below` meets its contract.
use Rattle.std.proofs.Common.{rules, tests, ◌∙◌}
use Rattle.std.proofs.lemmas.Iterator.{YieldsList-from_slice}
use Rattle.std.proofs.lemmas.Iterator.Search.{position_from_yields_List}
use lib.Ieee.{le}
use Rattle.vectors.proofs.field_vector.Chains.{first_is}
use Rattle.vectors.proofs.field_vector.position_at_or_below.Goals as goal

pub returns : goal.returns
returns c =
    let values = c.args.values.now in
    position_from_yields_List (λ x. le x c.args.bound) _ _ _ c.position.ensures.ran (YieldsList-from_slice values cc) (λ x b q k. search (rules, tests))
    ∙ first_is c.args.bound values
