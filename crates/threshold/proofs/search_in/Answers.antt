-- `threshold::search_in` meets its contract.
use Rattle.std.proofs.Common.{◌≡◌, false, arith}
use Rattle.std.proofs.lemmas.Grind.{common_steps}
use Rattle.threshold.specs.Search.{is_asked}
use Rattle.threshold.specs.SearchLaws.{not_asked, asked}
use Rattle.threshold.proofs.search_in.Goals as goal

pub returns-then-high-low : goal.returns-then-high-low
returns-then-high-low c =
    let a = c.args in
    let told : is_asked a.low a.high a.halvings ≡ false = grind (arith, common_steps) in
    not_asked a.unit a.s a.low a.high a.halvings a.budget a.state.now a.work.now told

pub returns : goal.returns
returns c =
    let a = c.args in
    asked a.unit a.s a.low a.high a.halvings a.budget a.state.now a.work.now (omega arith) (omega arith) (omega arith) _ _ _ c.bracketed.ensures
