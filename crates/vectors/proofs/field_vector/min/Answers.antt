-- `min` meets its contract.
use Rattle.std.proofs.Common.{◌≡◌, rules, ◌∙◌}
use Rattle.std.specs.List.{fold}
use lib.Ieee.{nan, div, of_bits}
use Rattle.vectors.specs.TotalOrder.{lesser_of}
use Rattle.vectors.proofs.field_vector.Chains.{minimum_is}
use Rattle.vectors.proofs.field_vector.min.Goals as goal

pub returns : goal.returns
unfolding div of_bits
returns c =
    let chain : c.fold.result ≡ fold lesser_of nan c.args.values.now = search rules in
    chain ∙ minimum_is c.args.values.now
