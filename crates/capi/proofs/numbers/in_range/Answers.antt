-- `capi::numbers::in_range` meets its contract.
use Rattle.std.proofs.Common.{refl}
use Rattle.std.specs.Float.Ieee.{of_bits, neg}
use Rattle.capi.proofs.numbers.in_range.Goals as goal

pub returns : goal.returns
unfolding of_bits neg
returns c = refl
