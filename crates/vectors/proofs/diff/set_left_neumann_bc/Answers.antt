-- `vectors::diff::set_left_neumann_bc` meets its contract.
use Rattle.std.proofs.Common.{ap, set}
use Rattle.vectors.specs.Stencil.{diff_left0}
use Rattle.vectors.specs.StencilLaws.{neumann_is}
use Rattle.vectors.proofs.diff.set_left_neumann_bc.Goals as goal

pub returns-clause-left : goal.returns-clause-left
unfolding diff_left0
returns-clause-left c = let xs = c.args.vector.now in ap (set xs 0) (neumann_is xs c.row-value.ensures)
