-- `vectors::tan::tan` meets its contract: its body is `tan_of`.
use Rattle.vectors.specs.Tan.{tan_of}
use Rattle.vectors.proofs.tan.tan.Goals as goal

pub returns : goal.returns
unfolding tan_of
returns c = cc
