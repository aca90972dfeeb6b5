-- `collapse::answer` meets its contract.
use Rattle.std.proofs.Common.{arith}
use Rattle.run.specs.CarryOutLaws.{lent_lengths}
use Rattle.collapse.proofs.answer.Goals as goal

pub carry_out-requires : goal.carry_out-requires
carry_out-requires g c =
    record {
      memory_lent = omega (arith, lent_lengths.0);
      work_lent = omega (arith, lent_lengths.1);
      frames_lent = omega arith;
      room = omega arith;
    }
