-- What a call that is not refused was given.
use Rattle.std.proofs.Common.{◌≡◌, ℕ, ◌+◌, ◌≤◌, false, List, length, arith}
use Rattle.std.proofs.lemmas.Grind.{common_steps}
use Rattle.std.specs.Prelude.{None}
use lib.Ieee.{Float}
use Rattle.run.specs.declared.settings.Settings.{Settings}
use Rattle.run.specs.declared.settings.Record.{Record}
use Rattle.run.specs.Model.{frame_count}
use Rattle.run.specs.PlainRun.{has_ended}
use Rattle.run.specs.Calls.{machine_of, lent_refusal, advance_refusal}
use Rattle.run.specs.Answers.{Lent}

-- a begin that is not refused before the initial state is made
pub record LentAll (s : Settings) (state work frames : ℕ) : Type 0 where
  pub lent : Lent s state work
  pub framed : s.skip ≡ false → frame_count s ≤ frames

pub lent_all : (s : Settings) (state work frames : ℕ) → lent_refusal s state work frames ≡ None → LentAll s state work frames
unfolding lent_refusal
lent_all s state work frames e =
    record {
      lent = record { sound = grind (arith, common_steps); state_fits = grind (arith, common_steps); work_fits = grind (arith, common_steps) };
      framed = λ f. grind (arith, common_steps);
    }

-- an advance that is not refused
pub record Taken (run : Record) (memory : List Float) (work budget : ℕ) : Type 0 where
  pub lent : Lent run.settings (length memory) work
  pub few : has_ended run.settings (machine_of run memory) ≡ false → run.steps + budget ≤ 2147483647

pub taken : (run : Record) (memory : List Float) (work budget : ℕ) → advance_refusal run memory work budget ≡ None → Taken run memory work budget
unfolding advance_refusal
taken run memory work budget e =
    record {
      lent = record { sound = grind (arith, common_steps); state_fits = grind (arith, common_steps); work_fits = grind (arith, common_steps) };
      few = λ f. grind (arith, common_steps);
    }
