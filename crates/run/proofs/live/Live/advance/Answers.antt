-- `run::live::Live::advance` meets its contract.
use Rattle.std.proofs.Common.{arith, refl}
use Rattle.std.proofs.lemmas.Grind.{common_steps}
use Rattle.run.specs.Calls.{advance_of, advance_uses, advance_refusal}
use Rattle.run.proofs.live.Live.advance.Goals as goal

pub attempts-requires : goal.attempts-requires
unfolding advance_refusal
attempts-requires c =
    let a = c.args.self.now in
    let sound = a.sound in
    let state = a.state_fits in
    let work = a.work_fits in
    (c.requires, grind (arith, common_steps))

pub returns-then-self-budget-gt2147483647 : goal.returns-then-self-budget-gt2147483647
unfolding advance_of advance_uses advance_refusal
returns-then-self-budget-gt2147483647 c =
    let a = c.args.self.now in
    let sound = a.sound in
    let state = a.state_fits in
    let work = a.work_fits in
    record { memories = record { state = refl; work = refl; frames = refl }; left = grind (arith, common_steps); work_is = grind (arith, common_steps) }
