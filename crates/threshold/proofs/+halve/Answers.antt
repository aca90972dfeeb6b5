-- `threshold::halve` meets its contract.
use Rattle.std.proofs.Common.{◌≡◌, refl, rules, arith}
use Rattle.std.proofs.lemmas.Grind.{common_steps}
use Rattle.run.specs.Answers.{ran_of}
use Rattle.run.specs.Refusal.{number_of}
use Rattle.threshold.proofs.HalvingsMade.{halved_none, halved_adjacent, halved_stopped, halved_further}
use Rattle.threshold.specs.Halving.{times_out, collapses, neither, refused_run}
use Rattle.threshold.specs.Search.{side_of}
use Rattle.threshold.proofs.Halves.{positive}
use Rattle.threshold.proofs.+halve.Goals as goal

pub returns-then-left-eq0 : goal.returns-then-left-eq0
returns-then-left-eq0 t c =
    let a = c.args in
    halved_none a.runs.unit a.runs.settings a.low a.high a.left a.made a.runs.budget a.state.now a.work.now _ c.if-left-eq0.true c.stopped.ensures

pub returns-then-high-low-eq1 : goal.returns-then-high-low-eq1
returns-then-high-low-eq1 t c =
    let a = c.args in
    halved_adjacent a.runs.unit a.runs.settings a.low a.high a.left a.made a.runs.budget a.state.now a.work.now _ (positive c.if-left-eq0.false) c.if-high-low-eq1.true c.stopped-then-high-low-eq1.ensures

pub returns-in-Ok-Timeout : goal.returns-in-Ok-Timeout
returns-in-Ok-Timeout t c =
    let a = c.args in
    let told : times_out ≡ side_of (ran_of c.run_at.result) = grind (arith, common_steps) in
    halved_further a.runs.unit a.runs.settings a.low a.high a.left a.made a.runs.budget a.state.now a.work.now (positive c.if-left-eq0.false) c.if-high-low-eq1.false
    (ran_of c.run_at.result) _ _ c.run_at.ensures _ told (search rules) (search rules) _ _ (λ go. refl) _ _ _ c.halve.ensures

pub returns-in-Ok-Collapse : goal.returns-in-Ok-Collapse
returns-in-Ok-Collapse t c =
    let a = c.args in
    let told : collapses ≡ side_of (ran_of c.run_at.result) = grind (arith, common_steps) in
    halved_further a.runs.unit a.runs.settings a.low a.high a.left a.made a.runs.budget a.state.now a.work.now (positive c.if-left-eq0.false) c.if-high-low-eq1.false
    (ran_of c.run_at.result) _ _ c.run_at.ensures _ told (search rules) (search rules) _ _ (λ go. refl) _ _ _ c.halve-in-Ok-Collapse.ensures

pub returns-in-Ok-Neither : goal.returns-in-Ok-Neither
returns-in-Ok-Neither t c =
    let a = c.args in
    let told : neither ≡ side_of (ran_of c.run_at.result) = grind (arith, common_steps) in
    halved_stopped a.runs.unit a.runs.settings a.low a.high a.left a.made a.runs.budget a.state.now a.work.now (positive c.if-left-eq0.false) c.if-high-low-eq1.false
    (ran_of c.run_at.result) _ _ c.run_at.ensures _ told _ c.stopped-in-Ok-Neither.ensures

pub returns-in-Err : goal.returns-in-Err
returns-in-Err t c =
    let a = c.args in
    let told : refused_run (number_of c.in-Err.refusal) ≡ side_of (ran_of c.run_at.result) = grind (arith, common_steps) in
    halved_stopped a.runs.unit a.runs.settings a.low a.high a.left a.made a.runs.budget a.state.now a.work.now (positive c.if-left-eq0.false) c.if-high-low-eq1.false
    (ran_of c.run_at.result) _ _ c.run_at.ensures _ told _ c.stopped-in-Err.ensures
