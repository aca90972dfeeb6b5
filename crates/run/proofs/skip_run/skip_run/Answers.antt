-- `run::skip_run::skip_run` meets its contract.
use Rattle.std.proofs.Common.{◌≡◌, [], refl, ap, rules, arith}
use Rattle.std.proofs.lemmas.Grind.{common_steps}
use Rattle.std.proofs.lemmas.Result.{err_from_is_err_and}
use Rattle.std.specs.Prelude.{Result, Ok, Err}
use Rattle.std.specs.Result.{MatchResult}
use Rattle.run.specs.declared.refusal.Refusal.{Refusal}
use Rattle.run.specs.declared.simulate.Begun.{Begun}
use Rattle.run.specs.declared.skip_run.NotRun.{NotRun}
use Rattle.run.specs.declared.skip_run.NotRun.TheVariants.{Begin}
use Rattle.run.specs.Answers.{began_of}
use Rattle.run.specs.SkipRunLaws.{refused_ran, accepted_ran}
use Rattle.run.proofs.skip_run.skip_run.Goals as goal

-- a refused begin, by what `map_err` makes of it
refused_by :
    (b : Result Begun Refusal) (e : NotRun) →
    MatchResult b (λ x. ◌≡◌ {A = Result Begun NotRun} (Err e) (Ok x)) (λ r. e ≡ Begin r) → (r : Refusal) × (b ≡ Err r) × (e ≡ Begin r)
refused_by (Ok x) e h = absurd (cc)
refused_by (Err r) e h = (r, refl, h)

pub returns-in_err-begun : goal.returns-in_err-begun
returns-in_err-begun c =
    let a = c.args in
    let call = c.begin in
    let p = err_from_is_err_and c.from_residual.result c.from_residual.ensures.1 in
    let q = refused_by call.result c.in_err-begun.field-0.0 c.in_err-begun.ensures.cases in
    rw (p.1, p.2, q.2)
    (refused_ran a.s a.amplitude a.state.now a.work.now [] refl a.budget call.result _ _ _ call.ensures.frames_after call.ensures.work_unchanged _ (ap began_of q.1))

pub returns : goal.returns
returns c =
    let a = c.args in
    let call = c.begin in
    let last = c.advance in
    let begun : ◌≡◌ {A = Result Begun Refusal} call.result (Ok c.in_ok-begun.begun) = grind (arith, common_steps) in
    accepted_ran a.s a.amplitude a.state.now a.work.now [] refl a.budget call.result _ _ _ call.ensures.frames_after call.ensures.work_unchanged
    _ _ (ap began_of begun) (search rules) last.result _ _ _ last.ensures.frames_after last.ensures.work_unchanged _ c.told.ensures
