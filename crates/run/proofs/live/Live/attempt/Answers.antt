-- `run::live::Live::attempt` meets its contract.
use Rattle.std.proofs.Common.{ℕ, ◌*◌, ◌^◌, ◌<◌, length, sym, refl, ap, ◌∙◌, arith}
use Rattle.run.specs.Model.{frame_count, frame_of}
use Rattle.run.specs.ModelLaws.{frame_some}
use Rattle.run.proofs.Leaves.{frame_room}
use Rattle.run.proofs.OneAttempt.{count_fits, attempted_broken, attempted_plain, attempted_framed}
use Rattle.run.proofs.live.Live.attempt.Goals as goal

pub returns-then-has_nan : goal.returns-then-has_nan
returns-then-has_nan c =
    let made = c.step-time in
    attempted_broken _ _ c.requires _ _ made.ensures.work_after made.ensures.work_unchanged (omega arith)
    (record { state = refl; work = refl; frames = refl })
    (sym c.has_nan.ensures ∙ c.if-has_nan.true) refl refl refl refl refl

pub write_frame-requires : goal.write_frame-requires
unfolding frame_count
write_frame-requires c =
    let a = c.args.self.now in
    let room = c.requires.room c.if-clock.true in
    frame_room a.run.settings _ _ _ _ (record { sound = a.sound; state_fits = omega arith; work_fits = omega arith }) (rw c.frame_size.ensures (omega (arith, room)))

pub overflow_add-self-then-clock : goal.overflow_add-self-then-clock
overflow_add-self-then-clock c =
    let a = c.args.self.now in
    let small : length a.frames.now < 2 ^ 64 = omega arith in
    record { fits = count_fits a.count (length a.frames.now) (frame_some a.run.settings a.sound) (c.requires.room c.if-clock.true) small }

pub returns-then-clock : goal.returns-then-clock
unfolding frame_count frame_of
returns-then-clock c =
    let a = c.args.self.now in
    let made = c.step-time in
    attempted_framed a _ c.requires _ _ made.ensures.work_after made.ensures.work_unchanged (omega arith)
    (record { state = refl; work = refl; frames = refl })
    (sym c.has_nan.ensures ∙ c.if-has_nan.false) refl c.store_next.ensures c.if-clock.true refl
    c.write_frame.ensures.1 (ap (λ (f : ℕ). a.count * f) c.frame_size.ensures) c.write_frame.ensures.0

pub returns-else-clock : goal.returns-else-clock
returns-else-clock c =
    let made = c.step-time in
    attempted_plain _ _ c.requires _ _ made.ensures.work_after made.ensures.work_unchanged (omega arith)
    (record { state = refl; work = refl; frames = refl })
    (sym c.has_nan.ensures ∙ c.if-has_nan.false) refl c.store_next.ensures c.if-clock.false refl refl refl
