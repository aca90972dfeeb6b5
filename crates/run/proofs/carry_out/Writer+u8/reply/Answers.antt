-- `Writer::reply` meets its contract.
use Rattle.std.proofs.Common.{◌≡◌, ◌∙◌, ℕ, List, length, refl, ap, arith}
use Rattle.std.proofs.lemmas.Grind.{common_steps}
use Rattle.std.specs.Prelude.{Result, Ok}
use Rattle.vectors.specs.Memory.{put}
use Rattle.run.specs.declared.refusal.Refusal.{Refusal}
use Rattle.run.specs.declared.simulate.Answer.{Answer}
use Rattle.run.specs.declared.simulate.Answer.TheVariants.{Ran}
use Rattle.run.specs.declared.writer.Writer.{Writer as Held}
use Rattle.run.specs.Calls.{frames_told, frames_in}
use Rattle.run.specs.Lines.{outcome, text_of, reply_lines}
use Rattle.run.specs.LinesLaws.{texts_of_one}
use Rattle.run.specs.Model.{frame_count}
use Rattle.run.specs.Outcome.{meant_by}
use Rattle.run.specs.Written.{Written, then, wider}
use Rattle.run.proofs.Carrying.{size_is, texts_then}
use Rattle.run.proofs.carry_out.Writer+u8.reply.Goals as goal

-- what was written from a place on, of another struct that stands there in the same memory
from_there : {n : ℕ} {ys : List ℕ} {a b c : Held ℕ} → a.out ≡ b.out → a.at ≡ b.at → Written n ys a c → Written n ys b c
from_there {ys} {a} {b} same place w =
    let now = ap (λ out. out.now) same in
    let len = ap length now in
    record {
      memory = w.memory ∙ ap (λ out. out.ghost_name) same;
      is = w.is ∙ ap (λ at. put at ys a.out.now) place ∙ ap (put b.at ys) now;
      ends = omega (arith, place, w.ends);
      within = omega (arith, place, len, w.within);
      short = w.short;
      long = w.long ∙ len;
    }

pub returns-in-Err : goal.returns-in-Err
unfolding reply_lines text_of
returns-in-Err c = rw (c.in-Err.is, texts_of_one, ← c.into.ensures) (wider c.refusal.ensures (omega arith))

pub returns-in-Ok-Ran : goal.returns-in-Ok-Ran
unfolding frames_told reply_lines text_of
returns-in-Ok-Ran c =
    let a = c.args in
    let e = size_is a.done.record.settings c.frame_size-in-Ok-Ran.ensures in
    let known : ◌≡◌ {A = Result Answer Refusal} a.done.answer (Ok (Ran c.in-Ok-Ran.outcome c.in-Ok-Ran.count)) = grind (arith, common_steps) in
    rw (known, texts_then (frames_in c.in-Ok-Ran.count (frame_count a.done.record.settings) a.frames.now) (outcome (meant_by c.in-Ok-Ran.outcome) a.done.record.steps a.done.record.time))
    (then (rw e at c.frames-in-Ok-Ran.ensures) (from_there {b = c.frames-in-Ok-Ran.new.self} refl refl c.outcome.ensures))
