-- `third_differences` meets its contract: three runs over the part that follows.
use Rattle.std.proofs.Common.{◌∙◌, length, take, ap, sym, arith}
use Rattle.std.proofs.lemmas.List.{length-take-le}
use lib.Ieee.{nan}
use Rattle.vectors.specs.Memory.{tab, part}
use Rattle.vectors.specs.MemoryLaws.{length_part, length_tab, filled_none, filled_all}
use Rattle.physics.specs.Passes.{half_val}
use Rattle.physics.specs.Slots.{lent_before, put_after}
use Rattle.physics.proofs.equations.third_differences.Goals as goal

pub returns : goal.returns
returns g c = λ f gives.
    let a = c.args in
    let n = a.n in
    let w = a.w.now in
    let places = c.requires.places in
    let parts = c.split_at_mut-before.ensures in
    let v = part a.from n w in
    let out = take n c.split_at_mut-before.result.1.now in
    let long = length_part a.from n w (omega arith) in
    let is = lent_before a.to a.from n _ w parts.front places.after in
    let below = rw (sym (ap length is ∙ long)) at gives in
    let filled = (c.third_difference_run-3.ensures.made f below).grow out ((c.third_difference_run-2.ensures.made f below).grow out ((c.third_difference_run.ensures.made f below).grow out (filled_none 0 _ out))) in
    let made = rw is at (filled_all nan filled (length-take-le n _ (omega arith))) in
    rw (parts.front, parts.back, made) (put_after a.to n (tab n (half_val f v)) w (length_tab n (half_val f v)))
