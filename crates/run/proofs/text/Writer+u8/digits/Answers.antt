-- `Writer::digits` meets its contract.
use Rattle.std.proofs.Common.{◌≡◌, ◌+◌, ◌-◌, length, take, drop, refl, ◌∙◌, arith, length-set, length-take, length-drop}
use Rattle.vectors.specs.MemoryLaws.{back}
use Rattle.run.specs.Written.{written, wider}
use Rattle.run.specs.ReportLaws.{length-digits}
use Rattle.run.proofs.Texts.{digit_turn, digits_all}
use Rattle.run.proofs.text.Writer+u8.digits.Goals as goal

pub loop-i-preserved : goal.loop-i-preserved
loop-i-preserved c =
    let v = c.loop-i in
    let a = c.args in
    let s = a.self.now in
    let lent = take (s.at + 1 + a.k - s.at) (drop s.at s.out.now) in
    let long : length lent ≡ 1 + a.k = simp (length-take, length-drop) (omega arith) in
    let set = length-set lent 0 32 in
    digit_turn 1 a.base v.i (v.i - 1) v.rest _ v.text (omega arith) (omega arith) c.digit_byte.ensures ∙ v.invariant

pub returns : goal.returns
returns c =
    let a = c.args in
    let s = a.self.now in
    let long : length (take (s.at + 1 + a.k - s.at) (drop s.at s.out.now)) ≡ 1 + a.k = simp (length-take, length-drop) (omega arith) in
    let l = length-digits a.base a.k a.n in
    wider (written refl (back _ _ _ _ _ (digits_all a.base a.k a.n _ _ _ _ c.loop-i.invariant (omega arith) long) (omega arith)) (omega arith) (omega arith)) (omega arith)
