-- `vectors::grid::delta` meets its contract.
use Rattle.std.proofs.Common.{◌≡◌, ℕ, zero, suc, ◌-◌, ◌≤◌, false, pos, neg_ℤ, sym, ap, ◌∙◌, arith}
use Rattle.std.proofs.lemmas.Bool.{lt-leb}
use lib.Ieee.{fin, minus}
use Rattle.vectors.specs.GridLaws.{spacing_in}
use Rattle.vectors.proofs.grid.delta.Goals as goal

-- the power of two at 1024 - l
exponent : (l : ℕ) → 1 ≤ l → l ≤ 1024 → minus (1024 - l) 1024 ≡ neg_ℤ (pos l)
exponent zero a b = absurd (omega arith)
exponent (suc l) a b =
    let d : 1024 - suc (1024 - suc l) ≡ l = omega arith in
    simp (lt-leb 1024 (1024 - suc l) (omega arith), d)

pub returns-in-5-to-16 : goal.returns-in-5-to-16
returns-in-5-to-16 c =
    let l = c.args.level in
    c.power_of_two.ensures
    ∙ ap (fin false 1) (rw c.from.ensures (exponent l (omega arith) (omega arith)))
    ∙ sym (spacing_in (record { least = omega arith; most = omega arith }))
