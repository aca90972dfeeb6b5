-- `set_bcs` meets its contract.
use Rattle.std.specs.Prelude.{Bool, cond, ℕ, List, Float, set}
use Rattle.std.specs.Float.{binary64}
use Rattle.std.proofs.Common.{◌≡◌, ◌+◌, ◌-◌, length, take, drop, refl, ap, ◌∙◌, arith, le-leb}
use lib.Ieee.{of_bits, of_int}
use Rattle.vectors.specs.Answer.{left_is, left_at}
use Rattle.vectors.specs.Fault.{short_of}
use Rattle.vectors.specs.Memory.{part}
use Rattle.vectors.specs.MemoryLaws.{lent, back, length_part}
use Rattle.vectors.specs.Stencil.{with_left_neumann}
use Rattle.physics.specs.BoundaryLaws.{length-bounded_of}
use Rattle.physics.specs.Equations.{bounded_of}
use Rattle.physics.proofs.equations.set_bcs.Goals as goal

pub returns : goal.returns
unfolding bounded_of of_bits of_int
returns c =
    let a = c.args in
    let w = a.w.now in
    let e = c.set_left_neumann_bc.ensures in
    let xs = part a.at a.n w in
    let l = length_part a.at a.n w (omega arith) in
    let raw = take (a.at + a.n - a.at) (drop a.at w) in
    let same : raw ≡ xs = lent a.at (a.at + a.n) a.n w refl in
    let fits = e.refused ∙ ap (λ (ys : List Float). short_of 5 (length ys)) same ∙ ap (short_of 5) l ∙ ap (λ (b : Bool). cond b 0 11) (le-leb 5 a.n (omega arith)) in
    let left = e.left ∙ left_is c.set_left_neumann_bc.result (with_left_neumann raw) raw ∙ ap (λ (k : ℕ). left_at k (with_left_neumann raw) raw) fits ∙ ap with_left_neumann same in
    let last : a.n - 1 ≡ length xs - 1 = omega arith in
    back a.at (a.at + a.n) (bounded_of xs) _ w
    (ap (λ (ys : List Float). set ys (a.n - 1) (of_bits binary64 0)) left ∙ ap (λ (k : ℕ). set (with_left_neumann xs) k (of_bits binary64 0)) last)
    (omega (arith, length-bounded_of xs))
