-- `run::state_output_builder::compute_radial_gradient` meets its contract: `diff` refuses nothing here.
use Rattle.std.proofs.Common.{◌≡◌, ℕ, ◌+◌, ◌-◌, ◌*◌, List, [], ◌∷◌, length, take, drop, refl, ap, ◌∙◌, arith, eq-eqb}
use Rattle.std.specs.Prelude.{Result}
use lib.Ieee.{Float}
use Rattle.vectors.specs.declared.answer.Refusal.{Refusal}
use Rattle.vectors.specs.Answer.{number_of, left_by}
use Rattle.vectors.specs.Fault.{fault_of, all_fit}
use Rattle.vectors.specs.FaultLaws.{left_accepted}
use Rattle.vectors.specs.Grid.{points_of, spacing_of}
use Rattle.vectors.specs.GridLaws.{Level}
use Rattle.vectors.specs.Memory.{part}
use Rattle.vectors.specs.MemoryLaws.{lent, length_part, back}
use Rattle.vectors.specs.Stencil.{diff_of}
use Rattle.vectors.specs.StencilLaws.{length-diff_of}
use Rattle.run.proofs.state_output_builder.compute_radial_gradient.Goals as goal

-- what is left by a call on two memories of the right lengths
left_done : (level a b : ℕ) (answer : Result (Unit {0}) Refusal) (result before : List Float) → Level level → a ≡ points_of level → b ≡ points_of level
    → number_of answer ≡ fault_of level (all_fit level (a ∷ b ∷ [])) → left_by answer result before ≡ result
unfolding all_fit
left_done level a b answer result before l p q e =
    left_accepted level (all_fit level (a ∷ b ∷ [])) answer result before l (rw (eq-eqb a (points_of level) p, eq-eqb b (points_of level) q)) e

-- the field, as it is lent
lent_field_lem : (n : ℕ) (state : List Float) → take (n - 0) (drop 0 state) ≡ part (0 * n) n state
lent_field_lem n state =
    let z : 0 ≡ 0 * n = omega arith in
    lent 0 n n state (omega arith) ∙ ap (λ (k : ℕ). part k n state) z

pub returns : goal.returns
returns c =
    let a = c.args in
    let pre = c.requires in
    let n = a.n in
    let state = a.state.now in
    let work = a.work.now in
    let end = a.from + n in
    let field = part (0 * n) n state in
    let field_length : length field ≡ n = length_part (0 * n) n state (omega arith) in
    let lent_length : length (take (n - 0) (drop 0 state)) ≡ n = ap length (lent_field_lem n state) ∙ field_length in
    let out_length : length (take (end - a.from) (drop a.from work)) ≡ n = ap length (lent a.from end n work refl) ∙ length_part a.from n work pre.work in
    let done = c.diff.ensures.left
    ∙ left_done a.level _ _ c.diff.result _ _ pre.ranged (lent_length ∙ pre.points) (out_length ∙ pre.points) c.diff.ensures.refused
    ∙ ap (diff_of (spacing_of a.level)) (lent_field_lem n state) in
    let length-is = length-diff_of (spacing_of a.level) field ∙ field_length in
    record { is = back a.from end _ _ work done (omega arith); within = omega (arith, pre.work) }
