-- `vectors::exp::mantissa` meets its contract: the code's table is `mantissas`.
use Rattle.std.proofs.Common.{◌≡◌, refl, ap}
use Rattle.std.specs.Prelude.{List, ℕ, get_or}
use Rattle.vectors.specs.ExpTable.{mantissas, mantissa_of}
use Rattle.vectors.proofs.exp.mantissa.Goals as goal

entry : (table : List ℕ) (j : ℕ) → table ≡ mantissas → get_or table j 0 ≡ mantissa_of j
unfolding mantissa_of
entry table j e = ap (λ (xs : List ℕ). get_or xs j 0) e

pub returns : goal.returns
unfolding mantissas
returns c = entry _ c.args.j refl
