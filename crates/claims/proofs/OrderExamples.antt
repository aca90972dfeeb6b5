-- 01's own order has the form of orders.
use Rattle.std.specs.Prelude.{[], ◌∷◌, ℕ}
use Rattle.std.proofs.Common.{ap}
use Rattle.run.specs.Order.{places}
use Rattle.run.specs.OrderLines.{budgets_from}
use Rattle.claims.specs.OrderForm.{HasBytes}
use Rattle.claims.specs.OrderExamples.{order01, set01, order01_read, order01_budget}
use Rattle.claims.proofs.BytesExactly.{bytes_exactly}

-- so it has the form, of its bytes: `HasBytes` is not empty
pub order01_bytes : HasBytes order01 set01 (1 ∷ [])
unfolding budgets_from
order01_bytes =
    (bytes_exactly order01 set01 (1 ∷ [])).0
    (record { places = places 1 10 12 21 30 32 34 1; read = order01_read; told = ap (λ (n : ℕ). n ∷ []) order01_budget })
