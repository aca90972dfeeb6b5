-- What the writer asks of its lengths.
use Rattle.std.specs.Prelude.{ℕ, ◌+◌, ◌*◌, ◌≤◌, ◌≡◌}
use Rattle.run.specs.declared.order.Places.{Places}

-- an order of `size` bytes with these places, and room for it
pub record Fits (size : ℕ) (p : Places) (room : ℕ) : Type 0 where
  pub amplitude : p.amplitude + 8 ≤ size
  pub level : p.level + 1 ≤ size
  pub max_time : p.max_time + 8 ≤ size
  pub interval : p.interval + 8 ≤ size
  pub dx_level : p.dx_level + 1 ≤ size
  pub skip : p.skip + 1 ≤ size
  pub advances : p.advances + 5 * p.count ≤ size
  pub whole : 35 + 5 * p.count ≡ size
  pub enough : size ≤ room
