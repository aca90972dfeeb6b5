-- A 1 that is shifted by at most 16.
use Rattle.std.proofs.Common.{◌≡◌, ℕ, ◌*◌, ◌%◌, ◌^◌, ◌≤◌, ◌∙◌, one-mul, arith, lit<, shl_exact}

pub shifted : (l : ℕ) → l ≤ 16 → 1 * 2 ^ l % 2 ^ 64 ≡ 2 ^ l
shifted l h = shl_exact 1 l 64 (lit< tt) (omega arith) ∙ one-mul (2 ^ l)
