-- `run::text::decimal_count` meets its contract.
use Rattle.std.proofs.Common.{◌≡◌, ◌+◌, ◌<◌, ◌≤◌, ◌*◌, ◌^◌, ℕ, arith, rules, sym, ◌∙◌, Option, None, Some}
use Rattle.std.specs.Option.{IfNone, IfSome, MatchOption}
use Rattle.run.specs.Report.{decimal_count}
use Rattle.run.proofs.Texts.{counted}
use Rattle.run.proofs.text.decimal_count.Goals as goal

by_log : (n : ℕ) (o : Option ℕ) (r : ℕ) → IfNone o (n ≡ 0) → IfSome o (λ k. 10 ^ k ≤ n) → IfSome o (λ k. n < 10 * 10 ^ k) → IfSome o (λ k. k < 20)
    → MatchOption o (r ≡ 1) (λ k. r ≡ k + 1) → (r ≡ decimal_count 19 n) × (r ≤ 20)
unfolding decimal_count
by_log n None r z l u b e = (rw (e, z), omega arith)
by_log n (Some k) r z l u b e = (e ∙ sym (counted 19 k n (omega arith) l u), omega arith)

pub returns : goal.returns
returns c =
    let log = c.checked_ilog10.ensures in
    by_log c.args.n c.checked_ilog10.result c.map_or.result log.none log.power_le log.next_power_gt log.bound (search rules)
