-- `run::order::read_order` meets its contract.
use Rattle.std.proofs.Common.{◌≡◌, ℕ, ◌<◌, ◌≤◌, List, length, refl, ap, arith}
use Rattle.std.proofs.lemmas.Bool.{false≢true}
use Rattle.run.specs.Order.{begun, CommandRead, command_read_at, command_fault, no_places}
use Rattle.run.specs.OrderLaws.{next_after}
use Rattle.run.specs.OrderAnswers.{so_far, Whole}
use Rattle.run.specs.declared.order.Places.{Places}
use Rattle.run.proofs.Orders.{Rest, Here, rest_first, rest_none, rest_fault, rest_end, rest_more, count_noted, whole_noted, numbered}
use Rattle.run.proofs.order.read_order.Goals as goal

none_came : {s : List ℕ} {p : Places} → p ≡ no_places → (p.count ≤ 0) × Whole p × Rest s p 0
unfolding begun
none_came {s} e = rw e (omega arith, λ b. absurd (false≢true b), rest_first s)

pub loop-at-init : goal.loop-at-init
loop-at-init c = let none : so_far c.default-seen.result ≡ no_places = cc in none_came none

-- the command of a turn and its fault
here_at : (input : List ℕ) (p : Places) (at : ℕ) {r : CommandRead} {fault : ℕ} → Rest input p at → at < length input → r ≡ command_read_at input at → fault ≡ command_fault p r.command
    → Here input p at r.command fault
here_at input p at rest inside is fault_is =
    record { rest = rest; inside = inside; command = ap (λ (r : CommandRead). r.command) is; fault_is = fault_is }

later_at : (input : List ℕ) (at : ℕ) {r : CommandRead} → at < length input → r ≡ command_read_at input at → at < r.next
later_at input at inside is = omega (arith, ap (λ (r : CommandRead). r.next) is, next_after input at inside)

pub returns-in-Ok-Break : goal.returns-in-Ok-Break
returns-in-Ok-Break c =
    let told = rw c.in-Ok-Break.field-0-is at c.in-Ok-Break.ensures in
    let here = here_at c.args.input.now (so_far c.loop-at.seen) c.loop-at.at c.loop-at.invariant.2 (omega arith) c.read_command-read.ensures told.fault in
    rest_end here refl told.noted.1 told.noted.0 c.end_order.ensures

pub returns-in-Err : goal.returns-in-Err
returns-in-Err c =
    let here = here_at c.args.input.now (so_far c.loop-at.seen) c.loop-at.at c.loop-at.invariant.2 (omega arith) c.read_command-read.ensures c.in-Err.ensures.fault in
    rest_fault here (numbered c.in-Err.fault)

pub loop-at-smaller : goal.loop-at-smaller
loop-at-smaller c =
    let less = later_at c.args.input.now c.loop-at.at (omega arith) c.read_command-read.ensures in
    omega arith

pub loop-at-preserved : goal.loop-at-preserved
loop-at-preserved c =
    let told = rw c.in-Ok-Continue.field-0-is at c.in-Ok-Continue.ensures in
    let here = here_at c.args.input.now (so_far c.loop-at.seen) c.loop-at.at c.loop-at.invariant.2 (omega arith) c.read_command-read.ensures told.fault in
    let less = later_at c.args.input.now c.loop-at.at (omega arith) c.read_command-read.ensures in
    let counted = count_noted (so_far c.loop-at.seen) _ _ c.loop-at.invariant.0 told.noted.0 in (
      omega arith,
      rw told.noted.0 (whole_noted _ _ _ c.loop-at.invariant.1 told.fault refl),
      rest_more here refl told.noted.1 told.noted.0 (ap (λ (r : CommandRead). r.next) c.read_command-read.ensures),
    )

pub returns : goal.returns
returns c = rest_none c.loop-at.invariant.2 (omega arith)
