-- `capi::numbers::whole_in` meets its contract: what is in range is cut off to 64 bits and to 32 alike.
use Rattle.std.proofs.Common.{◌≡◌, sym, ◌∙◌, arith, rules}
use Rattle.std.specs.Float.Ieee.{to_unsigned}
use Rattle.vectors.proofs.Floats.{whole_in_lem}
use Rattle.capi.specs.Numbers.{whole_in}
use Rattle.capi.specs.NumbersLaws.{cut_is, cut_small, cut_asks, whole_out}
use Rattle.capi.proofs.numbers.whole_in.Goals as goal

pub returns-then-not-in_range : goal.returns-then-not-in_range
returns-then-not-in_range c = whole_out c.args.x (sym c.in_range.ensures ∙ c.if-not-in_range.true)

pub truncating_f64_to_u64-n-requires-clause-upper_bound : goal.truncating_f64_to_u64-n-requires-clause-upper_bound
truncating_f64_to_u64-n-requires-clause-upper_bound c = (cut_asks c.args.x (sym c.in_range.ensures ∙ c.if-not-in_range.false)).1

pub int_to_float-n : goal.int_to_float-n
int_to_float-n c =
    let ranged = sym c.in_range.ensures ∙ c.if-not-in_range.false in
    whole_in_lem _ (omega (arith, cut_small c.args.x _ ranged c.truncating_f64_to_u64-n.ensures))

pub overflow_cast-n : goal.overflow_cast-n
overflow_cast-n c =
    record { fits = cut_small c.args.x _ (sym c.in_range.ensures ∙ c.if-not-in_range.false) c.truncating_f64_to_u64-n.ensures }

pub returns : goal.returns
unfolding whole_in
returns c =
    let cut : c.truncating_f64_to_u64-n.result ≡ to_unsigned 32 c.args.x =
    cut_is c.args.x _ (sym c.in_range.ensures ∙ c.if-not-in_range.false) c.truncating_f64_to_u64-n.ensures in
    rw cut at c.then_some.ensures ∙ search rules
