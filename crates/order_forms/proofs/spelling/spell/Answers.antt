-- `order_forms::spelling::spell` meets its contract.
use Rattle.std.proofs.Common.{sym, arith}
use Rattle.std.proofs.lemmas.Result.{err_from_is_err_and}
use Rattle.order_forms.specs.SpellingAnswers.{spelling_refused, spelling_short}
use Rattle.order_forms.proofs.Writing.{spell_fits, spell_done}
use Rattle.order_forms.proofs.spelling.spell.Goals as goal

pub returns-in_err-order : goal.returns-in_err-order
returns-in_err-order c =
    let error = err_from_is_err_and c.from_residual.result c.from_residual.ensures.1 in
    rw (error.1, error.2) (sym (spelling_refused c.args.input.now c.args.out.now _ _ (sym c.in_err-order.ensures)))

pub returns-then-out-size : goal.returns-then-out-size
returns-then-out-size c =
    let a = c.args in
    sym (spelling_short a.input.now a.out.now _ _ (sym c.in_ok-order.ensures) (omega arith))

pub put_order-requires : goal.put_order-requires
put_order-requires c =
    let a = c.args in
    spell_fits a.input.now a.out.now _ _ (sym c.in_ok-order.ensures) (omega arith)

pub returns : goal.returns
returns c =
    let a = c.args in
    spell_done a.input.now a.out.now _ _ (sym c.in_ok-order.ensures) (omega arith) c.put_order.ensures
