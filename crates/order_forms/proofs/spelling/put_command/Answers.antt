-- `order_forms::spelling::put_command` meets its contract.
use Rattle.std.specs.Prelude.{◌+◌, slice_index_or, slice_set}
use Rattle.std.proofs.Common.{refl, sym, arith, add-one, length-set, length-take-le, take_all}
use Rattle.std.proofs.Math.Seq.{take-suc}
use Rattle.run.specs.WriteLaws.{put_nil, wrote-length, wrote_one, wrote_both}
use Rattle.order_forms.proofs.spelling.put_command.Goals as goal

pub loop-i-init : goal.loop-i-init
loop-i-init c =
    let a = c.args in
    let out = slice_set a.out.now a.at a.code in
    record { is = sym (put_nil (a.at + 1) out); within = omega (arith, c.requires, length-set a.out.now a.at a.code) }

pub loop-i-preserved : goal.loop-i-preserved
loop-i-preserved c =
    let a = c.args in
    let s = a.operand.now in
    let i = c.loop-i.i in
    let long = length-set a.out.now a.at a.code in
    let one = wrote_one (a.at + 1 + i) (slice_index_or s i 0) c.loop-i.out (omega (arith, long, wrote-length c.loop-i.invariant)) in
    rw (add-one i, take-suc s i 0 (omega arith)) (wrote_both c.loop-i.invariant one (length-take-le i s (omega arith)) refl)

pub returns : goal.returns
returns c =
    let a = c.args in
    let s = a.operand.now in
    let all = take_all c.loop-i.i s (omega arith) in
    (omega arith, wrote_both (wrote_one a.at a.code a.out.now (omega arith)) (rw (sym all) c.loop-i.invariant) refl refl)
