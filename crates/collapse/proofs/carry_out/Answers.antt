-- `collapse::carry_out` meets its contract.
use Rattle.std.proofs.Common.{arith, sym, ◌∙◌}
use Rattle.collapse.proofs.Turns.{going_begin, nothing_yet, texts_more, going_on, going_falls, carried, carried_part}
use Rattle.collapse.proofs.carry_out.Goals as goal

-- ---- the call of begin_order
pub send-requires : goal.send-requires
send-requires g c = (going_begin _ _ _ _ _ c.requires _ _ _ _ c.begin_order-call.ensures.out_after).fits

pub returns-in_err-send : goal.returns-in_err-send
returns-in_err-send g c =
    let going = going_begin _ _ _ _ _ c.requires _ _ _ _ c.begin_order-call.ensures.out_after in
    carried_part _ _ _ _ _ _ _ _ 0 _ going _ _ _ (nothing_yet _ _ _ _ _ _) c.in_err-send.field-0.0 c.in_err-send.ensures.sent
    c.in_err-send.ensures.cut _ c.from_residual.ensures.1

pub loop-job-init : goal.loop-job-init
loop-job-init g c = record {
  state = omega arith;
  work = omega arith;
  frames = omega arith;
  out = omega arith;
  calls = 0;
  going = going_begin _ _ _ _ _ c.requires _ _ _ _ c.begin_order-call.ensures.out_after;
  before = _;
  earlier = nothing_yet _ _ _ _ _ _;
  sent = c.in_ok-send.ensures.sent;
}

-- ---- a call after one that left a job
pub send-requires-in-Some : goal.send-requires-in-Some
send-requires-in-Some g c =
    let i = c.loop-job.invariant in
    let left = sym c.left_of.ensures ∙ c.in-Some.is in
    omega (arith, (going_on _ _ _ _ _ _ _ _ _ i.calls _ i.going _ left i.frames _ _ _ _ c.go_on-call.ensures.out_after i.work).fits)

pub loop-job-smaller : goal.loop-job-smaller
loop-job-smaller g c =
    let i = c.loop-job.invariant in
    let left = sym c.left_of.ensures ∙ c.in-Some.is in
    going_falls _ _ _ _ _ _ c.loop-job.work _ _ i.calls _ i.going _ left i.frames _ _ _ _ c.go_on-call.ensures.out_after

pub loop-job-preserved : goal.loop-job-preserved
loop-job-preserved g c =
    let i = c.loop-job.invariant in
    let left = sym c.left_of.ensures ∙ c.in-Some.is in
    record {
      state = omega arith;
      work = omega arith;
      frames = omega arith;
      out = omega arith;
      calls = _;
      going = going_on _ _ _ _ _ _ _ _ _ i.calls _ i.going _ left i.frames _ _ _ _ c.go_on-call.ensures.out_after i.work;
      before = _;
      earlier = texts_more _ _ _ _ _ i.calls _ i.going _ _ _ i.earlier i.sent;
      sent = c.in_ok-send-2.ensures.sent;
    }

pub returns-in_err-send-2 : goal.returns-in_err-send-2
returns-in_err-send-2 g c =
    let i = c.loop-job.invariant in
    let left = sym c.left_of.ensures ∙ c.in-Some.is in
    let going = going_on _ _ _ _ _ _ _ _ _ i.calls _ i.going _ left i.frames _ _ _ _ c.go_on-call.ensures.out_after i.work in
    carried_part _ _ _ _ _ _ _ _ _ _ going _ _ _ (texts_more _ _ _ _ _ i.calls _ i.going _ _ _ i.earlier i.sent) c.in_err-send-2.field-0.0
    c.in_err-send-2.ensures.sent c.in_err-send-2.ensures.cut _ c.from_residual-in_err-send-2.ensures.1

-- ---- no job is left
pub returns : goal.returns
returns g c =
    let i = c.loop-job.invariant in
    carried _ _ _ _ _ _ _ _ i.calls _ i.going _ i.before _ i.earlier (sym c.left_of.ensures ∙ c.in_default.is) i.sent
