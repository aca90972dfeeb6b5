-- `Slots::calculate_dt_conj_momentum` meets its contract.
use Rattle.std.proofs.Common.{◌≡◌, ℕ, ◌<◌, ◌≤◌, false, ◌==◌, refl, sym, ◌∙◌, add-zero, arith, ne_eqb}
use lib.Ieee.{nan}
use Rattle.vectors.specs.Memory.{tab}
use Rattle.vectors.specs.MemoryLaws.{grown_step, filled_none, filled_put, step, length_tab}
use Rattle.physics.specs.Slots.{slots, slot_start, wrote, reads, mine}
use Rattle.physics.specs.Passes.{momentum_rate_in}
use Rattle.physics.proofs.slots.Slots.calculate_dt_conj_momentum.Goals as goal

pub loop-i-preserved : goal.loop-i-preserved
loop-i-preserved c =
    let n = c.args.self.now.n in
    let i = c.loop-i.i in
    let lt : i < n = omega arith in
    let le : i ≤ n = omega arith in
    let far : i ≡ 0 → ⊥ = λ e. omega arith in
    grown_step c.loop-i.invariant refl (λ E f.
    let of = λ (k : ℕ) (e : (k == 14) ≡ false). reads n 14 k i f le e lt in
    c.dt_conj_momentum_at.ensures ∙ rw (of 7 refl, of 9 refl, of 5 refl, of 8 refl, of 19 refl, of 6 refl, mine n 14 f lt, ne_eqb i 0 far))

pub returns : goal.returns
returns c =
    let n = c.args.self.now.n in
    let w = c.args.self.now.w.now in
    let first = rw (slot_start n 9 w (omega arith), slot_start n 6 w (omega arith), slot_start n 14 w (omega arith)) at c.dt_conj_momentum_at_origin.ensures in
    let e : c.loop-i.i ≡ n = omega arith in
    record {
      memory = refl;
      level = refl;
      points = refl;
      became = wrote n 14 (λ S. tab n (momentum_rate_in S)) w _ (length_tab n _) (omega arith)
          (filled_put nan (rw e at (c.loop-i.invariant.grow w (step (filled_none _ (momentum_rate_in (slots n w)) w) (sym (add-zero _)) first))) (omega arith));
    }
