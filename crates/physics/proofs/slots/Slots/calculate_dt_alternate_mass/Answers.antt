-- `Slots::calculate_dt_alternate_mass` meets its contract.
use Rattle.std.proofs.Common.{◌≡◌, ℕ, ◌<◌, ◌≤◌, false, ◌==◌, refl, ◌∙◌, arith}
use Rattle.vectors.specs.MemoryLaws.{grown_step}
use Rattle.physics.specs.Slots.{grown_slot, reads}
use Rattle.physics.specs.Passes.{mass_rate_in}
use Rattle.physics.proofs.slots.Slots.calculate_dt_alternate_mass.Goals as goal

pub loop-i-preserved : goal.loop-i-preserved
loop-i-preserved c =
    let n = c.args.self.now.n in
    let i = c.loop-i.i in
    let lt : i < n = omega arith in
    let le : i ≤ n = omega arith in
    grown_step c.loop-i.invariant refl (λ E f.
    let of = λ (k : ℕ) (e : (k == 15) ≡ false). reads n 15 k i f le e lt in
    c.dt_alternate_mass_at.ensures ∙ rw (of 19 refl, of 5 refl, of 6 refl, of 8 refl, of 1 refl))

pub returns : goal.returns
returns c =
    record {
      memory = refl;
      level = refl;
      points = refl;
      became = grown_slot 15 mass_rate_in c.loop-i.invariant (omega arith) (omega arith);
    }
