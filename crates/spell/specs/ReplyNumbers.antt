-- The numbers of replies: 8 alone, or 1 to 4 with a position. 17 does not come: the program lends as many bytes as an order may have.
use Rattle.std.specs.Prelude.{ℕ, ◌≤◌, Bool, true, false, cond, List, ◌≡◌, refl, ltb, length}
use Rattle.std.proofs.Common.{arith}
use Rattle.run.specs.Order.{read_order}
use Rattle.run.specs.Order.{Read, Refused, Order}
use Rattle.claims.proofs.FaultExactly.{refused_number}
use Rattle.spell.specs.Reply.{refused, refused_at, reply_read, reply_of}

pub reply_number : (input : List ℕ) (number : ℕ) → reply_of input ≡ refused number → number ≡ 8
unfolding reply_of reply_read
reply_number input number h = go (ltb 4096 (length input)) (read_order input) h
  where
    go : (long : Bool) (r : Read) → cond long (refused 8) (reply_read input r) ≡ refused number → number ≡ 8
    go true r e = cc
    go false (Refused n at) e = let z : ◌≡◌ {A = ℕ} 0 1 = cc in absurd (omega arith)
    go false (Order set p) e = let z : ◌≡◌ {A = ℕ} 0 1 = cc in absurd (omega arith)

pub reply_position :
    (input : List ℕ) (number position : ℕ) → reply_of input ≡ refused_at number position →
    (1 ≤ number) × (number ≤ 4) × (position ≤ length input)
unfolding reply_of reply_read
reply_position input number position h = go (ltb 4096 (length input)) (read_order input) refl h
  where
    go :
        (long : Bool) (r : Read) → read_order input ≡ r → cond long (refused 8) (reply_read input r) ≡ refused_at number position →
        (1 ≤ number) × (number ≤ 4) × (position ≤ length input)
    go true r e h = let z : ◌≡◌ {A = ℕ} 0 1 = cc in absurd (omega arith)
    go false (Refused n at) e h =
        let same : number ≡ n = cc in
        let there : position ≡ at = cc in
        let known = refused_number input n at e in (omega arith, omega arith, omega arith)
    go false (Order set p) e h = let z : ◌≡◌ {A = ℕ} 0 1 = cc in absurd (omega arith)
