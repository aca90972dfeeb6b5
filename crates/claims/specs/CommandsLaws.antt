-- Laws of the list of commands from a position on.
use Rattle.std.specs.Prelude.{ℕ, zero, suc, ◌+◌, ◌≤◌, ◌<◌, Bool, true, false, cond, List, [], ◌∷◌, ◌≡◌, refl, leb, length}
use Rattle.std.proofs.Common.{ap, arith, leb-true, leb-false, le-leb}
use Rattle.std.proofs.lemmas.Bool.{lt-leb}
use Rattle.run.specs.Order.{command_at, next_at}
use Rattle.run.specs.OrderLaws.{next_after}
use Rattle.run.specs.Order.{Command}
use Rattle.claims.specs.OrderForm.{commands_from}

-- where none stands
pub commands_none : (n : ℕ) (s : List ℕ) (at : ℕ) → length s ≤ at → commands_from n s at ≡ []
unfolding commands_from
commands_none zero s at h = refl
commands_none (suc n) s at h = rw (le-leb (length s) at h)

-- where one stands, it is the first
pub record More (s : List ℕ) (at n : ℕ) (c : Command) : Type 0 where
  pub m : ℕ
  pub enough : length s ≤ m + next_at s at
  pub is : commands_from n s at ≡ c ∷ commands_from m s (next_at s at)

pub more_of : (s : List ℕ) (at n : ℕ) {c : Command} → at < length s → length s ≤ n + at → command_at s at ≡ c → More s at n c
unfolding commands_from
more_of s at zero l h e = absurd (omega arith)
more_of s at (suc m) l h e =
    record {
      m = m;
      enough = omega (arith, next_after s at l);
      is = rw (lt-leb (length s) at l) (ap (λ (c : Command). c ∷ commands_from m s (next_at s at)) e);
    }

-- a list that starts with a command has it there
pub record Head (s : List ℕ) (at n : ℕ) (c : Command) (rest : List Command) : Type 0 where
  pub m : ℕ
  pub fuel : n ≡ suc m
  pub inside : at < length s
  pub is : command_at s at ≡ c
  pub then : commands_from m s (next_at s at) ≡ rest

pub heads : {A : Type 0} {x y : A} {xs ys : List A} → x ∷ xs ≡ y ∷ ys → (x ≡ y) × (xs ≡ ys)
heads e = (cc, cc)

pub head_of : (n : ℕ) (s : List ℕ) (at : ℕ) (c : Command) (rest : List Command) → commands_from n s at ≡ c ∷ rest → Head s at n c rest
unfolding commands_from
head_of zero s at c rest e = absurd (omega (arith, ap length e))
head_of (suc m) s at c rest e = go (leb (length s) at) refl e
  where
    go : (b : Bool) → leb (length s) at ≡ b → cond b [] (command_at s at ∷ commands_from m s (next_at s at)) ≡ c ∷ rest → Head s at (suc m) c rest
    go true l e = absurd (omega (arith, ap length e))
    go false l e = let h = heads e in record { m = m; fuel = refl; inside = leb-false (length s) at l; is = h.0; then = h.1 }

-- an empty list: none stands there
pub none_left : (n : ℕ) (s : List ℕ) (at : ℕ) → commands_from n s at ≡ [] → length s ≤ n + at → length s ≤ at
unfolding commands_from
none_left zero s at e h = omega arith
none_left (suc n) s at e h = go (leb (length s) at) refl e
  where
    go : (b : Bool) → leb (length s) at ≡ b → cond b [] (command_at s at ∷ commands_from n s (next_at s at)) ≡ [] → length s ≤ at
    go true l e = leb-true (length s) at l
    go false l e = absurd (omega (arith, ap length e))
