-- Laws of kinds of commands: how many of a kind a list has, and that the six settings are one of each kind of setting.
use Rattle.std.specs.Prelude.{ℕ, zero, suc, ◌+◌, ◌≤◌, ◌<◌, Bool, true, false, cond, List, [], ◌∷◌, ◌++◌, ◌≡◌, refl, ltb, eqb}
use mathlib.Core.List.{Permᴰ}
use Rattle.std.proofs.Common.{inl, inr, ap₂, ◌∙◌, arith, lt-ltb, le-ltb, eq-eqb, ne_eqb}
use Rattle.vectors.specs.MemoryLaws.{side}
use Rattle.run.specs.declared.settings.Settings.{Settings}
use Rattle.run.specs.Order.{Command, End}
use Rattle.claims.specs.OrderFaults.{kind, times}
use Rattle.claims.specs.OrderForm.{setting_commands}

-- the first of a kind
unfoldable pub first_of : ℕ → List Command → Command
first_of k [] = End
first_of k (c ∷ cs) = cond (eqb (kind c) k) c (first_of k cs)

pub times_here : (c : Command) (cs : List Command) → times (kind c) (c ∷ cs) ≡ suc (times (kind c) cs)
unfolding times
times_here c cs = rw (eq-eqb (kind c) (kind c) refl)

pub times_other : (k : ℕ) (c : Command) (cs : List Command) → (kind c ≡ k → ⊥) → times k (c ∷ cs) ≡ times k cs
unfolding times
times_other k c cs h = rw (ne_eqb (kind c) k h)

pub times_tail : (k : ℕ) (c : Command) (cs : List Command) → times k cs ≤ times k (c ∷ cs)
unfolding times
times_tail k c cs = go (eqb (kind c) k)
  where
    go : (b : Bool) → times k cs ≤ cond b (suc (times k cs)) (times k cs)
    go true = omega arith
    go false = omega arith

pub times-append : (k : ℕ) (xs ys : List Command) → times k (xs ++ ys) ≡ times k xs + times k ys
unfolding times
times-append k [] ys = let z : times k ys ≡ 0 + times k ys = omega arith in z
times-append k (x ∷ xs) ys = go (eqb (kind x) k) (times-append k xs ys)
  where
    go : (t : Bool) {m : ℕ} → m ≡ times k xs + times k ys → cond t (suc m) m ≡ cond t (suc (times k xs)) (times k xs) + times k ys
    go true e = omega arith
    go false e = e

pub times_perm : (k : ℕ) {xs ys : List Command} → Permᴰ xs ys → times k xs ≡ times k ys
unfolding times
times_perm k Permᴰ.nil = refl
times_perm k (Permᴰ.cons e d) = ap₂ (λ (c : Command) (t : ℕ). cond (eqb (kind c) k) (suc t) t) e (times_perm k d)
times_perm k (Permᴰ.swap {a} {b} {l = l} e f) =
    go (eqb (kind a) k) (eqb (kind b) k)
    ∙ ap₂ (λ (c d : Command). let rest = cond (eqb (kind d) k) (suc (times k l)) (times k l) in cond (eqb (kind c) k) (suc rest) rest) f e
  where
    go : (x y : Bool) → cond x (suc (cond y (suc (times k l)) (times k l))) (cond y (suc (times k l)) (times k l))
        ≡ cond y (suc (cond x (suc (times k l)) (times k l))) (cond x (suc (times k l)) (times k l))
    go true true = refl
    go true false = refl
    go false true = refl
    go false false = refl
times_perm k (Permᴰ.trans d g) = times_perm k d ∙ times_perm k g

pub first_perm : (k : ℕ) {xs ys : List Command} → times k xs ≤ 1 → Permᴰ xs ys → first_of k xs ≡ first_of k ys
unfolding first_of times
first_perm k h Permᴰ.nil = refl
first_perm k h (Permᴰ.cons {a} {l₁ = l₁} e d) =
    ap₂ (λ (c u : Command). cond (eqb (kind c) k) c u) e (first_perm k (omega (arith, times_tail k a l₁)) d)
first_perm k h (Permᴰ.swap {a} {b} {l = l} e f) =
    go (eqb (kind a) k) (eqb (kind b) k) h
    ∙ ap₂ (λ (c d : Command). cond (eqb (kind c) k) c (cond (eqb (kind d) k) d (first_of k l))) f e
  where
    go : (x y : Bool) → cond x (suc (cond y (suc (times k l)) (times k l))) (cond y (suc (times k l)) (times k l)) ≤ 1
        → cond x a (cond y b (first_of k l)) ≡ cond y b (cond x a (first_of k l))
    go true true m = absurd (omega arith)
    go true false m = refl
    go false true m = refl
    go false false m = refl
first_perm k h (Permᴰ.trans d g) = first_perm k h d ∙ first_perm k (omega (arith, times_perm k d)) g

-- each setting once, nothing else
six : (set : Settings) (k : ℕ) → times k (setting_commands set) ≡ cond (ltb k 6) 1 0
unfolding times kind setting_commands
six set zero = refl
six set (suc zero) = refl
six set (suc (suc zero)) = refl
six set (suc (suc (suc zero))) = refl
six set (suc (suc (suc (suc zero)))) = refl
six set (suc (suc (suc (suc (suc zero))))) = refl
six set (suc (suc (suc (suc (suc (suc k)))))) =
    let n = suc (suc (suc (suc (suc (suc k))))) in
    rw (ne_eqb 0 n (λ e. omega arith), ne_eqb 1 n (λ e. omega arith), ne_eqb 2 n (λ e. omega arith))
    (rw (ne_eqb 3 n (λ e. omega arith), ne_eqb 4 n (λ e. omega arith), ne_eqb 5 n (λ e. omega arith), le-ltb n 6 (omega arith)))

pub six_some : (set : Settings) (k : ℕ) → k < 6 → times k (setting_commands set) ≡ 1
six_some set k h = six set k ∙ rw (lt-ltb k 6 h)

pub six_none : (set : Settings) (k : ℕ) → 6 ≤ k → times k (setting_commands set) ≡ 0
six_none set k h = six set k ∙ rw (le-ltb k 6 h)

pub six_most : (set : Settings) (k : ℕ) → times k (setting_commands set) ≤ 1
six_most set k = elim (side k 6) [
  | inl h ↦ omega (arith, six_some set k h)
  | inr h ↦ omega (arith, six_none set k h)
]
