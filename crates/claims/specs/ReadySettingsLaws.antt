-- Settings still to come: none of them has come, each comes once, and with them all six have come. No fault is found in them.
use Rattle.std.specs.Prelude.{ℕ, zero, suc, ◌+◌, ◌≤◌, ◌<◌, Bool, true, false, ◌⊎◌, ◌≡◌, refl, eqb}
use mathlib.Core.List.{List, ◌∷◌, Permᴰ}
use Rattle.std.proofs.Common.{inl, inr, sym, ap, ◌∙◌, arith, eqb-true}
use Rattle.std.proofs.lemmas.Bool.{eqb-false}
use Rattle.vectors.specs.MemoryLaws.{side}
use Rattle.run.specs.Order.{no_places, noted, begun, command_fault}
use Rattle.run.specs.declared.settings.Settings.{Settings}
use Rattle.run.specs.Order.{Command}
use Rattle.run.specs.declared.order.Places.{Places}
use Rattle.claims.specs.OrderForm.{setting_commands}
use Rattle.claims.specs.CommandKindLaws.{times_here, times_other, times_tail, times_perm, six_some, six_none, six_most}
use Rattle.claims.specs.OrderFaults.{kind, times}
use Rattle.claims.specs.SettingPlacesLaws.{place_of, own_place, other_place, begun_setting, fault_setting}

pub record Ready (p : Places) (cs : List Command) : Type 0 where
  pub idle : begun p ≡ false
  pub free : (k : ℕ) → 0 < times k cs → place_of p k ≡ 0
  pub once : (k : ℕ) → times k cs ≤ 1
  pub only : (k : ℕ) → 6 ≤ k → times k cs ≡ 0
  pub all : (k : ℕ) → k < 6 → 0 < place_of p k + times k cs

pub ready_kind : {p : Places} (c : Command) (cs : List Command) → Ready p (c ∷ cs) → kind c < 6
ready_kind c cs r = elim (side (kind c) 6) [
  | inl h ↦ h
  | inr h ↦ absurd (omega (arith, r.only (kind c) h, times_here c cs))
]

pub ready_fault : {p : Places} (c : Command) (cs : List Command) → Ready p (c ∷ cs) → command_fault p c ≡ 0
ready_fault {p} c cs r = fault_setting p c (ready_kind c cs r) r.idle (r.free (kind c) (omega (arith, times_here c cs)))

module _ (p : Places) (c : Command) (cs : List Command) (from : ℕ) (h : 0 < from) (r : Ready p (c ∷ cs)) where
  -- of each kind: this one, which comes no more, or another, of which nothing changes
  abbrev Which : ℕ → Type 0
  Which k =
      ((kind c ≡ k) × (place_of (noted p c from) k ≡ from) × (times k cs ≡ 0))
      ⊎ ((place_of (noted p c from) k ≡ place_of p k) × (times k (c ∷ cs) ≡ times k cs))

  which : (k : ℕ) → Which k
  which k = go (eqb k (kind c)) refl
    where
      go : (b : Bool) → eqb k (kind c) ≡ b → Which k
      go true b =
          let same : kind c ≡ k = sym (eqb-true k (kind c) b) in
          let gone : times (kind c) cs ≡ 0 = omega (arith, r.once (kind c), times_here c cs) in
          inl (same, ap (place_of (noted p c from)) (sym same) ∙ own_place p c from (ready_kind c cs r), ap (λ (j : ℕ). times j cs) (sym same) ∙ gone)
      go false b =
          let other = eqb-false k (kind c) b in
          inr (other_place p c from k (ready_kind c cs r) other, times_other k c cs (λ z. other (sym z)))

  pub ready_next : Ready (noted p c from) cs
  ready_next =
      record {
        idle = begun_setting p c from (ready_kind c cs r) ∙ r.idle;
        free = λ k l. elim (which k) [
          | inl w ↦ absurd (omega (arith, w.2))
          | inr w ↦ w.0 ∙ r.free k (omega (arith, w.1))
        ];
        once = λ k. omega (arith, r.once k, times_tail k c cs);
        only = λ k l. omega (arith, r.only k l, times_tail k c cs);
        all = λ k l. elim (which k) [
          | inl w ↦ omega (arith, w.1)
          | inr w ↦ omega (arith, w.0, w.1, r.all k l)
        ];
      }

pub none_yet : (k : ℕ) → place_of no_places k ≡ 0
unfolding place_of
none_yet zero = refl
none_yet (suc zero) = refl
none_yet (suc (suc zero)) = refl
none_yet (suc (suc (suc zero))) = refl
none_yet (suc (suc (suc (suc zero)))) = refl
none_yet (suc (suc (suc (suc (suc zero))))) = refl
none_yet (suc (suc (suc (suc (suc (suc k)))))) = refl

-- before the first command
pub ready_first : (set : Settings) (cs : List Command) → Permᴰ cs (setting_commands set) → Ready no_places cs
unfolding begun
ready_first set cs d =
    record {
      idle = refl;
      free = λ k l. none_yet k;
      once = λ k. omega (arith, times_perm k d, six_most set k);
      only = λ k l. omega (arith, times_perm k d, six_none set k l);
      all = λ k l. omega (arith, times_perm k d, six_some set k l);
    }
