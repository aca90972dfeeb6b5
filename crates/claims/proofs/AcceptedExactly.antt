-- An order is accepted with these settings and budgets exactly if it has the form with them: `accepted_exactly`.
use Rattle.std.specs.Prelude.{ℕ, ◌↔◌, ◌≡◌, refl}
use mathlib.Core.List.{List, [], ◌∷◌, ◌++◌, map, Permᴰ}
use Rattle.std.proofs.Common.{sym, ap, ap₂, ◌∙◌, subst, arith}
use Rattle.run.specs.Order.{settings_at}
use Rattle.run.specs.OrderLines.{budgets_from}
use Rattle.run.specs.declared.settings.Settings.{Settings}
use Rattle.run.specs.Order.{Command, Amplitude, Level, MaxTime, Interval, DxLevel, Skip, Begin, Advance, End, Order}
use Rattle.claims.specs.OrderForm.{setting_commands, HasForm, Accepts}
use Rattle.claims.specs.CommandKindLaws.{first_of, times_here, times_tail, times_perm, first_perm, six_none, six_most}
use Rattle.claims.specs.OrderFaults.{kind, times}
use Rattle.claims.specs.CommandsLaws.{heads}
use Rattle.claims.specs.OrderFormLaws.{read_form}
use Rattle.claims.specs.FormReadLaws.{form_ends}

-- ---- an order has one form
advances_same : (bs cs : List ℕ) → map Advance bs ++ (End ∷ []) ≡ map Advance cs ++ (End ∷ []) → bs ≡ cs
unfolding kind
advances_same [] [] e = refl
advances_same [] (c ∷ cs) e = let z : kind End ≡ kind (Advance c) = ap kind (heads e).0 in absurd (omega arith)
advances_same (b ∷ bs) [] e = let z : kind (Advance b) ≡ kind End = ap kind (heads e).0 in absurd (omega arith)
advances_same (b ∷ bs) (c ∷ cs) e =
    let h = heads e in
    let same = h.0 in
    let first : b ≡ c = cc in
    ap₂ ◌∷◌ first (advances_same bs cs h.1)

split_same : (xs ys : List Command) {us vs : List Command} → times 6 xs ≡ 0 → times 6 ys ≡ 0 → xs ++ (Begin ∷ us) ≡ ys ++ (Begin ∷ vs) → (xs ≡ ys) × (us ≡ vs)
unfolding kind
split_same [] [] g h e = (refl, (heads e).1)
split_same [] (y ∷ ys) g h e =
    let z : kind y ≡ 6 = ap kind (sym (heads e).0) in
    absurd (omega (arith, times_here y ys, ap (λ (k : ℕ). times k (y ∷ ys)) z))
split_same (x ∷ xs) [] g h e =
    let z : kind x ≡ 6 = ap kind (heads e).0 in
    absurd (omega (arith, times_here x xs, ap (λ (k : ℕ). times k (x ∷ xs)) z))
split_same (x ∷ xs) (y ∷ ys) g h e =
    let w = heads e in
    let r = split_same xs ys (omega (arith, times_tail 6 x xs)) (omega (arith, times_tail 6 y ys)) w.1 in
    (ap₂ ◌∷◌ w.0 r.0, r.1)

settings_same : (a b : Settings) → Permᴰ (setting_commands a) (setting_commands b) → a ≡ b
unfolding first_of kind setting_commands
settings_same a b d =
    let f0 : Amplitude a.amplitude ≡ Amplitude b.amplitude = first_perm 0 (six_most a 0) d in
    let f1 : Level a.level ≡ Level b.level = first_perm 1 (six_most a 1) d in
    let f2 : MaxTime a.max_time ≡ MaxTime b.max_time = first_perm 2 (six_most a 2) d in
    let f3 : Interval a.interval ≡ Interval b.interval = first_perm 3 (six_most a 3) d in
    let f4 : DxLevel a.dx_level ≡ DxLevel b.dx_level = first_perm 4 (six_most a 4) d in
    let f5 : Skip a.skip ≡ Skip b.skip = first_perm 5 (six_most a 5) d in
    let e0 : a.amplitude ≡ b.amplitude = cc in
    let e1 : a.level ≡ b.level = cc in
    let e2 : a.max_time ≡ b.max_time = cc in
    let e3 : a.interval ≡ b.interval = cc in
    let e4 : a.dx_level ≡ b.dx_level = cc in
    let e5 : a.skip ≡ b.skip = cc in
    λ i. record { amplitude = e0 i; level = e1 i; max_time = e2 i; interval = e3 i; dx_level = e4 i; skip = e5 i }

-- ---- the theorem
pub accepted_exactly : (s : List ℕ) (set : Settings) (budgets : List ℕ) → Accepts s set budgets ↔ HasForm s set budgets
accepted_exactly s set budgets = (there, back)
  where
    there : Accepts s set budgets → HasForm s set budgets
    there a = subst (HasForm s set) a.told (read_form s set a.places a.read)

    back : HasForm s set budgets → Accepts s set budgets
    back f =
        let d = form_ends s set budgets f in
        let p = d.p in
        let g = read_form s (settings_at s p) p d.is in
        let none = times_perm 6 f.once_each ∙ six_none set 6 (omega arith) in
        let none' = times_perm 6 g.once_each ∙ six_none (settings_at s p) 6 (omega arith) in
        let w = split_same f.settings g.settings none none' (sym f.commands ∙ g.commands) in
        let perm : Permᴰ (setting_commands set) (setting_commands (settings_at s p)) =
        mathlib.Core.List.Permᴰ.trans (mathlib.Core.List.Permᴰ.symm f.once_each)
        (subst (λ (l : List Command). Permᴰ l (setting_commands (settings_at s p))) (sym w.0) g.once_each) in
        record {
          places = p;
          read = d.is ∙ ap (λ (x : Settings). Order x p) (sym (settings_same set (settings_at s p) perm));
          told = sym (advances_same budgets (budgets_from s p.advances 0 p.count) w.1);
        }
