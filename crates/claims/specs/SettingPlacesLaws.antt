-- The places of the settings by the settings' kinds, and what a setting changes in them.
use Rattle.std.specs.Prelude.{ℕ, ◌<◌, false, List, [], ◌∷◌, ◌≢◌, ◌≡◌, refl, get_or, set}
use Rattle.std.proofs.Common.{ap, ◌∙◌, arith, get_or-set_same, get_or-set_other, le-ltb}
use Rattle.run.specs.Order.{noted, begun, setting_fault, command_fault}
use Rattle.run.specs.Order.{Command, Amplitude, Level, MaxTime, Interval, DxLevel, Skip, Begin, Advance, End, Wrong}
use Rattle.run.specs.declared.order.Places.{Places}
use Rattle.claims.specs.OrderFaults.{kind}

abbrev setting_places : Places → List ℕ
setting_places p = p.amplitude ∷ p.level ∷ p.max_time ∷ p.interval ∷ p.dx_level ∷ p.skip ∷ []

-- of the setting of kind k, 0 to 5
unfoldable pub place_of : Places → ℕ → ℕ
place_of p k = get_or (setting_places p) k 0

-- ---- a setting, `from` the position after its byte
noted_setting : (p : Places) (c : Command) (from : ℕ) → kind c < 6 → setting_places (noted p c from) ≡ set (setting_places p) (kind c) from
unfolding kind noted
noted_setting p (Amplitude x) from h = refl
noted_setting p (Level x) from h = refl
noted_setting p (MaxTime x) from h = refl
noted_setting p (Interval x) from h = refl
noted_setting p (DxLevel x) from h = refl
noted_setting p (Skip x) from h = refl
noted_setting p Begin from h = absurd (omega arith)
noted_setting p (Advance n) from h = absurd (omega arith)
noted_setting p End from h = absurd (omega arith)
noted_setting p (Wrong n) from h = absurd (omega arith)

-- its own place is new
pub own_place : (p : Places) (c : Command) (from : ℕ) → kind c < 6 → place_of (noted p c from) (kind c) ≡ from
unfolding place_of
own_place p c from h =
    ap (λ (l : List ℕ). get_or l (kind c) 0) (noted_setting p c from h) ∙ get_or-set_same (setting_places p) (kind c) from 0 h

-- and the others stay
pub other_place : (p : Places) (c : Command) (from k : ℕ) → kind c < 6 → k ≢ kind c → place_of (noted p c from) k ≡ place_of p k
unfolding place_of
other_place p c from k h n =
    ap (λ (l : List ℕ). get_or l k 0) (noted_setting p c from h) ∙ get_or-set_other (setting_places p) (kind c) k from 0 n

-- 07 has not come by it
pub begun_setting : (p : Places) (c : Command) (from : ℕ) → kind c < 6 → begun (noted p c from) ≡ begun p
unfolding kind noted begun
begun_setting p (Amplitude x) from h = refl
begun_setting p (Level x) from h = refl
begun_setting p (MaxTime x) from h = refl
begun_setting p (Interval x) from h = refl
begun_setting p (DxLevel x) from h = refl
begun_setting p (Skip x) from h = refl
begun_setting p Begin from h = absurd (omega arith)
begun_setting p (Advance n) from h = absurd (omega arith)
begun_setting p End from h = absurd (omega arith)
begun_setting p (Wrong n) from h = absurd (omega arith)

setting_fine : (p : Places) (place : ℕ) → begun p ≡ false → place ≡ 0 → setting_fault p place ≡ 0
unfolding setting_fault
setting_fine p place b e = rw (b, le-ltb 0 place (omega arith))

-- its fault is by its own place
pub setting_fault_lem : (p : Places) (c : Command) → kind c < 6 → command_fault p c ≡ setting_fault p (place_of p (kind c))
unfolding kind command_fault place_of
setting_fault_lem p (Amplitude x) h = refl
setting_fault_lem p (Level x) h = refl
setting_fault_lem p (MaxTime x) h = refl
setting_fault_lem p (Interval x) h = refl
setting_fault_lem p (DxLevel x) h = refl
setting_fault_lem p (Skip x) h = refl
setting_fault_lem p Begin h = absurd (omega arith)
setting_fault_lem p (Advance n) h = absurd (omega arith)
setting_fault_lem p End h = absurd (omega arith)
setting_fault_lem p (Wrong n) h = absurd (omega arith)

-- it has none where it has not come before
pub fault_setting : (p : Places) (c : Command) → kind c < 6 → begun p ≡ false → place_of p (kind c) ≡ 0 → command_fault p c ≡ 0
fault_setting p c h b e = setting_fault_lem p c h ∙ setting_fine p (place_of p (kind c)) b e
