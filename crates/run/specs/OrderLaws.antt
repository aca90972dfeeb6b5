-- What an accepted order is known to hold: each setting is its command's operand, and each budget that of its 08.
use Rattle.std.specs.Prelude.{◌≡◌, ℕ, zero, suc, ◌+◌, ◌-◌, ◌*◌, ◌<◌, ◌≤◌, Bool, true, false, cond, ◌&&◌, ◌⊎◌, List, length, ◌==◌, nat_le, nat_lt}
use Rattle.std.proofs.Math.Path.{refl, subst}
use Rattle.std.proofs.Common.{ap, ◌∙◌, inl, inr, arith}
use borrow.Author.Tests.{ltb-true, ltb-false, leb-false, le-ltb, lt-leb, eqb-true, eqb-false}
use Rattle.run.specs.Bytes.{byte_at, little, float_at}
use Rattle.run.specs.Order.{is_known, operand_size, switch_of, command_of, is_cut, command_at, next_at, no_places, noted, begun, complete}
use Rattle.run.specs.Order.{setting_fault, begin_fault, unless_begun, command_fault, settings_at, unless_fault, ended, order_from, read_order, budget_at}
use Rattle.run.specs.declared.settings.Settings.{Settings}
use Rattle.run.specs.Order.{Command, Amplitude, Level, MaxTime, Interval, DxLevel, Skip, Begin, Advance, End, Wrong, Read, Refused, Order}
use Rattle.run.specs.declared.order.Places.{Places}

-- ---- one command

-- what a command tells of its byte, its operand from `from` on, and the position after it
abbrev pub Tells : List ℕ → (from code next : ℕ) → Command → Type 0
Tells s from code next (Amplitude x) = x ≡ float_at s from
Tells s from code next (Level x) = x ≡ byte_at s from
Tells s from code next (MaxTime x) = x ≡ float_at s from
Tells s from code next (Interval x) = x ≡ float_at s from
Tells s from code next (DxLevel x) = x ≡ byte_at s from
Tells s from code next (Skip x) = x ≡ (byte_at s from == 1)
Tells s from code next Begin = next ≡ from
Tells s from code next (Advance n) = (next ≡ from + 4) × (n ≡ little 4 s from)
Tells s from code next End = code ≡ 9
Tells s from code next (Wrong n) = 0 < n

tells_switch : (s : List ℕ) (from code next : ℕ) → Tells s from code next (switch_of (byte_at s from))
unfolding switch_of
tells_switch s from code next = go (nat_lt 1 (byte_at s from))
  where
    go : (above : Bool) → Tells s from code next (cond above (Wrong 2) (Skip (byte_at s from == 1)))
    go true = omega arith
    go false = refl

tells_of : (s : List ℕ) (from code : ℕ) → Tells s from code (from + operand_size code) (command_of s from code)
unfolding command_of operand_size
tells_of s from zero = omega arith
tells_of s from (suc zero) = refl
tells_of s from (suc (suc zero)) = refl
tells_of s from (suc (suc (suc zero))) = refl
tells_of s from (suc (suc (suc (suc zero)))) = refl
tells_of s from (suc (suc (suc (suc (suc zero))))) = refl
tells_of s from (suc (suc (suc (suc (suc (suc zero)))))) = tells_switch s from 6 (from + 1)
tells_of s from (suc (suc (suc (suc (suc (suc (suc zero))))))) = omega arith
tells_of s from (suc (suc (suc (suc (suc (suc (suc (suc zero)))))))) = (refl, refl)
tells_of s from (suc (suc (suc (suc (suc (suc (suc (suc (suc zero))))))))) = refl
tells_of s from (suc (suc (suc (suc (suc (suc (suc (suc (suc (suc n)))))))))) = omega arith

pub tells : (s : List ℕ) (at : ℕ) {c : Command} → command_at s at ≡ c → Tells s (at + 1) (byte_at s at) (next_at s at) c
unfolding command_at next_at
tells s at e =
    subst (Tells s (at + 1) (byte_at s at) (next_at s at)) e
    (go (nat_le (length s) at) (is_known (byte_at s at)) (is_cut s at) (tells_of s (at + 1) (byte_at s at)))
  where
    go : (none known cut : Bool) → Tells s (at + 1) (byte_at s at) (at + 1 + operand_size (byte_at s at)) (command_of s (at + 1) (byte_at s at))
        → Tells s (at + 1) (byte_at s at) (cond cut (length s) (at + 1 + operand_size (byte_at s at)))
        (cond none (Wrong 1) (cond known (cond cut (Wrong 1) (command_of s (at + 1) (byte_at s at))) (Wrong 2)))
    go true known cut t = omega arith
    go false false cut t = omega arith
    go false true true t = omega arith
    go false true false t = t

pub next_after : (s : List ℕ) (at : ℕ) → at < length s → at < next_at s at
unfolding next_at
next_after s at h = go (is_cut s at)
  where
    go : (cut : Bool) → at < cond cut (length s) (at + 1 + operand_size (byte_at s at))
    go true = h
    go false = omega arith

-- 09 stands alone
pub command_end : (s : List ℕ) (at : ℕ) → at < length s → byte_at s at ≡ 9 → command_at s at ≡ End
unfolding command_at is_known is_cut operand_size command_of
command_end s at l e = rw (lt-leb (length s) at l, e, le-ltb (length s) (at + 1 + 0) (omega arith))

-- ---- no fault

-- no setting after 07
pub setting_early : (p : Places) (place : ℕ) → setting_fault p place ≡ 0 → begun p ≡ false
unfolding setting_fault
setting_early p place = go (begun p)
  where
    go : (b : Bool) → ◌≡◌ {A = ℕ} (cond b 3 (cond (nat_lt 0 place) 3 0)) 0 → b ≡ false
    go true e = absurd (omega arith)
    go false e = refl

-- no setting twice
pub setting_once : (p : Places) (place : ℕ) → setting_fault p place ≡ 0 → place ≡ 0
unfolding setting_fault
setting_once p place e = go (begun p) (nat_lt 0 place) refl e
  where
    go : (b t : Bool) → nat_lt 0 place ≡ t → ◌≡◌ {A = ℕ} (cond b 3 (cond t 3 0)) 0 → place ≡ 0
    go true t g e = absurd (omega arith)
    go false true g e = absurd (omega arith)
    go false false g e = omega (arith, ltb-false 0 place g)

-- no second 07, and none with a setting missing
pub begin_once : (p : Places) → begin_fault p ≡ 0 → (begun p ≡ false) × (complete p ≡ true)
unfolding begin_fault
begin_once p = go (begun p) (complete p)
  where
    go : (b f : Bool) → ◌≡◌ {A = ℕ} (cond b 3 (cond f 0 4)) 0 → (b ≡ false) × (f ≡ true)
    go true f e = absurd (omega arith)
    go false true e = (refl, refl)
    go false false e = absurd (omega arith)

-- no 08 and no 09 before 07
pub begun_before : (p : Places) (n : ℕ) → unless_begun p (suc n) ≡ 0 → begun p ≡ true
unfolding unless_begun
begun_before p n = go (begun p)
  where
    go : (b : Bool) → cond b 0 (suc n) ≡ 0 → b ≡ true
    go true e = refl
    go false e = absurd (omega arith)

pub begun_advances : (p : Places) → begun p ≡ true → 0 < p.advances
unfolding begun
begun_advances p e = ltb-true 0 p.advances e

pub idle_advances : (p : Places) → begun p ≡ false → p.advances ≡ 0
unfolding begun
idle_advances p e = omega (arith, ltb-false 0 p.advances e)

-- ---- the fold: what the first command finds and each command keeps, 09 finds

-- where an accepted order ends: at 09, the last byte
pub record Ends (s : List ℕ) (P : Places → ℕ → Type 0) (set : Settings) (p : Places) : Type 0 where
  pub at : ℕ
  pub kept : P p at
  pub last : at + 1 ≡ length s
  pub end : command_at s at ≡ End
  pub started : begun p ≡ true
  pub settings : set ≡ settings_at s p

-- a command before 09 keeps P
abbrev pub Keeps : List ℕ → (Places → ℕ → Type 0) → Type 0
Keeps s P =
    (p : Places) (at : ℕ) (c : Command) → at < length s → P p at → command_at s at ≡ c → command_fault p c ≡ 0 → (byte_at s at == 9) ≡ false
    → P (noted p c (at + 1)) (next_at s at)

module _ (s : List ℕ) (P : Places → ℕ → Type 0) (keeps : Keeps s P) where
  abbrev Held : Read → Type 0
  Held (Refused n at) = Unit {0}
  Held (Order set p) = Ends s P set p

  held_end : (p : Places) (at : ℕ) → at < length s → P p at → command_fault p (command_at s at) ≡ 0 → byte_at s at ≡ 9 → Held (ended s (at + 1) p)
  unfolding ended command_fault
  held_end p at l h f e =
      let c = command_end s at l e in
      go (nat_lt (at + 1) (length s)) refl c (begun_before p 3 (rw c at f))
    where
      go : (b : Bool) → nat_lt (at + 1) (length s) ≡ b → command_at s at ≡ End → begun p ≡ true
          → Held (cond b (Refused 3 (at + 1)) (Order (settings_at s p) p))
      go true t c b = tt
      go false t c b =
          record { at = at; kept = h; last = omega (arith, ltb-false (at + 1) (length s) t); end = c; started = b; settings = refl }

  held_from : (n at : ℕ) (p : Places) → P p at → Held (order_from n s at p)
  unfolding order_from unless_fault
  held_from zero at p h = tt
  held_from (suc n) at p h =
      go (nat_le (length s) at) (command_fault p (command_at s at)) (byte_at s at == 9) refl refl refl
      (λ l f e. held_from n (next_at s at) (noted p (command_at s at) (at + 1)) (keeps p at (command_at s at) l h refl f e))
    where
      rest : Read
      rest = order_from n s (next_at s at) (noted p (command_at s at) (at + 1))

      go : (a : Bool) (f : ℕ) (e : Bool) → nat_le (length s) at ≡ a → command_fault p (command_at s at) ≡ f → (byte_at s at == 9) ≡ e
          → (at < length s → command_fault p (command_at s at) ≡ 0 → (byte_at s at == 9) ≡ false → Held rest)
          → Held (cond a (Refused 1 (length s)) (unless_fault f at (cond e (ended s (at + 1) p) rest)))
      go true f e la fa ea more = tt
      go false (suc f) e la fa ea more = tt
      go false zero true la fa ea more = held_end p at (leb-false (length s) at la) h fa (eqb-true (byte_at s at) 9 ea)
      go false zero false la fa ea more = more (leb-false (length s) at la) fa ea

  pub accepted_ends : P no_places 0 → (set : Settings) (p : Places) → read_order s ≡ Order set p → Ends s P set p
  unfolding read_order
  accepted_ends h set p e = subst Held e (held_from (length s) 0 no_places h)

-- ---- budgets

-- the 08 so far stand one after another, five bytes each
pub record Advances (s : List ℕ) (p : Places) (at : ℕ) : Type 0 where
  pub idle : p.advances ≡ 0 → p.count ≡ 0
  pub here : 0 < p.advances → at ≡ p.advances + 5 * p.count
  pub each : (k : ℕ) → k < p.count → command_at s (p.advances + 5 * k) ≡ Advance (budget_at s p.advances k)

advances_idle : {s : List ℕ} {p q : Places} {at to : ℕ} → Advances s p at → p.advances ≡ 0
    → q.advances ≡ p.advances → q.count ≡ p.count → Advances s q to
advances_idle {s} {p} {q} r z a c =
    let n = r.idle z in
    record { idle = λ e. omega arith; here = λ l. absurd (omega arith); each = λ k l. absurd (omega arith) }

last_or_before : (k n : ℕ) → k < n + 1 → (k < n) ⊎ (k ≡ n)
last_or_before k n h = go (nat_lt k n) refl
  where
    go : (b : Bool) → nat_lt k n ≡ b → (k < n) ⊎ (k ≡ n)
    go true e = inl (ltb-true k n e)
    go false e = let l = ltb-false k n e in inr (omega arith)

advances_setting : {s : List ℕ} {p q : Places} {at to : ℕ} (place : ℕ) → Advances s p at → setting_fault p place ≡ 0
    → q.advances ≡ p.advances → q.count ≡ p.count → Advances s q to
advances_setting {p = p} place r f a c = advances_idle r (idle_advances p (setting_early p place f)) a c

pub advances_kept : (s : List ℕ) → Keeps s (Advances s)
unfolding noted command_fault budget_at
advances_kept s p at (Amplitude x) l r e f d = advances_setting p.amplitude r f refl refl
advances_kept s p at (Level x) l r e f d = advances_setting p.level r f refl refl
advances_kept s p at (MaxTime x) l r e f d = advances_setting p.max_time r f refl refl
advances_kept s p at (Interval x) l r e f d = advances_setting p.interval r f refl refl
advances_kept s p at (DxLevel x) l r e f d = advances_setting p.dx_level r f refl refl
advances_kept s p at (Skip x) l r e f d = advances_setting p.skip r f refl refl
advances_kept s p at Begin l r e f d =
    let n = r.idle (idle_advances p (begin_once p f).0) in
    let t : next_at s at ≡ at + 1 = tells s at e in
    record { idle = λ z. absurd (omega arith); here = λ b. omega arith; each = λ k h. absurd (omega arith) }
advances_kept s p at (Advance n) l r e f d =
    let b = begun_advances p (begun_before p 2 f) in
    let a = r.here b in
    let t = tells s at e in
    let g : at + 1 ≡ p.advances + 5 * p.count + 1 = omega arith in
    record {
      idle = λ z. absurd (omega arith);
      here = λ z. omega (arith, t.0);
      each = λ k h. elim (last_or_before k p.count h) [
        | inl i ↦ r.each k i
        | inr i ↦ rw (i, ← a) (e ∙ ap Advance t.1)
      ];
    }
advances_kept s p at End l r e f d = absurd (eqb-false (byte_at s at) 9 d (tells s at e))
advances_kept s p at (Wrong n) l r e f d = let t = tells s at e in absurd (omega arith)

pub advances_first : (s : List ℕ) → Advances s no_places 0
advances_first s = record { idle = λ z. refl; here = λ z. absurd (omega arith); each = λ k h. absurd (omega arith) }

-- in an accepted order the k-th command after 07 is 08 with the k-th budget
pub read_budgets : (s : List ℕ) (set : Settings) (p : Places) → read_order s ≡ Order set p
    → (k : ℕ) → k < p.count → command_at s (p.advances + 5 * k) ≡ Advance (budget_at s p.advances k)
read_budgets s set p e = (accepted_ends s (Advances s) (advances_kept s) (advances_first s) set p e).kept.each

-- ---- settings

-- the command c stands in s right before the position `place`
pub record Stands (s : List ℕ) (place : ℕ) (c : Command) : Type 0 where
  pub after : 1 ≤ place
  pub is : command_at s (place - 1) ≡ c

-- each setting is its command's operand
pub record Operands (s : List ℕ) (set : Settings) (p : Places) : Type 0 where
  pub amplitude : Stands s p.amplitude (Amplitude set.amplitude)
  pub level : Stands s p.level (Level set.level)
  pub max_time : Stands s p.max_time (MaxTime set.max_time)
  pub interval : Stands s p.interval (Interval set.interval)
  pub dx_level : Stands s p.dx_level (DxLevel set.dx_level)
  pub skip : Stands s p.skip (Skip set.skip)

-- so far: those that came stand there, and once 07 came, all came
pub record SoFar (s : List ℕ) (p : Places) (at : ℕ) : Type 0 where
  amplitude : 0 < p.amplitude → Stands s p.amplitude (Amplitude (float_at s p.amplitude))
  level : 0 < p.level → Stands s p.level (Level (byte_at s p.level))
  max_time : 0 < p.max_time → Stands s p.max_time (MaxTime (float_at s p.max_time))
  interval : 0 < p.interval → Stands s p.interval (Interval (float_at s p.interval))
  dx_level : 0 < p.dx_level → Stands s p.dx_level (DxLevel (byte_at s p.dx_level))
  skip : 0 < p.skip → Stands s p.skip (Skip (byte_at s p.skip == 1))
  all : begun p ≡ true → complete p ≡ true

-- the command at `at` stands before the position after it
stands_here : (s : List ℕ) (at : ℕ) {c k : Command} → command_at s at ≡ c → c ≡ k → Stands s (at + 1) k
stands_here s at e g = record { after = omega arith; is = let same : at + 1 - 1 ≡ at = omega arith in rw same (e ∙ g) }

never : (p : Places) (place : ℕ) {A : Type 0} → setting_fault p place ≡ 0 → begun p ≡ true → A
never p place f b = let g = setting_early p place f in let z : ◌≡◌ {A = ℕ} 0 1 = cc in absurd (omega arith)

pub so_far_kept : (s : List ℕ) → Keeps s (SoFar s)
unfolding noted command_fault begun complete
so_far_kept s p at (Amplitude x) l r e f d =
    record {
      amplitude = λ z. stands_here s at e (ap Amplitude (tells s at e));
      level = r.level;
      max_time = r.max_time;
      interval = r.interval;
      dx_level = r.dx_level;
      skip = r.skip;
      all = never p p.amplitude f;
    }
so_far_kept s p at (Level x) l r e f d =
    record {
      amplitude = r.amplitude;
      level = λ z. stands_here s at e (ap Level (tells s at e));
      max_time = r.max_time;
      interval = r.interval;
      dx_level = r.dx_level;
      skip = r.skip;
      all = never p p.level f;
    }
so_far_kept s p at (MaxTime x) l r e f d =
    record {
      amplitude = r.amplitude;
      level = r.level;
      max_time = λ z. stands_here s at e (ap MaxTime (tells s at e));
      interval = r.interval;
      dx_level = r.dx_level;
      skip = r.skip;
      all = never p p.max_time f;
    }
so_far_kept s p at (Interval x) l r e f d =
    record {
      amplitude = r.amplitude;
      level = r.level;
      max_time = r.max_time;
      interval = λ z. stands_here s at e (ap Interval (tells s at e));
      dx_level = r.dx_level;
      skip = r.skip;
      all = never p p.interval f;
    }
so_far_kept s p at (DxLevel x) l r e f d =
    record {
      amplitude = r.amplitude;
      level = r.level;
      max_time = r.max_time;
      interval = r.interval;
      dx_level = λ z. stands_here s at e (ap DxLevel (tells s at e));
      skip = r.skip;
      all = never p p.dx_level f;
    }
so_far_kept s p at (Skip x) l r e f d =
    record {
      amplitude = r.amplitude;
      level = r.level;
      max_time = r.max_time;
      interval = r.interval;
      dx_level = r.dx_level;
      skip = λ z. stands_here s at e (ap Skip (tells s at e));
      all = never p p.skip f;
    }
so_far_kept s p at Begin l r e f d =
    record {
      amplitude = r.amplitude;
      level = r.level;
      max_time = r.max_time;
      interval = r.interval;
      dx_level = r.dx_level;
      skip = r.skip;
      all = λ z. (begin_once p f).1;
    }
so_far_kept s p at (Advance n) l r e f d =
    record {
      amplitude = r.amplitude;
      level = r.level;
      max_time = r.max_time;
      interval = r.interval;
      dx_level = r.dx_level;
      skip = r.skip;
      all = r.all;
    }
so_far_kept s p at End l r e f d = absurd (eqb-false (byte_at s at) 9 d (tells s at e))
so_far_kept s p at (Wrong n) l r e f d = let t = tells s at e in absurd (omega arith)

pub both : (a b : Bool) → (a && b) ≡ true → (a ≡ true) × (b ≡ true)
both true b e = (refl, e)
both false b e = let z : ◌≡◌ {A = ℕ} 0 1 = cc in absurd (omega arith)

-- all six came
pub record AllCame (p : Places) : Type 0 where
  pub amplitude : 0 < p.amplitude
  pub level : 0 < p.level
  pub max_time : 0 < p.max_time
  pub interval : 0 < p.interval
  pub dx_level : 0 < p.dx_level
  pub skip : 0 < p.skip

pub complete_all : (p : Places) → complete p ≡ true → AllCame p
unfolding complete
complete_all p e =
    let six = both _ _ e in
    let four = both _ _ six.0 in
    let ab = both _ _ four.0 in
    let cd = both _ _ four.1 in
    let ef = both _ _ six.1 in
    record {
      amplitude = ltb-true 0 p.amplitude ab.0;
      level = ltb-true 0 p.level ab.1;
      max_time = ltb-true 0 p.max_time cd.0;
      interval = ltb-true 0 p.interval cd.1;
      dx_level = ltb-true 0 p.dx_level ef.0;
      skip = ltb-true 0 p.skip ef.1;
    }

-- in an accepted order each setting is its command's operand
pub read_settings : (s : List ℕ) (set : Settings) (p : Places) → read_order s ≡ Order set p → Operands s set p
unfolding settings_at
read_settings s set p e =
    let h = accepted_ends s (SoFar s) (so_far_kept s) none_came set p e in
    let r = h.kept in
    let came = complete_all p (r.all h.started) in
    rw h.settings
    (record {
      amplitude = r.amplitude came.amplitude;
      level = r.level came.level;
      max_time = r.max_time came.max_time;
      interval = r.interval came.interval;
      dx_level = r.dx_level came.dx_level;
      skip = r.skip came.skip;
    })
  where
    none_came : SoFar s no_places 0
    none_came =
        record {
          amplitude = λ z. absurd (omega arith);
          level = λ z. absurd (omega arith);
          max_time = λ z. absurd (omega arith);
          interval = λ z. absurd (omega arith);
          dx_level = λ z. absurd (omega arith);
          skip = λ z. absurd (omega arith);
          all = λ z. absurd (omega (arith, begun_advances no_places z));
        }
