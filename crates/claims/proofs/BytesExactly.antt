-- An order is accepted with these settings and budgets exactly if its bytes are the form's commands, one after another: `bytes_exactly`.
use Rattle.std.specs.Prelude.{ℕ, zero, suc, ◌+◌, ◌≤◌, ◌<◌, Bool, true, false, cond, List, [], ◌∷◌, ◌++◌, map, ◌↔◌, ◌≡◌, refl, leb, ltb, take, drop}
use Rattle.std.proofs.Common.{append_assoc, sym, ap, ap₂, ◌∙◌, subst, arith, take-append-drop, drop_of_length-le, drop-cons, drop-drop, take_at, get_or-append-add}
use Rattle.std.proofs.Math.ListN.{length, length-append}
use Rattle.std.proofs.Math.Seq.{drop-append-add}
use borrow.Author.Tests.{ltb-false, lt-leb, le-leb, le-ltb}
use Rattle.run.specs.Bytes.{byte_at}
use Rattle.run.specs.Order.{is_known, operand_size, command_of, is_cut, command_at, next_at}
use Rattle.run.specs.declared.settings.Settings.{Settings}
use Rattle.run.specs.Order.{Command, Amplitude, Level, MaxTime, Interval, DxLevel, Skip, Begin, Advance, End, Wrong}
use Rattle.claims.specs.OrderForm.{commands_from, commands_in, setting_commands, form_of, Spells, none, more, HasForm, HasBytes, Accepts}
use Rattle.claims.specs.CommandKindLaws.{times-append, times_tail, times_perm, six_none}
use Rattle.claims.specs.OrderFaults.{kind, times}
use Rattle.claims.specs.CommandsLaws.{head_of, none_left}
use Rattle.claims.specs.CommandBytesLaws.{operand_at, Coded, coded, encodes}
use Rattle.claims.proofs.AcceptedExactly.{accepted_exactly}

-- ---- from the bytes to the commands
-- a command's bytes b, with bytes before and after them
module _ {c : Command} {b : List ℕ} (e : Coded c b) (before after : List ℕ) where
  abbrev s : List ℕ
  s = before ++ (b ++ after)

  pub own_length : length b ≡ 1 + operand_size e.code
  own_length = let w = e.whole in omega (arith, ap length e.is)

  pub whole_length : length s ≡ length before + (1 + operand_size e.code + length after)
  whole_length = omega (arith, own_length, length-append before (b ++ after), length-append b after)

  code_at : byte_at s (length before) ≡ e.code
  code_at =
      ap (byte_at s) (let z : length before ≡ length before + 0 = omega arith in z)
      ∙ get_or-append-add before (b ++ after) 0 0
      ∙ ap (λ (l : List ℕ). byte_at (l ++ after) 0) e.is

  operand_at_lem : operand_at (operand_size e.code) s (length before + 1) ≡ e.operand
  operand_at_lem =
      ap (take (operand_size e.code)) (drop-append-add before (b ++ after) 1 ∙ ap (λ (l : List ℕ). drop 1 (l ++ after)) e.is)
      ∙ take_at e.operand after (operand_size e.code) e.whole

  not_cut : is_cut s (length before) ≡ false
  unfolding is_cut
  not_cut = rw (code_at, le-ltb (length s) (length before + 1 + operand_size e.code) (omega (arith, whole_length)))

  pub command_there : command_at s (length before) ≡ c
  unfolding command_at
  command_there =
      rw (lt-leb (length s) (length before) (omega (arith, whole_length)), code_at, e.known, not_cut)
      (e.read s (length before + 1) (omega (arith, whole_length)) operand_at_lem)

  pub next_there : next_at s (length before) ≡ length (before ++ b)
  unfolding next_at
  next_there =
      rw (not_cut, code_at)
      (let z : length before + 1 + operand_size e.code ≡ length (before ++ b) = omega (arith, length-append before b, own_length) in z)

commands_read : {cs : List Command} {t : List ℕ} → Spells cs t → (before : List ℕ) (n : ℕ) → length t ≤ n
    → commands_from n (before ++ t) (length before) ≡ cs
unfolding commands_from
commands_read none before zero h = refl
commands_read none before (suc n) h = rw (le-leb (length (before ++ [])) (length before) (omega (arith, length-append before [])))
commands_read (more {c} {cs} {b} {t} e r) before zero h =
    absurd (omega (arith, length-append b t, own_length (coded e) before t))
commands_read (more {c} {cs} {b} {t} e r) before (suc n) h =
    let k = coded e in
    let all = before ++ (b ++ t) in
    let rest : commands_from n all (next_at all (length before)) ≡ cs =
    ap (commands_from n all) (next_there k before t)
    ∙ ap (λ (l : List ℕ). commands_from n l (length (before ++ b))) (sym (append_assoc before b t))
    ∙ commands_read r (before ++ b) n (omega (arith, length-append b t, own_length k before t)) in
    rw (lt-leb (length all) (length before) (omega (arith, whole_length k before t))) (ap₂ ◌∷◌ (command_there k before t) rest)

-- ---- from the commands to the bytes
-- a command that is not wrong by itself stands there whole
pub record Whole (s : List ℕ) (at : ℕ) (c : Command) : Type 0 where
  pub inside : at + 1 + operand_size (byte_at s at) ≤ length s
  pub read : command_of s (at + 1) (byte_at s at) ≡ c
  pub after : next_at s at ≡ at + 1 + operand_size (byte_at s at)

pub whole_at : (s : List ℕ) (at : ℕ) (c : Command) → command_at s at ≡ c → kind c < 9 → Whole s at c
unfolding command_at next_at is_cut kind
whole_at s at c e k = go (leb (length s) at) (is_known (byte_at s at)) (ltb (length s) (at + 1 + operand_size (byte_at s at))) refl e
  where
    go : (a b d : Bool) → ltb (length s) (at + 1 + operand_size (byte_at s at)) ≡ d
        → cond a (Wrong 1) (cond b (cond d (Wrong 1) (command_of s (at + 1) (byte_at s at))) (Wrong 2)) ≡ c → Whole s at c
    go true b d cut e = let z : 9 ≡ kind c = ap kind e in absurd (omega arith)
    go false false d cut e = let z : 9 ≡ kind c = ap kind e in absurd (omega arith)
    go false true true cut e = let z : 9 ≡ kind c = ap kind e in absurd (omega arith)
    go false true false cut e =
        record { inside = ltb-false (length s) (at + 1 + operand_size (byte_at s at)) cut; read = e; after = rw cut }

-- a byte, n more, and the rest
pub split_operand : (n : ℕ) (s : List ℕ) (at : ℕ) → at < length s → drop at s ≡ (byte_at s at ∷ operand_at n s (at + 1)) ++ drop (at + 1 + n) s
split_operand n s at h =
    drop-cons s at 0 h
    ∙ ap (λ (i : ℕ). byte_at s at ∷ drop i s) (let z : suc at ≡ at + 1 = omega arith in z)
    ∙ ap (λ (l : List ℕ). byte_at s at ∷ l)
    (sym (take-append-drop n (drop (at + 1) s)) ∙ ap (λ (l : List ℕ). operand_at n s (at + 1) ++ l) (drop-drop n (at + 1) s))

head_kind : (c : Command) (cs : List Command) → times 9 (c ∷ cs) ≡ 0 → kind c < 9
unfolding times kind
head_kind (Amplitude x) cs e = omega arith
head_kind (Level x) cs e = omega arith
head_kind (MaxTime x) cs e = omega arith
head_kind (Interval x) cs e = omega arith
head_kind (DxLevel x) cs e = omega arith
head_kind (Skip x) cs e = omega arith
head_kind Begin cs e = omega arith
head_kind (Advance n) cs e = omega arith
head_kind End cs e = omega arith
head_kind (Wrong n) cs e = absurd (omega arith)

commands_spelled : (cs : List Command) (n : ℕ) (s : List ℕ) (at : ℕ) → length s ≤ n + at → times 9 cs ≡ 0 → commands_from n s at ≡ cs
    → Spells cs (drop at s)
commands_spelled [] n s at h w e = subst (Spells []) (sym (drop_of_length-le s (none_left n s at e h))) none
commands_spelled (c ∷ cs) n s at h w e =
    let d = head_of n s at c cs e in
    let k = head_kind c cs w in
    let p = whole_at s at c d.is k in
    let size = operand_size (byte_at s at) in
    let fuel = d.fuel in
    let rest = commands_spelled cs d.m s (at + 1 + size) (omega arith) (omega (arith, times_tail 9 c cs))
    (ap (commands_from d.m s) (sym p.after) ∙ d.then) in
    subst (Spells (c ∷ cs)) (sym (split_operand size s at d.inside))
    (more (encodes s (at + 1) (byte_at s at) c p.inside p.read k) rest)

-- ---- the theorem
advances_right : (budgets : List ℕ) → times 9 (map Advance budgets ++ (End ∷ [])) ≡ 0
unfolding times kind
advances_right [] = refl
advances_right (b ∷ budgets) = advances_right budgets

none_wrong : (set : Settings) (cs : List Command) (budgets : List ℕ) → times 9 cs ≡ times 9 (setting_commands set) → times 9 (form_of cs budgets) ≡ 0
unfolding times kind
none_wrong set cs budgets e =
    omega (arith, times-append 9 cs (Begin ∷ (map Advance budgets ++ (End ∷ []))), six_none set 9 (omega arith), advances_right budgets)

pub bytes_exactly : (s : List ℕ) (set : Settings) (budgets : List ℕ) → Accepts s set budgets ↔ HasBytes s set budgets
unfolding commands_in
bytes_exactly s set budgets = (λ a. there ((accepted_exactly s set budgets).0 a), λ f. (accepted_exactly s set budgets).1 (back f))
  where
    there : HasForm s set budgets → HasBytes s set budgets
    there f =
        record {
          settings = f.settings;
          once_each = f.once_each;
          bytes =
              commands_spelled (form_of f.settings budgets) (length s) s 0 (omega arith)
              (none_wrong set f.settings budgets (times_perm 9 f.once_each)) f.commands;
        }

    back : HasBytes s set budgets → HasForm s set budgets
    back f = record { settings = f.settings; once_each = f.once_each; commands = commands_read f.bytes [] (length s) (omega arith) }
