-- The reader accepts what has the form: one command after another, no fault is found.
use Rattle.std.specs.Prelude.{ℕ, suc, ◌+◌, ◌≤◌, ◌<◌, true, false, ◌≡◌, refl, length}
use Rattle.std.proofs.Math.Bool.{cond}
use mathlib.Core.List.{List, [], ◌∷◌, ◌++◌, map}
use Rattle.std.proofs.Common.{sym, ◌∙◌}
use Rattle.std.proofs.Math.Path.{ap}
use native.Mathlib.Omega.{arith}
use borrow.Author.Tests.{lt-ltb, le-ltb, lt-leb, ne_eqb}
use Rattle.run.specs.Bytes.{byte_at}
use Rattle.run.specs.Order.{operand_size, is_cut, next_at, no_places, noted, begun, complete}
use Rattle.run.specs.Order.{begin_fault, unless_begun, command_fault, settings_at, unless_fault, ended, order_from, read_order}
use Rattle.run.specs.OrderLaws.{tells, next_after, command_end}
use Rattle.run.specs.declared.settings.Settings.{Settings}
use Rattle.run.specs.Order.{Command, Begin, Advance, End, Read, Order}
use Rattle.run.specs.declared.order.Places.{Places}
use Rattle.claims.specs.OrderForm.{commands_from, commands_in, HasForm}
use Rattle.claims.specs.OrderFaults.{kind, times}
use Rattle.claims.specs.SettingPlacesLaws.{place_of}
use Rattle.claims.specs.ReadySettingsLaws.{Ready, ready_kind, ready_fault, ready_next, ready_first}
use Rattle.claims.specs.CommandsLaws.{Head, head_of, none_left}

module _ (s : List ℕ) where
  -- a command that is no 09 goes on where it has no fault
  step_goes : (n at : ℕ) (p : Places) (c : Command) (rest : List Command) → (d : Head s at n c rest) → command_fault p c ≡ 0 → kind c < 8
      → order_from n s at p ≡ order_from d.m s (next_at s at) (noted p c (at + 1))
  unfolding order_from unless_fault kind
  step_goes n at p c rest d f k =
      rw d.fuel (rw (lt-leb (length s) at d.inside, d.is, f, ne_eqb (byte_at s at) 9 no_end))
    where
      no_end : byte_at s at ≡ 9 → ⊥
      no_end z = let w : kind c ≡ 8 = ap kind (sym d.is ∙ command_end s at d.inside z) in omega arith

  -- 09 ends the order where it is the last byte and 07 came
  end_next : (at : ℕ) → at < length s → byte_at s at ≡ 9 → next_at s at ≡ at + 1
  unfolding next_at is_cut operand_size
  end_next at l e = rw (e, le-ltb (length s) (at + 1 + 0) (omega arith)) (omega arith)

  pub step_ends : (n at : ℕ) (p : Places) → byte_at s at ≡ 9 → at + 1 ≡ length s → begun p ≡ true → order_from (suc n) s at p ≡ Order (settings_at s p) p
  unfolding order_from unless_fault command_fault unless_begun ended
  step_ends n at p e l b =
      rw (lt-leb (length s) at (omega arith), command_end s at (omega arith) e, e, b, le-ltb (at + 1) (length s) (omega arith))

  -- ---- the settings: where they are read, `rest` is to come
  record Settled (r : Read) (rest : List Command) : Type 0 where
    n : ℕ
    at : ℕ
    p : Places
    same : r ≡ order_from n s at p
    then : commands_from n s at ≡ rest
    enough : length s ≤ n + at
    idle : begun p ≡ false
    all : (k : ℕ) → k < 6 → 0 < place_of p k

  settled_next : (c : Command) (cs rest : List Command) (n at : ℕ) (p : Places) (d : Head s at n c (cs ++ rest)) → Ready p (c ∷ cs)
      → Settled (order_from d.m s (next_at s at) (noted p c (at + 1))) rest → Settled (order_from n s at p) rest
  settled_next c cs rest n at p d r later =
      record {
        n = later.n;
        at = later.at;
        p = later.p;
        same = step_goes n at p c (cs ++ rest) d (ready_fault c cs r) (omega (arith, ready_kind c cs r)) ∙ later.same;
        then = later.then;
        enough = later.enough;
        idle = later.idle;
        all = later.all;
      }

  settle : (cs rest : List Command) (n at : ℕ) (p : Places) → commands_from n s at ≡ cs ++ rest
      → length s ≤ n + at → Ready p cs → Settled (order_from n s at p) rest
  unfolding times
  settle [] rest n at p e h r =
      record { n = n; at = at; p = p; same = refl; then = e; enough = h; idle = r.idle; all = λ k l. omega (arith, r.all k l) }
  settle (c ∷ cs) rest n at p e h r =
      let d = head_of n s at c (cs ++ rest) e in
      let far = next_after s at d.inside in
      let fuel = d.fuel in
      settled_next c cs rest n at p d r
      (settle cs rest d.m (next_at s at) (noted p c (at + 1)) d.then (omega arith) (ready_next p c cs (at + 1) (omega arith) r))

  -- ---- the advances and 09
  pub record Ended (r : Read) : Type 0 where
    pub p : Places
    pub is : r ≡ Order (settings_at s p) p

  ended_before : {r q : Read} → r ≡ q → Ended q → Ended r
  ended_before e d = record { p = d.p; is = e ∙ d.is }

  finish : (bs : List ℕ) (n at : ℕ) (p : Places) → commands_from n s at ≡ map Advance bs ++ (End ∷ [])
      → length s ≤ n + at → begun p ≡ true → Ended (order_from n s at p)
  unfolding command_fault unless_begun noted begun kind
  finish [] n at p e h b =
      let d = head_of n s at End [] e in
      let nine = tells s at d.is in
      let far = next_after s at d.inside in
      let fuel = d.fuel in
      let last = none_left d.m s (next_at s at) d.then (omega arith) in
      let after = end_next at d.inside nine in
      record { p = p; is = ap (λ (j : ℕ). order_from j s at p) fuel ∙ step_ends d.m at p nine (omega arith) b }
  finish (x ∷ bs) n at p e h b =
      let d = head_of n s at (Advance x) (map Advance bs ++ (End ∷ [])) e in
      let far = next_after s at d.inside in
      let fuel = d.fuel in
      ended_before
      (step_goes n at p (Advance x) (map Advance bs ++ (End ∷ [])) d (let z : cond (begun p) 0 3 ≡ 0 = rw b in z) (omega arith))
      (finish bs d.m (next_at s at) (noted p (Advance x) (at + 1)) d.then (omega arith) b)

  all_complete : (p : Places) → ((k : ℕ) → k < 6 → 0 < place_of p k) → complete p ≡ true
  unfolding complete place_of
  all_complete p h =
      rw (lt-ltb 0 p.amplitude (h 0 (omega arith)), lt-ltb 0 p.level (h 1 (omega arith)), lt-ltb 0 p.max_time (h 2 (omega arith)))
      (rw (lt-ltb 0 p.interval (h 3 (omega arith)), lt-ltb 0 p.dx_level (h 4 (omega arith)), lt-ltb 0 p.skip (h 5 (omega arith))))

  begin_fine : (p : Places) → begun p ≡ false → complete p ≡ true → command_fault p Begin ≡ 0
  unfolding command_fault begin_fault
  begin_fine p b c = rw (b, c)

  -- ---- 07, and the whole form
  form_begins : (budgets : List ℕ) → Settled (read_order s) (Begin ∷ (map Advance budgets ++ (End ∷ []))) → Ended (read_order s)
  unfolding noted begun kind
  form_begins budgets a =
      let rest = map Advance budgets ++ (End ∷ []) in
      let d = head_of a.n s a.at Begin rest a.then in
      let far = next_after s a.at d.inside in
      let fuel = d.fuel in
      let enough = a.enough in
      ended_before
      (a.same ∙ step_goes a.n a.at a.p Begin rest d (begin_fine a.p a.idle (all_complete a.p a.all)) (omega arith))
      (finish budgets d.m (next_at s a.at) (noted a.p Begin (a.at + 1)) d.then (omega arith) (lt-ltb 0 (a.at + 1) (omega arith)))

  pub form_ends : (set : Settings) (budgets : List ℕ) → HasForm s set budgets → Ended (read_order s)
  unfolding read_order commands_in
  form_ends set budgets f =
      form_begins budgets
      (settle f.settings (Begin ∷ (map Advance budgets ++ (End ∷ []))) (length s) 0 no_places f.commands (omega arith)
      (ready_first set f.settings f.once_each))
