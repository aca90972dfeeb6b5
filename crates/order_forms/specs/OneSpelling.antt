-- One spelling for each order: "exactly if their settings (floats by bits) and their lists of budgets are equal".
use Prim.Native.Nat.{ℕ, zero, suc, ◌+◌, ◌*◌, ◌≤◌, ◌<◌}
use Rattle.std.proofs.Math.Bool.{cond}
use mathlib.Core.List.{List, [], ◌∷◌, ◌++◌}
use Rattle.std.specs.Prelude.{◌↔◌, ◌≡◌, ltb, eqb}
use Rattle.std.proofs.Math.Path.{refl, sym, ap, ap₂}
use Rattle.std.proofs.Common.{◌∙◌}
use native.Mathlib.Omega.{arith}
use Rattle.std.specs.Float.{binary64}
use Rattle.std.specs.Float.Ieee.{of_bits}
use Rattle.std.proofs.Math.ListN.{length}
use Rattle.run.specs.Bytes.{byte_at, little, float_at}
use Rattle.run.specs.Order.{settings_at, read_order, budget_at}
use Rattle.run.specs.OrderLines.{budgets_from, run_lines, read_lines, lines_of}
use Rattle.run.specs.Lines.{refusal}
use Rattle.run.specs.declared.settings.Settings.{Settings}
use Rattle.run.specs.declared.order.Places.{Places}
use Rattle.run.specs.Order.{Read, Order}
use Rattle.claims.specs.CommandsLaws.{heads}
use Rattle.order_forms.specs.CommandShape.{advance_bytes}
use Rattle.order_forms.specs.OrderShape.{begins_at, settings_are}
use Rattle.order_forms.specs.Spelling.{spelled_of, ascending, Said, said_by, bytes_at}
use Rattle.order_forms.specs.SpellingLaws.{spelled_places, spelled_length, spelled_same}
use Rattle.order_forms.specs.SpelledRead.{tail_byte, spelled_read, long}
use Rattle.order_forms.specs.BytesAtLaws.{little_same}

-- bytes
abbrev pub Octets : List ℕ → Type 0
Octets s = (i : ℕ) → byte_at s i < 256

module _ (s : List ℕ) (set : Settings) (p : Places) (read : read_order s ≡ Order set p) where
  abbrev t : List ℕ
  t = spelled_of s p

  abbrev q : Places
  q = spelled_places p.count

  same_budget : (k : ℕ) → k < p.count → budget_at t 34 k ≡ budget_at s p.advances k
  unfolding budget_at
  same_budget k h =
      little_same s t 4 (34 + 5 * k + 1) (34 + 5 * k + 1) (λ j l.
      ap (byte_at t) (let z : 34 + 5 * k + 1 + j ≡ 34 + (5 * k + 1 + j) = omega arith in z)
      ∙ tail_byte s set p read (5 * k + 1 + j) (omega arith)
      ∙ ap (byte_at s) (let z : 34 + (5 * k + 1 + j) ≡ 34 + 5 * k + 1 + j = omega arith in z))
      ∙ ap (λ (a : ℕ). little 4 s (a + 5 * k + 1)) (sym (begins_at s set p read))

  same_budgets : (n k : ℕ) → k + n ≤ p.count → budgets_from t 34 k n ≡ budgets_from s p.advances k n
  unfolding budgets_from
  same_budgets zero k h = refl
  same_budgets (suc n) k h = ap₂ ◌∷◌ (same_budget k (omega arith)) (same_budgets n (k + 1) (omega arith))

  -- what an order says are its settings, each float by its bits
  pub said_settings : set
      ≡ record {
        amplitude = of_bits binary64 (said_by s p).amplitude;
        level = (said_by s p).level;
        max_time = of_bits binary64 (said_by s p).max_time;
        interval = of_bits binary64 (said_by s p).interval;
        dx_level = (said_by s p).dx_level;
        skip = eqb (said_by s p).skip 1;
      }
  unfolding said_by settings_at float_at
  said_settings = settings_are s set p read

  -- and a spelled order says the same
  pub spelled_says : said_by t q ≡ said_by s p
  unfolding said_by little spelled_of bytes_at
  spelled_says =
      λ i. record {
        amplitude = little 8 s p.amplitude;
        level = byte_at s p.level;
        max_time = little 8 s p.max_time;
        interval = little 8 s p.interval;
        dx_level = byte_at s p.dx_level;
        skip = byte_at s p.skip;
        budgets = same_budgets p.count 0 (omega arith) i;
      }

  -- writing an order that was written so returns it
  pub spelled_again : spelled_of t q ≡ t
  unfolding ascending
  spelled_again = spelled_same t set q (spelled_read s set p read) refl

  -- it prints the same
  pub spelled_prints : lines_of t ≡ lines_of s
  unfolding lines_of read_lines
  spelled_prints =
      ap (λ (r : Read). cond (ltb 4096 (length t)) (refusal 8 ∷ []) (read_lines t r)) (spelled_read s set p read)
      ∙ ap₂ (λ (n : ℕ) (bs : List ℕ). cond (ltb 4096 n) (refusal 8 ∷ []) (run_lines set bs)) (spelled_length s set p read) (same_budgets p.count 0 (omega arith))
      ∙ ap (λ (r : Read). cond (ltb 4096 (length s)) (refusal 8 ∷ []) (read_lines s r)) (sym read)

-- ---- from what is said to the bytes
-- the least byte and the rest of a number
low : (a b x y : ℕ) → a < 256 → b < 256 → a + 256 * x ≡ b + 256 * y → (a ≡ b) × (x ≡ y)
low a b x y h k e = (omega arith, omega arith)

bytes_of : (s u : List ℕ) → Octets s → Octets u → (n at to : ℕ) → little n s at ≡ little n u to → bytes_at n s at ≡ bytes_at n u to
unfolding little bytes_at
bytes_of s u a b zero at to e = refl
bytes_of s u a b (suc n) at to e =
    let l = low (byte_at s at) (byte_at u to) (little n s (at + 1)) (little n u (to + 1)) (a at) (b to) e in
    ap₂ ◌∷◌ l.0 (bytes_of s u a b n (at + 1) (to + 1) l.1)

bytes_one : (s u : List ℕ) (at to : ℕ) → byte_at s at ≡ byte_at u to → bytes_at 1 s at ≡ bytes_at 1 u to
unfolding bytes_at
bytes_one s u at to e = ap (λ (k : ℕ). k ∷ []) e

length_budgets : (s : List ℕ) (advances n k : ℕ) → length (budgets_from s advances k n) ≡ n
unfolding budgets_from
length_budgets s advances zero k = refl
length_budgets s advances (suc n) k = ap suc (length_budgets s advances n (k + 1))

module _ (s u : List ℕ) (a : Octets s) (b : Octets u) (x y : Settings) (p r : Places) (e : read_order s ≡ Order x p) (f : read_order u ≡ Order y r) where
  -- advances of equal budgets have equal bytes
  advances_same : (n k : ℕ) → k + n ≤ p.count → k + n ≤ r.count → budgets_from s p.advances k n ≡ budgets_from u r.advances k n
      → bytes_at (5 * n) s (p.advances + 5 * k) ≡ bytes_at (5 * n) u (r.advances + 5 * k)
  unfolding budgets_from budget_at bytes_at
  advances_same zero k h l g = refl
  advances_same (suc n) k h l g =
      let first = heads g in
      let budget = bytes_of s u a b 4 (p.advances + 5 * k + 1) (r.advances + 5 * k + 1) first.0 in
      advance_bytes s x p e n k (omega arith)
      ∙ ap₂ (λ (c d : List ℕ). 8 ∷ (c ++ d)) budget (advances_same n (k + 1) (omega arith) (omega arith) first.1)
      ∙ sym (advance_bytes u y r f n k (omega arith))

  said_spelled : said_by s p ≡ said_by u r → spelled_of s p ≡ spelled_of u r
  unfolding said_by spelled_of
  said_spelled h =
      let budgets : budgets_from s p.advances 0 p.count ≡ budgets_from u r.advances 0 r.count = ap (λ (z : Said). z.budgets) h in
      let n : p.count ≡ r.count =
      sym (length_budgets s p.advances p.count 0) ∙ ap length budgets ∙ length_budgets u r.advances r.count 0 in
      let amplitude = bytes_of s u a b 8 p.amplitude r.amplitude (ap (λ (z : Said). z.amplitude) h) in
      let level = bytes_one s u p.level r.level (ap (λ (z : Said). z.level) h) in
      let max_time = bytes_of s u a b 8 p.max_time r.max_time (ap (λ (z : Said). z.max_time) h) in
      let interval = bytes_of s u a b 8 p.interval r.interval (ap (λ (z : Said). z.interval) h) in
      let dx_level = bytes_one s u p.dx_level r.dx_level (ap (λ (z : Said). z.dx_level) h) in
      let skip = bytes_one s u p.skip r.skip (ap (λ (z : Said). z.skip) h) in
      let advances : bytes_at (5 * p.count) s p.advances ≡ bytes_at (5 * r.count) u r.advances =
      ap (bytes_at (5 * p.count) s) (let z : p.advances ≡ p.advances + 5 * 0 = omega arith in z)
      ∙ advances_same p.count 0 (omega arith) (omega arith) (budgets ∙ ap (budgets_from u r.advances 0) (sym n))
      ∙ ap₂ (λ (k v : ℕ). bytes_at (5 * k) u v) n (let z : r.advances + 5 * 0 ≡ r.advances = omega arith in z) in
      λ i. 1 ∷ (amplitude i ++ (2 ∷ (level i ++ (3 ∷ (max_time i ++ (4 ∷ (interval i ++ (5 ∷ (dx_level i ++ (6 ∷ (skip i ++ (7 ∷ (advances i ++ (9 ∷ []))))))))))))))

pub one_spelling :
    (s u : List ℕ) → Octets s → Octets u → (x y : Settings) (p r : Places) → read_order s ≡ Order x p → read_order u ≡ Order y r →
    (spelled_of s p ≡ spelled_of u r) ↔ (said_by s p ≡ said_by u r)
one_spelling s u a b x y p r e f = (there, back)
  where
    there : spelled_of s p ≡ spelled_of u r → said_by s p ≡ said_by u r
    there h =
        let n : p.count ≡ r.count = omega (arith, ap length h, long s x p e, long u y r f) in
        sym (spelled_says s x p e) ∙ ap₂ (λ (l : List ℕ) (k : ℕ). said_by l (spelled_places k)) h n ∙ spelled_says u y r f

    back : said_by s p ≡ said_by u r → spelled_of s p ≡ spelled_of u r
    back h = said_spelled s u a b x y p r e f h
