-- What the halvings keep.
use Rattle.std.specs.Prelude.{◌≡◌, ℕ, zero, suc, ◌+◌, ◌-◌, ◌*◌, ◌^◌, ◌<◌, ◌≤◌, Bool, true, false, cond, ◌==◌, ◌≢◌}
use Rattle.std.proofs.Math.Path.{refl, sym, ap}
use Rattle.std.proofs.Common.{◌∙◌, subst, le_refl, add-zero, mul_assoc, pow-suc, div-add-mod', mod-lt, eqb-true, pow_pos}
use native.Mathlib.Omega.{arith}
use Rattle.std.proofs.lemmas.Bool.{eqb-false}
use Rattle.run.specs.Clock.{whole_above}
use Rattle.threshold.specs.Halving.{Side, times_out, collapses, neither, refused_run, Why, used, adjacent, undecided, Bracket, stop, middle, half, halve, StoppedBy}
use Rattle.threshold.specs.HalvingLaws.{Kept}

covers : (a d : ℕ) → 0 < d → a ≤ whole_above a d * d
covers a d h =
    let e = div-add-mod' (a + (d - 1)) d in
    let m = mod-lt (a + (d - 1)) h in
    omega arith

apart_by : (d : ℕ) → 1 ≤ d → (d ≢ 1) → 2 ≤ d
apart_by d h n = omega arith

module _ (run : ℕ → Side) where
  stopped : (low high left made : ℕ) (w : Why) → low < high → run low ≡ times_out → run high ≡ collapses
      → (w ≡ used → made ≡ made + left) → (made ≡ made + left → w ≡ used) → (w ≡ adjacent → (high ≡ low + 1) × (made < made + left))
      → ((r : Side) → w ≡ undecided r → StoppedBy run low high r × (made < made + left)) → Kept run low high left made (stop low high made w)
  stopped low high left made w o p q u v a n =
      record {
        ordered = o;
        above = le_refl low;
        below = le_refl high;
        low_run = p;
        high_run = q;
        at_least = le_refl made;
        at_most = omega arith;
        gap = λ c h. (let e : made - made ≡ 0 = omega arith in omega (arith, rw e at h));
        when_used = u;
        all_made = v;
        when_adjacent = a;
        when_stopped = n;
      }

  double : (c d m k : ℕ) → m + 1 ≤ k → d ≤ c * 2 ^ (k - m) → d ≤ c * 2 ^ (k - (m + 1)) * 2
  double c d m k l h =
      let e : k - m ≡ suc (k - (m + 1)) = omega arith in
      let f : c * 2 ^ (k - m) ≡ c * 2 ^ (k - (m + 1)) * 2 =
      ap (λ (x : ℕ). c * 2 ^ x) e ∙ ap (λ (x : ℕ). c * x) (pow-suc 2 (k - (m + 1))) ∙ sym (mul_assoc c (2 ^ (k - (m + 1))) 2) in
      subst (λ (x : ℕ). d ≤ x) f h

  -- one more halving before those that `b` has made, by which the ends became l and h
  kept_further : (low high l h left made : ℕ) (b : Bracket) → low ≤ l → h ≤ high → ((c : ℕ) → high - low ≤ c * 2 → h - l ≤ c) → Kept run l h left (made + 1) b
      → Kept run low high (suc left) made b
  kept_further low high l h left made b x y g k =
      let a = k.at_least in
      let u = k.at_most in
      let above = k.above in
      let below = k.below in
      record {
        ordered = k.ordered;
        above = omega arith;
        below = omega arith;
        low_run = k.low_run;
        high_run = k.high_run;
        at_least = omega arith;
        at_most = omega arith;
        gap = λ c e. k.gap c (g (c * 2 ^ (b.made - (made + 1))) (double c (high - low) made b.made a e));
        when_used = λ e. (let f = k.when_used e in omega arith);
        all_made = λ e. k.all_made (omega arith);
        when_adjacent = λ e. (let f = k.when_adjacent e in (f.0, omega (arith, f.1)));
        when_stopped = λ r e. (let f = k.when_stopped r e in (f.0, omega (arith, f.1)));
      }

  pub kept : (left made low high : ℕ) → low < high → run low ≡ times_out → run high ≡ collapses → Kept run low high left made (halve run left made low high)
  unfolding halve
  kept zero made low high o p q =
      stopped low high zero made used o p q (λ e. sym (add-zero made)) (λ e. refl)
      (λ e. let z : ◌≡◌ {A = ℕ} 0 1 = cc in absurd (omega arith)) (λ r e. let z : ◌≡◌ {A = ℕ} 0 1 = cc in absurd (omega arith))
  kept (suc left) made low high o p q =
      go (high - low == 1) (eqb-true (high - low) 1) (eqb-false (high - low) 1) (run m) refl
      (λ e f. kept left (made + 1) m high f e q) (λ e f. kept left (made + 1) low m f p e)
    where
      m : ℕ
      m = middle low high

      few : made < made + suc left
      few = omega arith

      -- a stop before every halving is made
      early : made ≡ made + suc left → ⊥
      early e = omega arith

      by_middle : (w : Side) → (high - low ≢ 1) → run m ≡ w → (w ≢ times_out) → (w ≢ collapses) → (r : Side) → undecided w ≡ undecided r
          → StoppedBy run low high r × (made < made + suc left)
      by_middle w n e x y r z =
          let i : w ≡ r = cc in (
            record {
              wide = apart_by (high - low) (omega arith) n;
              middle_run = e ∙ i;
              no_timeout = λ f. x (i ∙ f);
              no_collapse = λ f. y (i ∙ f);
            },
            few,
          )

      go : (b : Bool) → (b ≡ true → high - low ≡ 1) → (b ≡ false → high - low ≢ 1) → (r : Side) → run m ≡ r
          → (run m ≡ times_out → m < high → Kept run m high left (made + 1) (halve run left (made + 1) m high))
          → (run m ≡ collapses → low < m → Kept run low m left (made + 1) (halve run left (made + 1) low m))
          → Kept run low high (suc left) made (cond b (stop low high made adjacent) (half r low high made (λ l h. halve run left (made + 1) l h)))
      go true t f r e x y =
          let d = t refl in
          stopped low high (suc left) made adjacent o p q (λ z. let w : ◌≡◌ {A = ℕ} 0 1 = cc in absurd (omega arith)) (λ z. absurd (early z))
          (λ z. (omega arith, few)) (λ s z. let w : ◌≡◌ {A = ℕ} 0 1 = cc in absurd (omega arith))
      go false t f times_out e x y = kept_further low high m high left made _ (omega arith) (le_refl high) (λ c h. omega arith) (x e (omega arith))
      go false t f collapses e x y =
          let n = f refl in
          let wide : 2 ≤ high - low = apart_by (high - low) (omega arith) n in
          kept_further low high low m left made _ (le_refl low) (omega arith) (λ c h. omega arith) (y e (omega arith))
      go false t f neither e x y =
          stopped low high (suc left) made (undecided neither) o p q (λ z. let w : ◌≡◌ {A = ℕ} 0 1 = cc in absurd (omega arith)) (λ z. absurd (early z))
          (λ z. let w : ◌≡◌ {A = ℕ} 0 1 = cc in absurd (omega arith))
          (by_middle neither (f refl) e (λ z. let w : ◌≡◌ {A = ℕ} 0 1 = cc in absurd (omega arith)) (λ z. let w : ◌≡◌ {A = ℕ} 0 1 = cc in absurd (omega arith)))
      go false t f (refused_run k) e x y =
          stopped low high (suc left) made (undecided (refused_run k)) o p q (λ z. let w : ◌≡◌ {A = ℕ} 0 1 = cc in absurd (omega arith)) (λ z. absurd (early z))
          (λ z. let w : ◌≡◌ {A = ℕ} 0 1 = cc in absurd (omega arith))
          (by_middle (refused_run k) (f refl) e (λ z. let w : ◌≡◌ {A = ℕ} 0 1 = cc in absurd (omega arith)) (λ z. let w : ◌≡◌ {A = ℕ} 0 1 = cc in absurd (omega arith)))

  -- "If all q halvings are made, the gap is at most the first gap divided by 2^q, rounded up."
  pub gap_halved : (q low high : ℕ) → low < high → run low ≡ times_out → run high ≡ collapses → (halve run q 0 low high).made ≡ q
      → (halve run q 0 low high).high - (halve run q 0 low high).low ≤ whole_above (high - low) (2 ^ q)
  gap_halved q low high o p r e =
      let k = kept q 0 low high o p r in
      let same : (halve run q 0 low high).made - 0 ≡ q = omega arith in
      k.gap (whole_above (high - low) (2 ^ q)) (rw same (covers (high - low) (2 ^ q) (pow_pos q)))
