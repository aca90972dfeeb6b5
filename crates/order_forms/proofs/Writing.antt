-- Bytes as they are lent, and an accepted order with room for it.
use Rattle.std.proofs.Common.{ℕ, ◌+◌, ◌-◌, ◌≤◌, ◌<◌, List, ◌∷◌, ◌++◌, ◌≡◌, Ok, length, take, drop, refl, sym, ap, subst, ◌∙◌, arith, ext_get_or}
use Rattle.vectors.specs.Memory.{part}
use Rattle.vectors.specs.MemoryLaws.{lent, length_part, get_d_part}
use Rattle.run.specs.Order.{operand_size, read_order, Order}
use Rattle.run.specs.WriteLaws.{Wrote, wrote_both}
use Rattle.run.specs.declared.settings.Settings.{Settings}
use Rattle.run.specs.declared.order.Places.{Places}
use Rattle.order_forms.specs.Spelling.{bytes_at, spelled_of, after_spelling, spelling}
use Rattle.order_forms.specs.SpellingAnswers.{spelling_written}
use Rattle.order_forms.specs.OrderShape.{operand_inside, order_length, begins_at}
use Rattle.order_forms.specs.Writing.{Fits}
use Rattle.claims.specs.SettingPlacesLaws.{place_of}
use Rattle.order_forms.specs.BytesAtLaws.{length_bytes, get_d_bytes}

-- n bytes from `from` on, as they are lent
pub lent_bytes : (n : ℕ) (s : List ℕ) (from : ℕ) → from + n ≤ length s → take (from + n - from) (drop from s) ≡ bytes_at n s from
lent_bytes n s from h =
    lent from (from + n) n s refl
    ∙ ext_get_or 0 (part from n s) (bytes_at n s from) (length_part from n s h ∙ sym (length_bytes n s from))
    (λ i l. let inside : i < n = omega (arith, length_part from n s h) in get_d_part from n s i 0 inside ∙ sym (get_d_bytes n s from i inside))

-- a command whose operand is named, and the rest behind it
pub then_wrote : {at b code : ℕ} {operand named rest xs ys zs : List ℕ} → operand ≡ named → (b ≡ at + (1 + length operand)) × Wrote at (code ∷ operand) xs ys
    → Wrote b rest ys zs → Wrote at (code ∷ (named ++ rest)) xs zs
then_wrote {at} {code = code} {rest = rest} {xs = xs} {zs = zs} e v w =
    subst (λ (l : List ℕ). Wrote at (code ∷ (l ++ rest)) xs zs) e (wrote_both v.1 w refl (omega (arith, v.0)))

-- ---- an accepted order, with room for it
module _ (s bytes : List ℕ) (set : Settings) (p : Places) (e : read_order s ≡ Order set p) (h : length s ≤ length bytes) where
  pub spell_fits : Fits (length s) p (length bytes)
  unfolding place_of operand_size
  spell_fits =
      let l = order_length s set p e in
      record {
        amplitude = omega (arith, operand_inside s set p e 0 (omega arith));
        level = omega (arith, operand_inside s set p e 1 (omega arith));
        max_time = omega (arith, operand_inside s set p e 2 (omega arith));
        interval = omega (arith, operand_inside s set p e 3 (omega arith));
        dx_level = omega (arith, operand_inside s set p e 4 (omega arith));
        skip = omega (arith, operand_inside s set p e 5 (omega arith));
        advances = omega (arith, begins_at s set p e);
        whole = sym l;
        enough = h;
      }

  pub spell_done : {after : List ℕ} → Wrote 0 (spelled_of s p) bytes after → after_spelling (Ok (length s)) after ≡ spelling s bytes
  spell_done w = ap (after_spelling (Ok (length s))) w.is ∙ sym (spelling_written s bytes set p e h)
