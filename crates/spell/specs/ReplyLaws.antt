-- The reply, by what a call of `spell` answers and leaves in as many lent bytes as an order may have.
use Rattle.std.specs.Prelude.{ℕ, ◌≤◌, ◌<◌, List, ◌≡◌, take}
use Rattle.std.proofs.Math.Path.{refl, sym, ap}
use Rattle.std.proofs.Common.{◌∙◌, lt-ltb, le-ltb}
use native.Mathlib.Omega.{arith}
use Rattle.std.proofs.Math.ListN.{length}
use Rattle.run.specs.Order.{read_order}
use Rattle.run.specs.Order.{Read, Refused, Order}
use Rattle.order_forms.specs.Spelling as writer
use Rattle.order_forms.specs.Spelling.{AfterSpelling, spelling}
use Rattle.order_forms.specs.SpellingAnswers.{spelling_refused, spelling_written, written_front}
use Rattle.spell.specs.Reply.{Reply, refused, refused_at, spelled, reply_read, reply_of}

-- "before all else"
pub long_refused : (input : List ℕ) → 4096 < length input → reply_of input ≡ refused 8
unfolding reply_of
long_refused input h = rw (lt-ltb 4096 (length input) h)

-- what a call answers, with the bytes that it wrote
abbrev pub reply_by : writer.Answered → List ℕ → Reply
reply_by (writer.refused_at number position) bytes = refused_at number position
reply_by (writer.refused number) bytes = refused number
reply_by (writer.ends_at end) bytes = spelled (take end bytes)

abbrev pub reply_in : AfterSpelling → Reply
reply_in after = reply_by after.answer after.bytes

module _ (order bytes : List ℕ) (few : length order ≤ 4096) (room : 4096 ≤ length bytes) where
  pub spelling_replies : reply_in (spelling order bytes) ≡ reply_of order
  unfolding reply_of reply_read
  spelling_replies = go (read_order order) refl ∙ sym (rw (le-ltb 4096 (length order) few))
    where
      go : (r : Read) → read_order order ≡ r → reply_in (spelling order bytes) ≡ reply_read order (read_order order)
      go (Refused number position) e = ap reply_in (spelling_refused order bytes number position e) ∙ sym (ap (reply_read order) e)
      go (Order set p) e =
          let enough : length order ≤ length bytes = omega arith in
          ap (λ (a : AfterSpelling). reply_by a.answer (spelling order bytes).bytes) (spelling_written order bytes set p e enough)
          ∙ ap spelled (written_front order bytes set p e enough)
          ∙ sym (ap (reply_read order) e)

  pub spelling_ends : (end : ℕ) → (spelling order bytes).answer ≡ writer.ends_at end → end ≡ length order
  spelling_ends end h = go (read_order order) refl
    where
      go : (r : Read) → read_order order ≡ r → end ≡ length order
      go (Refused number position) e =
          let other = ap (λ (a : AfterSpelling). a.answer) (spelling_refused order bytes number position e) in
          let z : ◌≡◌ {A = ℕ} 0 1 = cc in absurd (omega arith)
      go (Order set p) e =
          let enough : length order ≤ length bytes = omega arith in
          let same = ap (λ (a : AfterSpelling). a.answer) (spelling_written order bytes set p e enough) in cc
