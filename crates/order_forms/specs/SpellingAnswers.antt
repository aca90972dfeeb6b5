-- What a call of the writer answers and leaves, said apart: refusals write nothing, and behind the order nothing changes.
use Rattle.std.specs.Prelude.{ℕ, ◌≤◌, ◌<◌, true, List, ◌↔◌, ◌≡◌, refl, length, take, drop}
use Rattle.std.proofs.Common.{sym, ◌∙◌, arith}
use Rattle.std.proofs.Math.Path.{ap}
use borrow.Author.Tests.{lt-leb, le-leb}
use Rattle.vectors.specs.Memory.{put}
use Rattle.run.specs.Order.{read_order}
use Rattle.run.specs.WriteLaws.{drop-put, take-put}
use Rattle.run.specs.declared.settings.Settings.{Settings}
use Rattle.run.specs.declared.order.Places.{Places}
use Rattle.run.specs.Order.{Refused, Order}
use Rattle.order_forms.specs.Spelling.{spelled_of, ascending, said_by, ends_at, refused, refused_at, AfterSpelling, spelling_read, spelling}
use Rattle.order_forms.specs.OneSpelling.{Octets, one_spelling}
use Rattle.order_forms.specs.SpelledRead.{spelled_read}
use Rattle.order_forms.specs.SpellingLaws.{spelled_places, spelled_length, spelled_same}

module _ (s bytes : List ℕ) where
  -- "the reader's 1 to 4 .. with nothing written"
  pub spelling_refused : (n at : ℕ) → read_order s ≡ Refused n at → spelling s bytes ≡ record { answer = refused_at n at; bytes = bytes }
  unfolding spelling spelling_read
  spelling_refused n at e = ap (spelling_read s bytes) e

  module _ (set : Settings) (p : Places) (e : read_order s ≡ Order set p) where
    -- "17 for that shortage"
    pub spelling_short : length bytes < length s → spelling s bytes ≡ record { answer = refused 17; bytes = bytes }
    unfolding spelling spelling_read
    spelling_short h = rw (e, lt-leb (length s) (length bytes) h)

    pub spelling_written : length s ≤ length bytes → spelling s bytes ≡ record { answer = ends_at (length s); bytes = put 0 (spelled_of s p) bytes }
    unfolding spelling spelling_read
    spelling_written h = rw (e, le-leb (length s) (length bytes) h)

    -- the written bytes, and those behind them
    pub written_front : length s ≤ length bytes → take (length s) (spelling s bytes).bytes ≡ spelled_of s p
    written_front h =
        ap (λ (a : AfterSpelling). take (length s) a.bytes) (spelling_written h)
        ∙ ap (λ (n : ℕ). take n (put 0 (spelled_of s p) bytes)) (sym (spelled_length s set p e))
        ∙ take-put (spelled_of s p) bytes

    pub written_behind : length s ≤ length bytes → drop (length s) (spelling s bytes).bytes ≡ drop (length s) bytes
    written_behind h =
        let l = spelled_length s set p e in
        ap (λ (a : AfterSpelling). drop (length s) a.bytes) (spelling_written h)
        ∙ drop-put 0 (spelled_of s p) bytes (length s) (omega arith) (omega arith)

    -- "Writing an order already written this way returns it": one whose settings stand as 01 to 06
    pub written_same : ascending p ≡ true → length s ≤ length bytes → spelling s bytes ≡ record { answer = ends_at (length s); bytes = put 0 s bytes }
    written_same a h =
        spelling_written h ∙ ap (λ (l : List ℕ). record { answer = ends_at (length s); bytes = put 0 l bytes }) (spelled_same s set p e a)

-- and what was written before
pub written_again : (s : List ℕ) (set : Settings) (p : Places) → read_order s ≡ Order set p → (bytes : List ℕ) → length s ≤ length bytes
    → spelling (spelled_of s p) bytes ≡ record { answer = ends_at (length s); bytes = put 0 (spelled_of s p) bytes }
unfolding ascending
written_again s set p e bytes h =
    let l = spelled_length s set p e in
    written_same (spelled_of s p) bytes set (spelled_places p.count) (spelled_read s set p e) refl (omega arith)
    ∙ ap (λ (n : ℕ). record { answer = ends_at n; bytes = put 0 (spelled_of s p) bytes }) l

-- "Two accepted orders have equal written bytes exactly if their settings (floats by bits) and their lists of budgets are equal": of what two calls leave
module _ (s u : List ℕ) (a : Octets s) (b : Octets u) (x y : Settings) (p r : Places) (e : read_order s ≡ Order x p) (f : read_order u ≡ Order y r) where
  pub written_alike : (m n : List ℕ) → length s ≤ length m → length u ≤ length n
      → (take (length s) (spelling s m).bytes ≡ take (length u) (spelling u n).bytes) ↔ (said_by s p ≡ said_by u r)
  written_alike m n h k =
      let same = one_spelling s u a b x y p r e f in
      let mine = written_front s m x p e h in
      let other = written_front u n y r f k in
      (λ w. same.0 (sym mine ∙ w ∙ other), λ w. mine ∙ same.1 w ∙ sym other)
