-- `program_io::read_input` meets its contract.
use Rattle.std.proofs.Common.{◌≡◌, ℕ, ◌+◌, ◌-◌, ◌≤◌, List, ◌++◌, rules, length, take, sym, ap, ◌∙◌, subst, le_refl, drop_at, length-take-le}
use Rattle.std.proofs.lemmas.Slice.{take-put_mid_below}
use Rattle.std.specs.Io.KnownBytes.{Consumes}
use Rattle.std.proofs.KnownBytes.{Consumes-trans}
use borrow.Rule.Slice.PartMut.{put_mid, post_of}
use lib.Seq.{take-add, take-append-le}
use Rattle.program_io.proofs.read_input.Goals as goal

-- the bytes that a read put at a place follow those before it
take_put : (a k n : ℕ) (xs ys : List ℕ) → a ≤ length xs → n ≤ length ys → take a xs ++ take n ys ≡ take (a + n) (put_mid a k xs ys)
take_put a k n xs ys within fits =
    let after = post_of a k xs in
    let front : take a xs ≡ take a (put_mid a k xs ys) = sym (take-put_mid_below _ _ _ _ _ (le_refl _) within) in
    let part = ap (take n) (drop_at (take a xs) (ys ++ after) a (length-take-le a xs within)) ∙ take-append-le n ys after fits in
    ap (λ l. l ++ take n ys) front ∙ ap (λ l. take a (put_mid a k xs ys) ++ l) (sym part) ∙ sym (take-add a n (put_mid a k xs ys))

pub loop-count-preserved : goal.loop-count-preserved
loop-count-preserved g c =
    let l = c.loop-count in
    let joined = take_put l.count (length l.buffer - l.count) c.in-Ok.more l.buffer c.read.new.buf l.invariant.1 c.in-Ok.ensures.bound.0 in
    (search rules, search rules, subst (Consumes _ _) joined (Consumes-trans _ _ _ _ _ l.invariant.2 c.in-Ok.ensures.bytes.0))
