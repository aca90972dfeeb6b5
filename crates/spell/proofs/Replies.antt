-- The reply to an order, by what a call of `spell` answered and left in 4,096 lent bytes.
use Prim.Native.Nat.{ℕ, ◌-◌, ◌≤◌}
use mathlib.Core.List.{List}
use mathlib.Core.Path.{◌≡◌, sym, ◌∙◌, ap, subst}
use native.Mathlib.Omega.{arith}
use lib.ListN.{length, take}
use Rattle.order_forms.specs.Spelling.{AfterSpelling, after_spelling, spelling}
use Rattle.std.specs.Prelude.{Option, Result, Ok, Err, IsErrAnd, ⊤}
use Rattle.std.proofs.KnownBytes.{Keeps-refl}
use Rattle.program_io.specs.declared.Failure.{Failure}
use Rattle.program_io.specs.Output.{Sent, CutAfter}
use Rattle.order_forms.specs.declared.spelling.SpellError.{SpellError}
use Rattle.order_forms.specs.declared.spelling.SpellError.TheVariants.{Faulty, NoRoom}
use Rattle.spell.specs.declared.Refusal.TheVariants.{Unspelled}
use Rattle.spell.specs.declared.NotSpelled.{NotSpelled}
use Rattle.spell.specs.declared.NotSpelled.TheVariants.{Refused, Failed}
use Rattle.spell.specs.Reply.{Reply, spelled, reply_of}
use Rattle.spell.specs.Answers.{told, Answers}
use Rattle.spell.specs.ReplyLaws.{reply_in, spelling_replies, spelling_ends}

module _
    (order lent : List ℕ) (few : length order ≤ 4096) (room : 4096 ≤ length lent) (r : Result ℕ SpellError) (out : List ℕ)
    (after : after_spelling r out ≡ spelling order lent)
  where
    same : (answer : Result ℕ SpellError) → r ≡ answer → spelling order lent ≡ after_spelling answer out
    same answer is = sym after ∙ ap (λ (s : Result ℕ SpellError). after_spelling s out) is

    reply_is : (answer : Result ℕ SpellError) → r ≡ answer → reply_of order ≡ reply_in (after_spelling answer out)
    reply_is answer is = sym (spelling_replies order lent few room) ∙ ap reply_in (same answer is)

    pub reply_told : (error : SpellError) → r ≡ Err error → reply_of order ≡ told (Unspelled error)
    reply_told (Faulty misread) is = reply_is (Err (Faulty misread)) is
    reply_told NoRoom is = reply_is (Err NoRoom) is

    module _ (end : ℕ) (is : r ≡ Ok end) where
      pub ends_in : end ≤ 4096
      ends_in = omega (arith, spelling_ends order lent few room end (ap (λ (x : AfterSpelling). x.answer) (same (Ok end) is)))

      -- the part of the lent bytes that ends there
      pub reply_bytes : reply_of order ≡ spelled (take (end - 0) out)
      reply_bytes = let all : end ≡ end - 0 = omega arith in reply_is (Ok end) is ∙ ap (λ (n : ℕ). spelled (take n out)) all

-- ---- an error that an earlier one became
pub refuses :
    (reply : Reply) (held : Option (List ℕ)) (error : SpellError) → reply ≡ told (Unspelled error) → (r : Result ⊤ NotSpelled) →
    IsErrAnd r (λ e. e ≡ Refused (Unspelled error)) → Answers reply held held r
refuses reply held error is (Ok done) e = absurd e
refuses reply held error is (Err f) e = subst (λ (x : NotSpelled). Answers reply held held (Err x)) (sym e) (is, Keeps-refl held)

pub fails :
    (reply : Reply) (held held' : Option (List ℕ)) (bytes : List ℕ) (failure : Failure) → reply ≡ spelled bytes → Sent held held' bytes (Err failure) →
    CutAfter held held' bytes (Err failure) → (r : Result ⊤ NotSpelled) → IsErrAnd r (λ e. e ≡ Failed failure) → Answers reply held held' r
fails reply held held' bytes failure is sent cut (Ok done) e = absurd e
fails reply held held' bytes failure is sent cut (Err f) e =
    subst (λ (x : NotSpelled). Answers reply held held' (Err x)) (sym e) (bytes, is, sent, cut)
