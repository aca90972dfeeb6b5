-- What is answered to an input above 4,096 bytes before all else, and to any other by all of its bytes, is told by as many as are read.
use Rattle.std.specs.Prelude.{ℕ, ◌≤◌, ◌<◌, Bool, true, false, cond, List, ◌++◌, ◌≡◌, refl, ltb, length, take, Option, None, Some}
use Rattle.std.proofs.Common.{sym, ◌∙◌, ap, arith, [], append-nil, length-take-le, take_all, ltb-true, ltb-false, lt-ltb}
use Rattle.std.proofs.lemmas.List.{take-append-le}
use Rattle.std.specs.Io.KnownBytes.{Consumes, IsAtEnd}
use Rattle.program_io.specs.Input.{lent_input}

pub cut_tells :
    {A : Type 0} (long : A) (answer : List ℕ → A) (input : List ℕ) →
    cond (ltb 4096 (length (take lent_input input))) long (answer (take lent_input input)) ≡ cond (ltb 4096 (length input)) long (answer input)
cut_tells {A} long answer input = go (ltb 4096 (length input)) refl
  where
    answered : List ℕ → Bool → A
    answered bytes above = cond above long (answer bytes)

    go : (above : Bool) → ltb 4096 (length input) ≡ above
        → answered (take lent_input input) (ltb 4096 (length (take lent_input input))) ≡ answered input (ltb 4096 (length input))
    go true e =
        let l : length (take lent_input input) ≡ lent_input = length-take-le lent_input input (ltb-true 4096 (length input) e) in
        ap (answered (take lent_input input)) (lt-ltb 4096 (length (take lent_input input)) (omega (arith, l))) ∙ sym (ap (answered input) e)
    go false e =
        ap (λ (bytes : List ℕ). answered bytes (ltb 4096 (length bytes))) (take_all lent_input input (omega (arith, ltb-false 4096 (length input) e)))

-- a buffer of as many bytes gets them of an input whose bytes are known
pub counted_takes :
    (bytes : List ℕ) (left' : Option (List ℕ)) (buffer : List ℕ) (count : ℕ) → length buffer ≡ lent_input → count ≤ length buffer →
    Consumes (Some bytes) left' (take count buffer) → (count < length buffer → IsAtEnd left') → take count buffer ≡ take lent_input bytes
counted_takes bytes None buffer count room within consumed ended = absurd consumed
counted_takes bytes (Some rest) buffer count room within consumed ended = go (ltb count lent_input) refl
  where
    front : List ℕ
    front = take count buffer

    long : length front ≡ count
    long = length-take-le count buffer within

    go : (short : Bool) → ltb count lent_input ≡ short → front ≡ take lent_input bytes
    go true e =
        let none : rest ≡ [] = ended (omega (arith, ltb-true count lent_input e, room)) in
        let all : bytes ≡ front = consumed ∙ ap (λ (l : List ℕ). front ++ l) none ∙ append-nil front in
        sym (ap (take lent_input) all ∙ take_all lent_input front (omega (arith, long, ltb-true count lent_input e)))
    go false e =
        let same : count ≡ lent_input = omega (arith, ltb-false count lent_input e, room, within) in
        sym
        (ap (take lent_input) consumed ∙ take-append-le lent_input front rest (omega (arith, long, same)) ∙ take_all lent_input front (omega (arith, long, same)))
