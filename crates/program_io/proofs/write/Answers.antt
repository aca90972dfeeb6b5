-- `program_io::write` meets its contract.
use Rattle.std.proofs.Common.{◌≡◌, ℕ, ◌-◌, List, ◌++◌, arith, length, take, drop, sym, ap, ◌∙◌, append_assoc, take-append-drop, length-drop}
use Rattle.std.proofs.lemmas.List.{take_all}
use Rattle.std.proofs.KnownBytes.{Appends-trans}
use Rattle.program_io.proofs.write.Goals as goal

-- what the output took of the rest, and what is left of it
split : (done rest : List ℕ) (n : ℕ) → done ++ rest ≡ (done ++ take n rest) ++ take (length rest - n) (drop n rest)
split done rest n =
    ap (λ (l : List ℕ). done ++ l) (sym (take-append-drop n rest)) ∙ sym (append_assoc done (take n rest) (drop n rest))
    ∙ ap (λ (l : List ℕ). (done ++ take n rest) ++ l) (sym (take_all (length rest - n) (drop n rest) (omega (arith, length-drop n rest))))

pub loop-rest-preserved : goal.loop-rest-preserved
loop-rest-preserved g c =
    let (done, is, held) = c.loop-rest.invariant in
    let n = c.in-Ok.taken in
    (done ++ take n c.loop-rest.rest.now, is ∙ split done c.loop-rest.rest.now n, Appends-trans _ _ _ _ _ held c.in-Ok.ensures.bytes)
