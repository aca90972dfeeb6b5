-- What a method leaves of the struct of src/writer.rt: a list written where it stood, and the place behind it.
use Rattle.std.specs.Prelude.{◌≡◌, ℕ, ◌+◌, ◌≤◌, List, [], ◌++◌, length, refl}
use Rattle.std.proofs.Common.{sym, ap, ◌∙◌, arith, length-append}
use Rattle.vectors.specs.Memory.{put}
use Rattle.vectors.specs.MemoryLaws.{length-put}
use Rattle.run.specs.declared.writer.Writer.{Writer as Held}
use Rattle.run.specs.WriteLaws.{put_nil, put-append}

module _ {A : Type 0} where
  -- room for as many elements more
  abbrev pub Room : ℕ → Held A → Type 0
  Room n w = w.at + n ≤ length w.out.now

  -- `ys`, of `most` elements at the most, was written into the same memory, where there was room for it
  pub record Written (most : ℕ) (ys : List A) (a b : Held A) : Type 0 where
    pub memory : b.out.ghost_name ≡ a.out.ghost_name
    pub is : b.out.now ≡ put a.at ys a.out.now
    pub ends : b.at ≡ a.at + length ys
    pub within : a.at + length ys ≤ length a.out.now
    pub short : length ys ≤ most
    pub long : length b.out.now ≡ length a.out.now

  -- all that was put
  pub written : {ys : List A} {a b : Held A} → b.out.ghost_name ≡ a.out.ghost_name → b.out.now ≡ put a.at ys a.out.now → b.at ≡ a.at + length ys
      → a.at + length ys ≤ length a.out.now → Written (length ys) ys a b
  written {ys} {a} m i e h = record { memory = m; is = i; ends = e; within = h; short = omega arith; long = ap length i ∙ length-put a.at ys a.out.now h }

  -- nothing
  pub nothing : (a : Held A) → Written 0 [] a a
  nothing a = let h = a.inside in written refl (sym (put_nil a.at a.out.now)) (omega arith) (omega arith)

  -- one after another
  pub then : {m n : ℕ} {ys zs : List A} {a b c : Held A} → Written m ys a b → Written n zs b c → Written (m + n) (ys ++ zs) a c
  then {m} {n} {ys} {zs} {a} {b} {c} v w =
      let l = length-append ys zs in
      let r : a.at + length ys + length zs ≤ length a.out.now = omega (arith, v.ends, v.long, w.within) in
      record {
        memory = w.memory ∙ v.memory;
        is = w.is ∙ ap (λ (k : ℕ). put k zs b.out.now) v.ends ∙ ap (put (a.at + length ys) zs) v.is ∙ put-append a.at ys zs a.out.now r;
        ends = omega (arith, v.ends, w.ends);
        within = omega (arith, r);
        short = omega (arith, v.short, w.short);
        long = w.long ∙ v.long;
      }

  -- with more room
  pub wider : {m n : ℕ} {ys : List A} {a b : Held A} → Written m ys a b → m ≤ n → Written n ys a b
  wider w h = record { memory = w.memory; is = w.is; ends = w.ends; within = w.within; short = omega (arith, w.short); long = w.long }

  -- with no more room than it took
  pub tight : {m : ℕ} {ys : List A} {a b : Held A} → Written m ys a b → Written (length ys) ys a b
  tight w = written w.memory w.is w.ends w.within
