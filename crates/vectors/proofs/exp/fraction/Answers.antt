-- `vectors::exp::fraction` meets its contract: the entry with the exponent's field is T_j's bits.
use mathlib.Core.Path.{◌≡◌, sym, ap, ◌∙◌, subst}
use mathlib.Core.Bool.{Bool, false, not}
use Prim.Native.Nat.{ℕ, ◌+◌, ◌*◌, ◌^◌, ◌<◌}
use native.Mathlib.Nat.{mul_assoc}
use native.Mathlib.Omega.{arith}
use lib.Dec.{T}
use lib.Pow.{pow_pos}
use lib.Ieee.{binary64, fits, of_bits, to_bits, is_nan}
use lib.Ieee.Bits.{of_bits-to_bits, nan_bits_is}
use lib.Ieee.Fits.{div-fits}
use Rattle.vectors.specs.ExpTable.{mantissa_of}
use Rattle.vectors.specs.Exp.{fraction_of}
use Rattle.vectors.specs.ExpLaws.{mantissa_least, mantissa_below, fraction_exact}
use Rattle.vectors.proofs.Floats.{bits_are, value_no_nan}
use Rattle.vectors.proofs.exp.fraction.Goals as goal

holds : (j : ℕ) → T (fits binary64 (fraction_of j))
unfolding fraction_of
holds j = div-fits binary64 _ _

-- T_j by its bits
by_bits : (j : ℕ) → j < 256 → of_bits binary64 (mantissa_of j + 0x3FE0000000000000) ≡ fraction_of j
by_bits j h =
    let m = mantissa_of j in
    let bits : to_bits binary64 (fraction_of j) ≡ 1022 * 2 ^ 52 + m =
    bits_are (fraction_of j) m (2 ^ 52) m 1022 (pow_pos 52) (fraction_exact j h) (sym (mul_assoc m (2 ^ 1022) (2 ^ 52))) (mantissa_least j h) (mantissa_below j h) in
    let sum : m + 0x3FE0000000000000 ≡ 1022 * 2 ^ 52 + m = omega arith in
    ap (of_bits binary64) (sum ∙ sym bits) ∙ of_bits-to_bits binary64 (fraction_of j) (holds j)

pub overflow_add-result : goal.overflow_add-result
overflow_add-result c =
    record { fits = omega (arith, mantissa_below c.args.j c.requires) }

pub returns : goal.returns
returns c =
    rw c.mantissa.ensures (by_bits c.args.j c.requires)

pub float_from_bits-result : goal.float_from_bits-result
float_from_bits-result c =
    let j = c.args.j in
    subst (λ (z : Bool). T (not z)) (sym (nan_bits_is binary64 _ ∙ ap is_nan (returns c)))
    (value_no_nan (fraction_of j) false (mantissa_of j) (2 ^ 52) (fraction_exact j c.requires))
