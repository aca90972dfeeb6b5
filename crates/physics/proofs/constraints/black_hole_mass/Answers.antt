-- `physics::constraints::black_hole_mass` meets its contract.
use Rattle.std.proofs.Common.{◌≡◌, ℕ, List, Option, None, Some, slice_index_or, rules, sym, ap, ◌∙◌}
use Rattle.std.specs.Option.{option_map}
use lib.Ieee.{Float, nan, binary64, of_bits}
use Rattle.vectors.specs.Constants.{constant_bits}
use Rattle.vectors.specs.Position.{first_at_or_below}
use Rattle.physics.specs.BlackHole.{black_hole_mass_of}
use Rattle.physics.proofs.constraints.black_hole_mass.Goals as goal

-- the mass at an index that was found with the threshold's bits
mass_at_lem : (radial_factor mass : List Float) (found : Option ℕ) → found ≡ first_at_or_below (of_bits binary64 0x3F847AE147AE147B) radial_factor
    → option_map (λ i. slice_index_or mass i nan) found ≡ black_hole_mass_of radial_factor mass
unfolding black_hole_mass_of
mass_at_lem radial_factor mass found e =
    ap (option_map (λ i. slice_index_or mass i nan)) (e ∙ ap (λ (bound : Float). first_at_or_below bound radial_factor) (sym constant_bits.1))

pub returns-in_err-bh_radius_index : goal.returns-in_err-bh_radius_index
returns-in_err-bh_radius_index c =
    let a = c.args in
    c.from_residual.ensures ∙ mass_at_lem a.radial_factor.now a.mass.now None (sym c.in_err-bh_radius_index.was ∙ c.position_at_or_below.ensures)

pub returns : goal.returns
unfolding of_bits
returns c =
    let a = c.args in
    let i = c.in_ok-bh_radius_index.bh_radius_index in
    let e : c.unwrap_or.result ≡ slice_index_or a.mass.now i nan = search rules in
    ap {B = Option Float} Some e ∙ mass_at_lem a.radial_factor.now a.mass.now (Some i) (sym c.in_ok-bh_radius_index.was ∙ c.position_at_or_below.ensures)
