-- Amplitudes 64 and 128 at level 5: initial states that hold no NaN and have a radial factor <= 0.01 (01, "Constraints", "Stage and step"). As in
-- FlatSpace.antt, each vector is computed on its own; the numbers of those that others are computed from are listed.
use Rattle.std.specs.Prelude.{true, false, List, [], ◌∷◌, map, ◌≡◌, Float, pos}
use Rattle.std.specs.Prelude.{Some}
use Rattle.std.proofs.Math.Path.{refl}
use Rattle.std.proofs.Common.{ap, ◌∙◌}
use Rattle.std.specs.Float.{fin, binary64}
use Rattle.std.specs.Float.Ieee.{add, sub, mul, div, neg, round, of_int, of_bits, le, is_nan}
use Rattle.vectors.specs.Constants.{bh_radial_factor_threshold}
use Rattle.vectors.specs.Exp.{exp_of}
use Rattle.vectors.specs.Grid.{points_of, spacing_of, point_of}
use Rattle.vectors.specs.Memory.{tab}
use Rattle.vectors.specs.Position.{first_at_or_below}
use Rattle.vectors.specs.Powers.{one, reciprocal_of}
use Rattle.physics.specs.BlackHole.{state_black_hole_mass}
use Rattle.physics.specs.Constraints.{constraints_of, integrand_of, normalised_of, lapse_of, energy_density_of, radial_factor_of, mass_of, char_speed_of}
use Rattle.physics.specs.InitialState.{exponent_at, wave_profile_of}
use Rattle.physics.specs.Nan as nans
use Rattle.physics.specs.Nan.{state_has_nan}
use Rattle.physics.specs.Rk4.{stored_constraints}
use Rattle.physics.specs.State.{State}
use Rattle.physics.specs.VectorLaws.{map-map}
use Rattle.run.specs.declared.settings.Settings.{Settings}
use Rattle.run.specs.Model.{first_state, holds_nan, mass_at}
use Rattle.claims.specs.DefinitionLaws as laws
use Rattle.claims.specs.FlatSpace.{nought, zeros, integrals_from, integrals, integral_is, gradient_flat, radial_factor_is, field_flat, time_flat}

-- 64 and 128, as `one` is 1
abbrev pub sixty_four : Float
sixty_four = fin false 1 (pos 6)

abbrev pub hundred_twenty_eight : Float
hundred_twenty_eight = fin false 1 (pos 7)

-- the settings of 01's order ("Orders"), but for the amplitude
abbrev pub at : Float → Settings
at amplitude = record { amplitude = amplitude; level = 5; max_time = nought; interval = one; dx_level = 5; skip = true }

-- ---- the momentum of any amplitude

-- the exponents of the profile; the last is -infinity
exponents : List Float
exponents =
    map (of_bits binary64)
    (
    0x8000000000000000 ∷ 0xBFC3C55DB08E1669 ∷ 0xBFE3DDE2A8935DD8 ∷ 0xBFF6881A43B3358A ∷
    0xC004420303DEC54E ∷ 0xC0100FF8E583BEBD ∷ 0xC0178E922B82AB62 ∷ 0xC020631EFCBE0D16 ∷
    0xC025F619980C4338 ∷ 0xC02CA20F5D4879EA ∷ 0xC03248F1B07217E2 ∷ 0xC036FDFF12A42979 ∷
    0xC03C92D84170BCC5 ∷ 0xC04199F916D400B0 ∷ 0xC0458D6C8E665D23 ∷ 0xC04A49715E27B852 ∷
    0xC04FFFFFFFFFFFFE ∷ 0xC0537A366630BEC3 ∷ 0xC057C18A1948AA16 ∷ 0xC05D16A7FF76AA7B ∷
    0xC061EB2B5DD4F936 ∷ 0xC06644B8F5E486C2 ∷ 0xC06C004DEAAA1B5F ∷ 0xC071E1A5CC48EAC0 ∷
    0xC077504F333F9DE8 ∷ 0xC07F3E712162B9B2 ∷ 0xC085BC0E397DF3E3 ∷ 0xC08FE02DF8DF13E6 ∷
    0xC099462E31BDAE84 ∷ 0xC0A6B93D36357D7B ∷ 0xC0B9C58F42A869C2 ∷ 0xC0D9E5855FF9918B ∷
    0xFFF0000000000000 ∷ []
    )

-- the exp of each
shape : List Float
shape =
    map (of_bits binary64)
    (
    0x3FF0000000000000 ∷ 0x3FEB6B89C9778BE8 ∷ 0x3FE13328F1736BAB ∷ 0x3FCF4E4641B0FB1C ∷
    0x3FB458E486F746E3 ∷ 0x3F9277066F191032 ∷ 0x3F66AF3E5FE534F7 ∷ 0x3F321D86EE1E9511 ∷
    0x3EF1DADC9D9EBBB8 ∷ 0x3EA454C8B63A9F10 ∷ 0x3E4898D55C0303EA ∷ 0x3DDC6DE51FDEFF6C ∷
    0x3D5B6AB7132BF0BA ∷ 0x3CC28B6D918093F5 ∷ 0x3C0C1B27B112696A ∷ 0x3B31C75A30FD2333 ∷
    0x3A2969D47321E530 ∷ 0x38E84172BA744D1D ∷ 0x375E0CAB840E9176 ∷ 0x357196F40384AA78 ∷
    0x330243F492B13438 ∷ 0x2FDFB89C2DFAA8A9 ∷ 0x2BBC4C1740851B24 ∷ 0x2622E788B4167B0D ∷
    0x1E4CC6F5ECE9CD7E ∷ 0x12DBB8E1C5F5F9DB ∷ 0x01382D60BBBD24AD ∷ 0x0000000000000000 ∷
    0x0000000000000000 ∷ 0x0000000000000000 ∷ 0x0000000000000000 ∷ 0x0000000000000000 ∷
    0x0000000000000000 ∷ []
    )

exponents_are : tab (points_of 5) (λ i. exponent_at (point_of 5 i)) ≡ exponents
unfolding exponent_at points_of point_of tab exponents add mul div neg round of_int of_bits
exponents_are = refl

shape_is : map exp_of exponents ≡ shape
unfolding exp_of exponents shape add sub mul div neg round of_int of_bits le is_nan
shape_is = refl

module _ (amplitude : Float) where
  abbrev momentum : List Float
  momentum = map (mul binary64 amplitude) shape

  by_exponents : wave_profile_of 5 amplitude ≡ map (λ (x : Float). mul binary64 amplitude (exp_of x)) (tab (points_of 5) (λ i. exponent_at (point_of 5 i)))
  unfolding wave_profile_of points_of tab
  by_exponents = refl

  momentum_is : wave_profile_of 5 amplitude ≡ momentum
  momentum_is =
      by_exponents
      ∙ ap (map (λ (x : Float). mul binary64 amplitude (exp_of x))) exponents_are
      ∙ map-map (mul binary64 amplitude) exp_of exponents
      ∙ ap (map (mul binary64 amplitude)) shape_is

-- ---- the initial state, by its lapse and its radial factor
module _ (amplitude : Float) (lapse radial_factor : List Float) where
  abbrev initial : State
  initial =
      record {
        time = nought;
        field = zeros;
        conj_momentum = momentum amplitude;
        alternate_mass = mass_of 5 radial_factor;
        energy_density = energy_density_of 5 zeros (momentum amplitude);
        mass = mass_of 5 radial_factor;
        radial_factor = radial_factor;
        lapse = lapse;
        char_speed = char_speed_of 5 radial_factor lapse;
      }

  -- what is computed of it
  record Computed (mass : Float) : Type 0 where
    pub lapse_is : lapse_of 5 zeros (momentum amplitude) ≡ lapse
    pub radial_factor_is : radial_factor_of 5 lapse ≡ radial_factor
    pub no_nan : holds_nan initial ≡ false
    pub mass_is : mass_at initial ≡ Some mass

  module _ (mass : Float) (c : Computed mass) where
    constraints : constraints_of 5 zeros (momentum amplitude) ≡ stored_constraints initial
    constraints = laws.constraints_is 5 zeros (momentum amplitude) ∙ rw (gradient_flat, c.lapse_is, c.radial_factor_is)

    first_is : first_state (at amplitude) ≡ initial
    unfolding first_state
    first_is =
        laws.initial_is 5 amplitude
        ∙ rw (field_flat, momentum_is amplitude, constraints, time_flat)
        (laws.state_is 5 nought zeros (momentum amplitude) (mass_of 5 radial_factor) ∙ rw constraints)

    collapsed : (holds_nan (first_state (at amplitude)) ≡ false) × (mass_at (first_state (at amplitude)) ≡ Some mass)
    collapsed = (ap holds_nan first_is ∙ c.no_nan, ap mass_at first_is ∙ c.mass_is)

lapse_by : (p : List Float) → lapse_of 5 zeros p ≡ normalised_of (map exp_of (integrals (spacing_of 5) (integrand_of 5 zeros p)))
lapse_by p = laws.lapse_is 5 zeros p ∙ ap (λ (xs : List Float). normalised_of (map exp_of xs)) (integral_is (spacing_of 5) (integrand_of 5 zeros p))

-- ---- amplitude 64
abbrev pub mass64 : Float
mass64 = of_bits binary64 0x3F9CF033A2EDC73E

lapse64 : List Float
lapse64 =
    map (of_bits binary64)
    (
    0x40849437D97D4775 ∷ 0x405C2C223F052FB6 ∷ 0x401849946A7BBEA1 ∷ 0x3FF5F5D1C53C69A4 ∷
    0x3FF0B1C8A6B17AD0 ∷ 0x3FF036BC174DB786 ∷ 0x3FF0004352C5FB32 ∷ 0x3FEFE7F58A6D5ED7 ∷
    0x3FF0000000D5BE5C ∷ 0x3FEFFFF0D850F8D4 ∷ 0x3FF0000000000009 ∷ 0x3FEFFFFFFFCB3EC1 ∷
    0x3FF0000000000000 ∷ 0x3FF0000000000000 ∷ 0x3FF0000000000000 ∷ 0x3FF0000000000000 ∷
    0x3FF0000000000000 ∷ 0x3FF0000000000000 ∷ 0x3FF0000000000000 ∷ 0x3FF0000000000000 ∷
    0x3FF0000000000000 ∷ 0x3FF0000000000000 ∷ 0x3FF0000000000000 ∷ 0x3FF0000000000000 ∷
    0x3FF0000000000000 ∷ 0x3FF0000000000000 ∷ 0x3FF0000000000000 ∷ 0x3FF0000000000000 ∷
    0x3FF0000000000000 ∷ 0x3FF0000000000000 ∷ 0x3FF0000000000000 ∷ 0x3FF0000000000000 ∷
    0x3FF0000000000000 ∷ []
    )

radial_factor64 : List Float
radial_factor64 =
    map (of_bits binary64)
    (
    0x3FF0000000000000 ∷ 0xBFE9E06745DB8E7C ∷ 0x3FCA20BE1381FD65 ∷ 0x3FCB77D84C42D2D2 ∷
    0x3FD79716C8D64A9E ∷ 0x3FDF172BEB502536 ∷ 0x3FE209494FC56529 ∷ 0x3FE3FB11BAC73DC3 ∷
    0x3FE58ABD39AE548E ∷ 0x3FE6B39CCA8484D7 ∷ 0x3FE7A232FF48E2E0 ∷ 0x3FE864E84159AE74 ∷
    0x3FE9072A7F6D4444 ∷ 0x3FE99075FF77B55B ∷ 0x3FEA06246D3915F1 ∷ 0x3FEA6C21FF8A9D03 ∷
    0x3FEAC55FDF91F333 ∷ 0x3FEB141DFF986C6C ∷ 0x3FEB5A1C54F382D8 ∷ 0x3FEB98BC865FF539 ∷
    0x3FEBD1197FA7F5C4 ∷ 0x3FEC041848D0B94C ∷ 0x3FEC327445816B0F ∷ 0x3FEC5CC8427BCA93 ∷
    0x3FEC83953FB6A222 ∷ 0x3FECA74799532B03 ∷ 0x3FECC83AFFBC46E5 ∷ 0x3FECE6BD8DF7AC90 ∷
    0x3FED0312369C8AF9 ∷ 0x3FED1D72B050862E ∷ 0x3FED3610FFC54E82 ∷ 0x3FED4D18B5749E8E ∷
    0x3FED62AFEFC8F99A ∷ []
    )

computed_64 : Computed sixty_four lapse64 radial_factor64 mass64
unfolding integrals_from integrand_of normalised_of energy_density_of mass_of char_speed_of state_has_nan nans.holds_nan state_black_hole_mass first_at_or_below bh_radial_factor_threshold exp_of points_of point_of spacing_of tab zeros shape lapse64 radial_factor64 add sub mul div neg round of_int of_bits le is_nan
computed_64 =
    record {
      lapse_is = lapse_by (momentum sixty_four);
      radial_factor_is = radial_factor_is 5 lapse64 _ (integral_is (spacing_of 5) (map reciprocal_of lapse64));
      no_nan = refl;
      mass_is = refl;
    }

pub no_nan_64 : holds_nan (first_state (at sixty_four)) ≡ false
no_nan_64 = (collapsed sixty_four lapse64 radial_factor64 _ computed_64).0

pub collapses_64 : mass_at (first_state (at sixty_four)) ≡ Some mass64
collapses_64 = (collapsed sixty_four lapse64 radial_factor64 _ computed_64).1

-- ---- amplitude 128
abbrev pub mass128 : Float
mass128 = of_bits binary64 0x40634FB5A8174665

lapse128 : List Float
lapse128 =
    map (of_bits binary64)
    (
    0x4245E49B64CDCBB9 ∷ 0x41A3395C886E123B ∷ 0x40953CD40F674858 ∷ 0x400C63B656DCF5A0 ∷
    0x3FF2F6C9F352F016 ∷ 0x3FF0DF5DDD75D6EC ∷ 0x3FF0010D51BBA8CD ∷ 0x3FEFA04251AF9F5B ∷
    0x3FF000000356F970 ∷ 0x3FEFFFC3616EF3A2 ∷ 0x3FF0000000000020 ∷ 0x3FEFFFFFFF2CFB02 ∷
    0x3FF0000000000000 ∷ 0x3FF0000000000000 ∷ 0x3FF0000000000000 ∷ 0x3FF0000000000000 ∷
    0x3FF0000000000000 ∷ 0x3FF0000000000000 ∷ 0x3FF0000000000000 ∷ 0x3FF0000000000000 ∷
    0x3FF0000000000000 ∷ 0x3FF0000000000000 ∷ 0x3FF0000000000000 ∷ 0x3FF0000000000000 ∷
    0x3FF0000000000000 ∷ 0x3FF0000000000000 ∷ 0x3FF0000000000000 ∷ 0x3FF0000000000000 ∷
    0x3FF0000000000000 ∷ 0x3FF0000000000000 ∷ 0x3FF0000000000000 ∷ 0x3FF0000000000000 ∷
    0x3FF0000000000000 ∷ []
    )

radial_factor128 : List Float
radial_factor128 =
    map (of_bits binary64)
    (
    0x3FF0000000000000 ∷ 0xC0C34F35A8174665 ∷ 0x3FC555847AA27D24 ∷ 0x3FC0201518EC1094 ∷
    0x3FC8EF9149D638B5 ∷ 0x3FD5E5E4946B6FC8 ∷ 0x3FDB0F9C77B4C279 ∷ 0x3FE003F469571726 ∷
    0x3FE2353EBC0EEF44 ∷ 0x3FE3BB29AC4E0090 ∷ 0x3FE4F76D752F8003 ∷ 0x3FE5F833CFAF501E ∷
    0x3FE6CE308C69B232 ∷ 0x3FE78340819942C5 ∷ 0x3FE81E72C17F2B06 ∷ 0x3FE8A4F3A387C1C2 ∷
    0x3FE91AA4694F45A6 ∷ 0x3FE9827C9F59AAF6 ∷ 0x3FE9DECB084676CC ∷ 0x3FEA316207D6F748 ∷
    0x3FEA7BB6BAA5D152 ∷ 0x3FEABEF72BAA1CAF ∷ 0x3FEAFC1A7B226133 ∷ 0x3FEB33ECCED2F8CC ∷
    0x3FEB67184634D919 ∷ 0x3FEB962BC884A775 ∷ 0x3FEBC1A040CE523F ∷ 0x3FEBE9DCB02EF9DD ∷
    0x3FEC0F3960BF9583 ∷ 0x3FEC32026F1140E9 ∷ 0x3FEC5279D1C3E0E1 ∷ 0x3FEC70D8FC8C02EA ∷
    0x3FEC8D5234A7A2D3 ∷ []
    )

computed_128 : Computed hundred_twenty_eight lapse128 radial_factor128 mass128
unfolding integrals_from integrand_of normalised_of energy_density_of mass_of char_speed_of state_has_nan nans.holds_nan state_black_hole_mass first_at_or_below bh_radial_factor_threshold exp_of points_of point_of spacing_of tab zeros shape lapse128 radial_factor128 add sub mul div neg round of_int of_bits le is_nan
computed_128 =
    record {
      lapse_is = lapse_by (momentum hundred_twenty_eight);
      radial_factor_is = radial_factor_is 5 lapse128 _ (integral_is (spacing_of 5) (map reciprocal_of lapse128));
      no_nan = refl;
      mass_is = refl;
    }

pub no_nan_128 : holds_nan (first_state (at hundred_twenty_eight)) ≡ false
no_nan_128 = (collapsed hundred_twenty_eight lapse128 radial_factor128 _ computed_128).0

pub collapses_128 : mass_at (first_state (at hundred_twenty_eight)) ≡ Some mass128
collapses_128 = (collapsed hundred_twenty_eight lapse128 radial_factor128 _ computed_128).1
