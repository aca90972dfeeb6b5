-- What a run prints gives its floats back, with no condition: each frame from its line, the time and the mass of an outcome from their digits.
use Rattle.std.specs.Prelude.{ℕ, ◌+◌, ◌*◌, List, [], ◌≡◌, Float, length, get_or, take, drop}
use Rattle.std.specs.Prelude.{Option, None, Some, option_map}
use Rattle.std.proofs.Common.{sym, ◌∙◌, subst, ext_get_or}
use Rattle.std.specs.Float.{nan}
use Rattle.vectors.specs.Constants.{bh_radial_factor_threshold}
use Rattle.vectors.specs.MemoryLaws.{length_tab, get_d_tab}
use Rattle.vectors.specs.Position.{first_at_or_below}
use Rattle.physics.specs.BlackHole.{black_hole_mass_of, state_black_hole_mass}
use Rattle.physics.specs.State.{State}
use Rattle.run.specs.declared.settings.Settings.{Settings}
use Rattle.run.specs.declared.settings.Record.{Record}
use Rattle.run.specs.Calls.{accepted, Call, calls, replies, total}
use Rattle.run.specs.Demand.{begun, opened}
use Rattle.run.specs.DemandProof.{demand3}
use Rattle.run.specs.Model.{mass_at}
use Rattle.run.specs.ModelLaws.{some_not_none}
use Rattle.run.specs.PlainRun.{plain_run}
use Rattle.run.specs.Report.{hex, frame_line}
use Rattle.claims.specs.FitLaws.{Fits, AllFit}
use Rattle.claims.specs.RunFits.{StateFits, run_fits}
use Rattle.claims.specs.RunRecovered.{float_of, floats_in}
use Rattle.claims.proofs.Recovered.{float_recovered, frame_recovered}

line_recovered : (xs : List Float) → AllFit xs → floats_in (length xs) (frame_line xs) ≡ xs
unfolding floats_in
line_recovered xs h =
    sym
    (ext_get_or nan xs (floats_in (length xs) (frame_line xs)) (sym (length_tab (length xs) number))
    (λ i l. sym (get_d_tab (length xs) number i nan l ∙ frame_recovered xs i l (h.at i))))
  where
    number : ℕ → Float
    number i = float_of (take 16 (drop (6 + 17 * i) (frame_line xs)))

mass_fits : (a : State) (mass : Float) → StateFits a → mass_at a ≡ Some mass → Fits mass
unfolding state_black_hole_mass black_hole_mass_of
mass_fits a mass h e = go (first_at_or_below bh_radial_factor_threshold a.radial_factor) e
  where
    go : (i : Option ℕ) → option_map (λ i. get_or a.mass i nan) i ≡ Some mass → Fits mass
    go None g = absurd (some_not_none mass (sym g))
    go (Some i) g = let same : get_or a.mass i nan ≡ mass = cc in subst Fits same (h.constraints.mass.at i)

-- ---- for all settings and any number of attempts
module _ (s : Settings) (k : ℕ) where
  -- frame j
  pub run_recovered : (j : ℕ) → let frame = get_or (plain_run s k).frames j [] in floats_in (length frame) (frame_line frame) ≡ frame
  run_recovered j = line_recovered (get_or (plain_run s k).frames j []) ((run_fits s k).frames.at j)

  pub time_recovered : float_of (hex (plain_run s k).state.time) ≡ (plain_run s k).state.time
  time_recovered = float_recovered (plain_run s k).state.time (run_fits s k).state.time

  pub mass_recovered : (mass : Float) → mass_at (plain_run s k).state ≡ Some mass → float_of (hex mass) ≡ mass
  mass_recovered mass e = float_recovered mass (mass_fits (plain_run s k).state mass (run_fits s k).state e)

-- ---- after an accepted begin, whatever list of calls follows: frame j of the joined frames
module _ (s : Settings) (memory work frames : List Float) (r : Record) (k : ℕ) (e : (begun s memory work frames).answer ≡ accepted r k) where
  pub joined_recovered : (cs : List Call) (j : ℕ)
      → let frame = get_or (calls (opened s memory work frames r k) cs).joined j [] in floats_in (length frame) (frame_line frame) ≡ frame
  joined_recovered cs j =
      subst (λ (fs : List (List Float)). floats_in (length (get_or fs j [])) (frame_line (get_or fs j [])) ≡ get_or fs j [])
      (sym ((demand3 s memory work frames).agrees r k e cs).joined)
      (run_recovered s (total cs (replies (opened s memory work frames r k) cs)) j)
