-- Demand 3 is not empty for full and refused calls either: a list of calls that are answered full, refused 14, refused 11, and then an end.
use Rattle.std.specs.Prelude.{ℕ, ◌+◌, true, false, ◌≡◌, refl, Float}
use mathlib.Core.List.{List, [], ◌∷◌}
use Rattle.std.proofs.Common.{sym, ◌∙◌}
use Rattle.std.proofs.Math.Path.{ap}
use Rattle.std.specs.Float.Ieee.{add, sub, mul, div, round, lt, le}
use Rattle.vectors.specs.Constants.{bh_radial_factor_tracking, courant_number, eps}
use Rattle.vectors.specs.Grid.{points_of, spacing_of}
use Rattle.vectors.specs.TotalOrder.{minimum_of}
use Rattle.run.specs.declared.settings.Settings.{Settings}
use Rattle.run.specs.declared.settings.Record.{Record}
use Rattle.run.specs.Clock.{floor_of, base_step_of, time_to_next_of, is_frame_step}
use Rattle.run.specs.Model.{frames_next}
use Rattle.run.specs.Outcome.{broke}
use Rattle.run.specs.PlainRun.{plain_run}
use Rattle.run.specs.Tally.{Reply, refused, full, ran, Told, appended, no_room, attempts, told}
use Rattle.run.specs.Calls.{accepted, Call, Session, advanced, call, calls, replies}
use Rattle.run.specs.Demand.{is_end, any_end, fed, begun, opened}
use Rattle.run.specs.OneCall.{session_at, one_answer, one_session, told_runs}
use Rattle.run.specs.DemandProof.{Given, accepted_given, opened_at}
use Rattle.claims.specs.FlatSpace.{nought, ones, flat}
use Rattle.claims.specs.NotEmpty.{Ends, unmeasured, blank, memory, work, fresh, once}
use Rattle.claims.specs.NotEmpty.{run_zero, not_ended, sound_unmeasured, first_unmeasured, frame_unmeasured, begun_machine, demand3_not_empty}

-- ---- the calls
-- 01, "Clock": with a NaN interval the first step is a frame step; no room for a frame
abbrev pub tight : Call
tight = once 0

-- "14: run not ended, and steps + budget above 2,147,483,647."
abbrev pub many : Call
many = record { budget = 2147483648; lends = 264; work = work; frames = blank 20 }

-- "11: state or work memory too short.": one number less than 8n
abbrev pub short : Call
short = record { budget = 1; lends = 263; work = work; frames = blank 20 }

-- ---- a call that makes no attempt changes nothing
module _ (s : Settings) (memory work frames : List Float) (r : Record) (k : ℕ) (e : (begun s memory work frames).answer ≡ accepted r k) where
  abbrev z : Session
  z = opened s memory work frames r k

  at_zero : z ≡ session_at s memory 0
  at_zero = opened_at s memory work frames r k e

  given : Given s memory work frames
  given = accepted_given s memory work frames r k e

  module _ (c : Call) (x : Reply) (h : told s 0 (fed memory c) ≡ record { made = 0; reply = x }) where
    idle_answer : (advanced z c).reply ≡ x
    idle_answer =
        ap (λ (y : Session). (advanced y c).reply) at_zero
        ∙ one_answer s memory given.sound given.big 0 c
        ∙ ap (λ (t : Told). t.reply) h

    idle_session : call z c ≡ z
    idle_session =
        ap (λ (y : Session). call y c) at_zero
        ∙ one_session s memory given.sound given.big 0 c
        ∙ ap (λ (t : Told). session_at s memory (0 + t.made)) h
        ∙ sym at_zero

    ends_later : (cs : List Call) (answers : List Reply) (last : Record) → is_end x ≡ false
        → Ends s memory work frames r k cs answers last → Ends s memory work frames r k (c ∷ cs) (x ∷ answers) last
    unfolding replies calls any_end
    ends_later cs answers last no_end d =
        record {
          begins = e;
          answered = rw (idle_answer, idle_session) (ap (λ (l : List Reply). x ∷ l) d.answered);
          left = ap (λ (y : Session). (calls y cs).record') idle_session ∙ d.left;
          ends = rw (idle_answer, idle_session, no_end) d.ends;
        }

-- ---- what the tally tells of them, before the first attempt
told_short : told unmeasured 0 (fed memory short) ≡ record { made = 0; reply = refused 11 }
unfolding told points_of
told_short = refl

begun_run : plain_run unmeasured 0 ≡ begun_machine unmeasured 20 first_unmeasured
begun_run = run_zero unmeasured 20 first_unmeasured

told_many : told unmeasured 0 (fed memory many) ≡ record { made = 0; reply = refused 14 }
unfolding told
told_many = rw (sound_unmeasured.1, begun_run, not_ended unmeasured)

due_unmeasured : frames_next unmeasured (flat nought) ≡ true
unfolding frames_next is_frame_step time_to_next_of floor_of base_step_of minimum_of bh_radial_factor_tracking courant_number eps spacing_of ones add sub mul div lt le round
due_unmeasured = refl

none_appended : appended unmeasured 0 0 ≡ 0
unfolding appended
none_appended = rw begun_run

no_room_lem : no_room unmeasured 0 0 0 ≡ true
unfolding no_room
no_room_lem = rw (none_appended, begun_run, not_ended unmeasured, due_unmeasured, frame_unmeasured)

told_tight : told unmeasured 0 (fed memory tight) ≡ record { made = 0; reply = full 0 0 }
unfolding attempts
told_tight =
    told_runs unmeasured 0 (fed memory tight) sound_unmeasured.1 (rw (begun_run, not_ended unmeasured)) ∙ rw (no_room_lem, none_appended)

-- ---- the theorem: full, refused 14, refused 11, and then broken
-- the record in which the last of them leaves the run
abbrev pub broken : Record
broken = record { settings = unmeasured; time = nought; steps = 0; broken = true }

abbrev Shown : List Call → List Reply → Type 0
Shown cs answers = Ends unmeasured memory work (blank 20) (fresh unmeasured) 1 cs answers broken

later : (c : Call) (x : Reply) (cs : List Call) (answers : List Reply) → told unmeasured 0 (fed memory c) ≡ record { made = 0; reply = x } → is_end x ≡ false
    → Shown cs answers → Shown (c ∷ cs) (x ∷ answers)
later c x cs answers h =
    ends_later unmeasured memory work (blank 20) (fresh unmeasured) 1 demand3_not_empty.1.begins c x h cs answers broken

pub demand3_full_refused :
    Ends unmeasured memory work (blank 20) (fresh unmeasured) 1 (tight ∷ many ∷ short ∷ once 20 ∷ [])
    (full 0 0 ∷ refused 14 ∷ refused 11 ∷ ran broke 0 ∷ []) broken
unfolding is_end
demand3_full_refused =
    later tight (full 0 0) _ _ told_tight refl
    (later many (refused 14) _ _ told_many refl (later short (refused 11) _ _ told_short refl demand3_not_empty.1))
