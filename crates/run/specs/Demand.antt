-- Demand 3 of 01, as one statement over whole lists of calls. Definitions only; DemandProof.antt has the theorem.
use Rattle.std.specs.Prelude.{◌≡◌, ℕ, ◌*◌, Bool, true, false, ◌||◌, ◌↔◌, List, [], ◌∷◌, ◌++◌, map, length, take, drop, Float}
use Rattle.std.specs.Prelude.{Some}
use Rattle.run.specs.declared.settings.Settings.{Settings}
use Rattle.run.specs.declared.settings.Record.{Record}
use Rattle.run.specs.Model.{cell_count, frame_count, state_in}
use Rattle.run.specs.Outcome.{collapse, broke, timeout, spent}
use Rattle.run.specs.PlainRun.{plain_run}
use Rattle.run.specs.Tally.{Reply, refused, full, ran, Fed, tally}
use Rattle.run.specs.Calls.{refused_begin, accepted, AfterBegin, begin_of, begin_refusal, frames_in, Call, Session, calls, replies, total, unused_before, unused_after}

-- an answer of collapse, timeout or broken
unfoldable pub is_end : Reply → Bool
is_end (refused n) = false
is_end (full a k) = false
is_end (ran (collapse m) k) = true
is_end (ran broke k) = true
is_end (ran timeout k) = true
is_end (ran spent k) = false

unfoldable pub any_end : List Reply → Bool
any_end [] = false
any_end (r ∷ rs) = is_end r || any_end rs

-- "the budget and the lengths of the three memories", of a state memory of so many numbers at the most
abbrev pub fed : List Float → Call → Fed
fed memory c =
    record {
      budget = c.budget;
      state = length (take c.lends memory);
      work = length c.work;
      frames = length c.frames;
    }

module _ (s : Settings) where
  -- after the list `cs`, from the session `z`, with S the attempts counted by the answers
  pub record Agrees (z : Session) (cs : List Call) : Type 0 where
    -- state, step count, broken mark and joined frames are those of the plain run after S attempts
    pub state :
        state_in s (calls z cs).record'.time (calls z cs).memory ≡ (plain_run s (total cs (replies z cs))).state
    pub steps : (calls z cs).record'.steps ≡ (plain_run s (total cs (replies z cs))).steps
    pub broken : (calls z cs).record'.broken ≡ (plain_run s (total cs (replies z cs))).broken
    pub joined : (calls z cs).joined ≡ (plain_run s (total cs (replies z cs))).frames
    -- the record keeps its settings
    pub settings : (calls z cs).record'.settings ≡ s
    -- every answer is the tally's
    pub answers : replies z cs ≡ tally s 0 (map (fed z.memory) cs)
    -- "Numbers outside the used parts don't change.": of state memory, and of each call's frame memory
    pub beyond : drop (cell_count s) (calls z cs).memory ≡ drop (cell_count s) z.memory
    pub unused : unused_after z cs ≡ unused_before z cs

  -- two sessions hold the same state, step count, broken mark and joined frames
  pub record Same (y z : Session) : Type 0 where
    pub state : state_in s y.record'.time y.memory ≡ state_in s z.record'.time z.memory
    pub steps : y.record'.steps ≡ z.record'.steps
    pub broken : y.record'.broken ≡ z.record'.broken
    pub joined : y.joined ≡ z.joined

module _ (s : Settings) (memory work frames : List Float) where
  abbrev pub begun : AfterBegin
  begun = begin_of s memory work frames

  -- what stands after a begin that answered the record `r` and `k` frames
  abbrev pub opened : Record → ℕ → Session
  opened r k = record { record' = r; memory = begun.memory; joined = frames_in k (frame_count s) begun.frames }

  -- whatever settings and memories a begin is given
  pub record Demand3 : Type 0 where
    -- it is refused with 01's number and with nothing else
    pub refuses :
        (n : ℕ) → (begun.answer ≡ refused_begin n) ↔ (begin_refusal s (length memory) (length work) (length frames) ≡ Some n)
    -- a refused begin changes no number
    pub refused_stays : (n : ℕ) → begun.answer ≡ refused_begin n → (begun.memory ≡ memory) × (begun.frames ≡ frames)
    -- an accepted begin changes none outside the used parts
    pub beyond : drop (cell_count s) begun.memory ≡ drop (cell_count s) memory
    pub unused : (r : Record) (k : ℕ) → begun.answer ≡ accepted r k → drop (k * frame_count s) begun.frames ≡ drop (k * frame_count s) frames
    -- after an accepted begin, every list of calls agrees with the plain run
    pub agrees : (r : Record) (k : ℕ) → begun.answer ≡ accepted r k → (cs : List Call) → Agrees s (opened r k) cs
    -- after collapse, timeout or broken no further advance changes state, step count, broken mark or frames
    pub stays :
        (r : Record) (k : ℕ) → begun.answer ≡ accepted r k →
        (cs ds : List Call) → any_end (replies (opened r k) cs) ≡ true →
        Same s (calls (opened r k) (cs ++ ds)) (calls (opened r k) cs)
