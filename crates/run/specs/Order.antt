-- 01, "Orders (added)" and "From the input", 1 to 4: what an order says, or how it is refused. Definitions only.
use Rattle.std.specs.Prelude.{ℕ, zero, suc, ◌+◌, ◌*◌, Bool, cond, ◌&&◌, List, [], ◌∷◌, length, ◌==◌, nat_le, nat_lt, slice_index, slice_index_or, Float}
use Rattle.run.specs.Bytes.{byte_at, little, float_at}
use Rattle.run.specs.declared.settings.Settings.{Settings}
use Rattle.run.specs.declared.order.Places.{Places}

-- ---- what is read

-- one case for each command byte, and one for what is no command: 01's number
pub data Command : Type 0 where
  Amplitude : Float → Command
  Level : ℕ → Command
  MaxTime : Float → Command
  Interval : Float → Command
  DxLevel : ℕ → Command
  Skip : Bool → Command
  Begin : Command
  Advance : ℕ → Command
  End : Command
  Wrong : ℕ → Command

-- a command and the position after its operand
pub record CommandRead : Type 0 where
  pub command : Command
  pub next : ℕ

-- 01's number and the position, or what the order says
pub data Read : Type 0 where
  Refused : ℕ → ℕ → Read
  Order : Settings → Places → Read

-- ---- one command

-- 2: "byte outside 01 to 09"
unfoldable pub is_known : ℕ → Bool
is_known code = nat_le 1 code && nat_le code 9

-- how many bytes follow the command bytes 00 to 09: "01 amplitude f64, 02 level u8, 03 max time f64, 04 frame interval f64, 05 dx level u8,
-- 06 skip u8 (0 or 1), 07 begin, 08 advance u32, 09 end"; none follows an unknown byte
unfoldable pub operand_size : ℕ → ℕ
operand_size code = slice_index (0 ∷ 8 ∷ 1 ∷ 8 ∷ 8 ∷ 1 ∷ 1 ∷ 0 ∷ 4 ∷ 0 ∷ []) code

-- "06 skip u8 (0 or 1)"; 2: "switch above 1"
unfoldable pub switch_of : ℕ → Command
switch_of x = cond (nat_lt 1 x) (Wrong 2) (Skip (x == 1))

-- the command of the bytes 00 to 09, and of any other, whose operand starts at `from`: the same sentence
unfoldable pub command_of : List ℕ → ℕ → ℕ → Command
command_of s from code =
    slice_index_or
    (Wrong 2
    ∷ Amplitude (float_at s from)
    ∷ Level (byte_at s from)
    ∷ MaxTime (float_at s from)
    ∷ Interval (float_at s from)
    ∷ DxLevel (byte_at s from)
    ∷ switch_of (byte_at s from)
    ∷ Begin
    ∷ Advance (little 4 s from)
    ∷ End
    ∷ [])
    code (Wrong 2)

-- 1: "an operand runs past the end"
unfoldable pub is_cut : List ℕ → ℕ → Bool
is_cut s at = nat_lt (length s) (at + 1 + operand_size (byte_at s at))

-- the command whose byte stands at `at`, its own faults in the order "unknown byte, 1, switch"; 1 where no byte stands
unfoldable pub command_at : List ℕ → ℕ → Command
command_at s at =
    cond (nat_le (length s) at) (Wrong 1)
    (cond (is_known (byte_at s at)) (cond (is_cut s at) (Wrong 1) (command_of s (at + 1) (byte_at s at))) (Wrong 2))

-- the position after that command and its operand, at most the length
unfoldable pub next_at : List ℕ → ℕ → ℕ
next_at s at = cond (is_cut s at) (length s) (at + 1 + operand_size (byte_at s at))

abbrev pub command_read_at : List ℕ → ℕ → CommandRead
command_read_at s at = record { command = command_at s at; next = next_at s at }

-- ---- what stands before a command

-- the position after the command byte of each setting and of 07, and how many 08 came; 0 for a command that has not come
abbrev pub places : (amplitude level max_time interval dx_level skip advances count : ℕ) → Places
places a l m i d k v n =
    record { amplitude = a; level = l; max_time = m; interval = i; dx_level = d; skip = k; advances = v; count = n }

abbrev pub no_places : Places
no_places = places 0 0 0 0 0 0 0 0

-- with the command c too, `from` the position after its byte
unfoldable pub noted : Places → Command → ℕ → Places
noted p (Amplitude x) from = places from p.level p.max_time p.interval p.dx_level p.skip p.advances p.count
noted p (Level x) from = places p.amplitude from p.max_time p.interval p.dx_level p.skip p.advances p.count
noted p (MaxTime x) from = places p.amplitude p.level from p.interval p.dx_level p.skip p.advances p.count
noted p (Interval x) from = places p.amplitude p.level p.max_time from p.dx_level p.skip p.advances p.count
noted p (DxLevel x) from = places p.amplitude p.level p.max_time p.interval from p.skip p.advances p.count
noted p (Skip x) from = places p.amplitude p.level p.max_time p.interval p.dx_level from p.advances p.count
noted p Begin from = places p.amplitude p.level p.max_time p.interval p.dx_level p.skip from p.count
noted p (Advance n) from =
    places p.amplitude p.level p.max_time p.interval p.dx_level p.skip p.advances (p.count + 1)
noted p End from = p
noted p (Wrong n) from = p

-- 07 came
unfoldable pub begun : Places → Bool
begun p = nat_lt 0 p.advances

-- all six settings came
unfoldable pub complete : Places → Bool
complete p =
    ((nat_lt 0 p.amplitude && nat_lt 0 p.level) && (nat_lt 0 p.max_time && nat_lt 0 p.interval))
    && (nat_lt 0 p.dx_level && nat_lt 0 p.skip)

-- ---- 01's number of a command's fault where it stands; 0 for none

-- 3: "setting repeated or after 07"; `place` is where it stood before
unfoldable pub setting_fault : Places → ℕ → ℕ
setting_fault p place = cond (begun p) 3 (cond (nat_lt 0 place) 3 0)

-- 3: "second 07"; 4: "07 with a setting missing"
unfoldable pub begin_fault : Places → ℕ
begin_fault p = cond (begun p) 3 (cond (complete p) 0 4)

-- 3: "08 before 07"; 4: "09 before 07"
unfoldable pub unless_begun : Places → ℕ → ℕ
unless_begun p number = cond (begun p) 0 number

-- "there unknown byte, 1, switch, 3, 4": a command that is wrong by itself keeps its number, whatever came before
unfoldable pub command_fault : Places → Command → ℕ
command_fault p (Wrong number) = number
command_fault p (Amplitude x) = setting_fault p p.amplitude
command_fault p (Level x) = setting_fault p p.level
command_fault p (MaxTime x) = setting_fault p p.max_time
command_fault p (Interval x) = setting_fault p p.interval
command_fault p (DxLevel x) = setting_fault p p.dx_level
command_fault p (Skip x) = setting_fault p p.skip
command_fault p Begin = begin_fault p
command_fault p (Advance n) = unless_begun p 3
command_fault p End = unless_begun p 4

-- ---- a whole order

-- the operands at these places
unfoldable pub settings_at : List ℕ → Places → Settings
settings_at s p =
    record {
      amplitude = float_at s p.amplitude;
      level = byte_at s p.level;
      max_time = float_at s p.max_time;
      interval = float_at s p.interval;
      dx_level = byte_at s p.dx_level;
      skip = (byte_at s p.skip == 1);
    }

-- "first command at fault, its first byte the position of 2 to 4 too"
unfoldable pub unless_fault : ℕ → ℕ → Read → Read
unless_fault zero at r = r
unless_fault (suc n) at r = Refused (suc n) at

-- after 09, `from` the position after it: 3: "byte after 09"; "after 09 only 3"
unfoldable pub ended : List ℕ → ℕ → Places → Read
ended s from p = cond (nat_lt from (length s)) (Refused 3 from) (Order (settings_at s p) p)

-- the commands from `at` on, at most n of them, p what came before; 1: "no 09 came (position: the length)"
unfoldable pub order_from : ℕ → List ℕ → ℕ → Places → Read
order_from zero s at p = Refused 1 (length s)
order_from (suc n) s at p =
    cond (nat_le (length s) at) (Refused 1 (length s))
    (unless_fault (command_fault p (command_at s at)) at
    (cond (byte_at s at == 9) (ended s (at + 1) p) (order_from n s (next_at s at) (noted p (command_at s at) (at + 1)))))

-- "The six settings stand once each, any order, then 07, any number of 08, then 09."; a list has no more commands than bytes
unfoldable pub read_order : List ℕ → Read
read_order s = order_from (length s) s 0 no_places

-- the budget of the 08 number k, from 0, of those that start at `advances`: "08 advance u32", five bytes each
unfoldable pub budget_at : List ℕ → ℕ → ℕ → ℕ
budget_at s advances k = little 4 s (advances + 5 * k + 1)
