-- What the types of src/order.rt stand for: a fault has its number, and a place that has not come is 0. Definitions only.
use Rattle.std.specs.Prelude.{◌≡◌, ℕ, true, Option, None, Some, Result, Ok, Err}
use Rattle.std.specs.Int.NonZero.{non_zero_usize_get}
use Rattle.std.specs.declared.num.NonZeroUsize.{NonZeroUsize}
use Rattle.std.specs.declared.ops.ControlFlow.{ControlFlow}
use Rattle.std.specs.declared.ops.ControlFlow.TheVariants.{Continue, Break}
use Rattle.run.specs.declared.order.Fault.{Fault}
use Rattle.run.specs.declared.order.Fault.TheVariants.{Cut, Unknown, Misplaced, Missing}
use Rattle.run.specs.declared.order.Command as declared
use Rattle.run.specs.declared.order.Command.TheVariants as variant
use Rattle.run.specs.declared.order.CommandRead as declared_read
use Rattle.run.specs.declared.order.Places.{Places}
use Rattle.run.specs.declared.order.Calls.{Calls}
use Rattle.run.specs.declared.order.Seen.{Seen}
use Rattle.run.specs.declared.order.Order as declared_order
use Rattle.run.specs.declared.order.Misread.{Misread}
use Rattle.run.specs.Order.{Command, Amplitude, Level, MaxTime, Interval, DxLevel, Skip, Begin, Advance, End, Wrong, CommandRead, Read, Refused, Order, places, begun, complete, noted}

-- 01's number of each fault
abbrev pub number_of : Fault → ℕ
number_of Cut = 1
number_of Unknown = 2
number_of Misplaced = 3
number_of Missing = 4

-- the number, or 0
abbrev pub fault_of : {A : Type 0} → Result A Fault → ℕ
fault_of (Ok x) = 0
fault_of (Err f) = number_of f

abbrev pub meant_by : declared.Command → Command
meant_by (variant.Amplitude x) = Amplitude x
meant_by (variant.Level x) = Level x
meant_by (variant.MaxTime x) = MaxTime x
meant_by (variant.Interval x) = Interval x
meant_by (variant.DxLevel x) = DxLevel x
meant_by (variant.Skip x) = Skip x
meant_by variant.Begin = Begin
meant_by (variant.Advance n) = Advance n
meant_by variant.End = End

abbrev pub told_by : Result declared.Command Fault → Command
told_by (Ok c) = meant_by c
told_by (Err f) = Wrong (number_of f)

abbrev pub command_read_of : declared_read.CommandRead → CommandRead
command_read_of r = record { command = told_by r.command; next = r.next }

abbrev pub read_of : Result declared_order.Order Misread → Read
read_of (Ok o) = Order o.settings o.places
read_of (Err m) = Refused (number_of m.fault) m.position

abbrev pub place_of : Option NonZeroUsize → ℕ
place_of None = 0
place_of (Some n) = non_zero_usize_get n

abbrev pub advances_of : Option Calls → ℕ
advances_of None = 0
advances_of (Some c) = non_zero_usize_get c.advances

abbrev pub count_of : Option Calls → ℕ
count_of None = 0
count_of (Some c) = c.count

abbrev pub so_far : Seen → Places
so_far s =
    places (place_of s.amplitude) (place_of s.level) (place_of s.max_time) (place_of s.interval) (place_of s.dx_level) (place_of s.skip)
    (advances_of s.calls) (count_of s.calls)

-- 07 came after all settings
abbrev pub Whole : Places → Type 0
Whole p = begun p ≡ true → complete p ≡ true

-- what c leaves of the places p: with c too, or all of them where c is 09
abbrev pub Noted : Places → Command → ℕ → ControlFlow Places Seen → Type 0
Noted p c from (Continue seen) = (so_far seen ≡ noted p c from) × (c ≡ End → ⊥)
Noted p c from (Break q) = (q ≡ p) × (c ≡ End)
