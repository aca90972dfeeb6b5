-- What the contracts of src/ cite beside the definitions: what each case of an answer stands for. Definitions only.
use Rattle.std.specs.Prelude.{Result, Ok, Err}
use Rattle.run.specs.declared.refusal.Refusal as run-refusal
use Rattle.run.specs.Refusal as run
use Rattle.threshold.specs.declared.ends.Side as side-type
use Rattle.threshold.specs.declared.ends.Side.TheVariants as side
use Rattle.threshold.specs.declared.refusal.Refusal.{Refusal}
use Rattle.threshold.specs.declared.Why as why-type
use Rattle.threshold.specs.declared.Why.TheVariants as reason
use Rattle.threshold.specs.declared.Bracket as bracket-type
use Rattle.threshold.specs.Halving.{Side, times_out, collapses, neither, refused_run, Why, used, adjacent, undecided, Bracket}
use Rattle.threshold.specs.Refusal.{number_of}
use Rattle.threshold.specs.Search.{Sought, refused_search, found}

-- what a run answers to a search
abbrev pub side_is : Result side-type.Side run-refusal.Refusal → Side
side_is (Ok side.Timeout) = times_out
side_is (Ok side.Collapse) = collapses
side_is (Ok side.Neither) = neither
side_is (Err r) = refused_run (run.number_of r)

-- 02's three reasons, the third with what the middle's run answers
abbrev pub why_of : why-type.Why → Why
why_of reason.Used = used
why_of reason.Adjacent = adjacent
why_of reason.Neither = undecided neither
why_of (reason.Refused r) = undecided (refused_run (run.number_of r))

abbrev pub bracket_of : bracket-type.Bracket → Bracket
bracket_of b = record { low = b.low; high = b.high; made = b.made; why = why_of b.why }

-- 15, 16 and begin's numbers, or the bracket
abbrev pub searched_of : Result bracket-type.Bracket Refusal → Sought
searched_of (Err r) = refused_search (number_of r)
searched_of (Ok b) = found (bracket_of b)
