-- `entry` meets its contract at kind 2, where no constant is computed.
use Rattle.std.proofs.Common.{rules}
use Rattle.cases.specs.Arguments.{entries_of, entry_of}
use Rattle.cases.proofs.arguments.entry.Goals as goal

pub returns-in-2 : goal.returns-in-2
unfolding entry_of entries_of
returns-in-2 c = search rules
