-- An id is new where no row before has it: what is left to look at decides as the whole does. Assumes nothing.
use borrow.Author.Rules.{rules}
use Rattle.timetable_faults.proofs.Tests.{seen_here, seen_on}
use Rattle.timetable_faults.proofs.is_new.Goals as goal

pub returns-then-legs-i : goal.returns-then-legs-i
returns-then-legs-i c = search (seen_here, rules)

pub loop-i-preserved : goal.loop-i-preserved
loop-i-preserved c = search (seen_on, rules)
