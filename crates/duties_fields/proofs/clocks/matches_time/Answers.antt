-- `duties_fields::clocks::matches_time` meets its contract: the first three bytes, and then the clock. Assumes nothing.
use borrow.Author.Rules.{rules}
use Rattle.duties_fields.proofs.Times.{time_past, time_short, time_other, time_later}
use Rattle.duties_fields.proofs.clocks.matches_time.Goals as goal

pub returns-then-seconds-gt-MOST_TIME : goal.returns-then-seconds-gt-MOST_TIME
returns-then-seconds-gt-MOST_TIME c = search (time_past, rules)

pub returns-then-s-lt-PREFIX : goal.returns-then-s-lt-PREFIX
returns-then-s-lt-PREFIX c = search (time_short, rules)

pub returns-then-spells : goal.returns-then-spells
returns-then-spells c = search (time_later, rules)

pub returns-else-spells : goal.returns-else-spells
returns-else-spells c = search (time_other, rules)
