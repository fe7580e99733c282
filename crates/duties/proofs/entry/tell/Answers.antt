-- `duties::entry::tell` meets its contract: the length, then the header, then the rows. Assumes nothing.
use borrow.Author.Rules.{rules}
use Rattle.duties.proofs.Telling.{tell_long, tell_headless, tell_passed}
use Rattle.duties.proofs.entry.tell.Goals as goal

pub returns-then-text-gt-MOST : goal.returns-then-text-gt-MOST
returns-then-text-gt-MOST c = search (tell_long, rules)

pub returns-then-from-eq0 : goal.returns-then-from-eq0
returns-then-from-eq0 c = search (tell_headless, rules)

pub read_all-requires : goal.read_all-requires
read_all-requires c = search (tell_passed, rules)
