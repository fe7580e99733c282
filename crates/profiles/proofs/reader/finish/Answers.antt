-- Each state ends as its reading does. Assumes nothing.
use borrow.Author.Rules.{rules}
use Rattle.profiles.proofs.Text.{texts}
use Rattle.profiles.proofs.reader.finish.Goals as goal

pub returns-then-past-reader : goal.returns-then-past-reader
returns-then-past-reader c = search (texts, rules)

pub returns-else-past-reader : goal.returns-else-past-reader
returns-else-past-reader c = search (texts, rules)

pub returns-in-Whole : goal.returns-in-Whole
returns-in-Whole c = search (texts, rules)

pub returns-in-Fraction : goal.returns-in-Fraction
returns-in-Fraction c = search (texts, rules)

pub returns-in-Stopped : goal.returns-in-Stopped
returns-in-Stopped c = search (texts, rules)
