-- A text of legal length is one part. Assumes nothing.
use borrow.Author.Rules.{rules}
use Rattle.profiles.proofs.Text.{texts}
use Rattle.profiles.proofs.reader.read_profiles.Goals as goal

pub returns-then-text-gt-MOST : goal.returns-then-text-gt-MOST
returns-then-text-gt-MOST c = search (texts, rules)

pub returns : goal.returns
returns c = search (texts, rules)
