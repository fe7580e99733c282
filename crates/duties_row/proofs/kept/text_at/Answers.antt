-- `duties_row::kept::text_at` meets its contract. Assumes nothing.
use borrow.Author.Rules.{rules}
use Rattle.duties_row.proofs.Ruling.{text_at}
use Rattle.duties_row.proofs.kept.text_at.Goals as goal

pub returns : goal.returns
returns c = search (text_at, rules)
