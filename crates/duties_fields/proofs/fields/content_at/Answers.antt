-- `duties_fields::fields::content_at` meets its contract. Assumes nothing.
use borrow.Author.Rules.{rules}
use Rattle.duties_fields.proofs.Pieces.{content_there}
use Rattle.duties_fields.proofs.fields.content_at.Goals as goal

pub returns : goal.returns
returns c = search (content_there, rules)
