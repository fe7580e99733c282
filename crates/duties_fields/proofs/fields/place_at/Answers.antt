-- `duties_fields::fields::place_at` meets its contract: a content stands behind its quote. Assumes nothing.
use borrow.Author.Rules.{rules}
use Rattle.duties_fields.proofs.Pieces.{place_past, place_plain, place_quoted}
use Rattle.duties_fields.proofs.fields.place_at.Goals as goal

pub returns-then-line-at : goal.returns-then-line-at
returns-then-line-at c = search (place_past, rules)

pub returns-then-mark-eq0 : goal.returns-then-mark-eq0
returns-then-mark-eq0 c = search (place_plain, rules)

pub returns : goal.returns
returns c = search (place_quoted, rules)
