-- `duties_fields::contents::is_content` meets its contract: the first two quotes decide. Assumes nothing.
use borrow.Author.Rules.{rules}
use Rattle.duties_fields.proofs.Quoted.{is_plain, is_late, is_pair}
use Rattle.duties_fields.proofs.contents.is_content.Goals as goal

pub returns-then-field-first : goal.returns-then-field-first
returns-then-field-first c = search (is_plain, rules)

pub returns-then-first-ne0 : goal.returns-then-first-ne0
returns-then-first-ne0 c = search (is_late, rules)

pub returns : goal.returns
returns c = search (is_pair, rules)
