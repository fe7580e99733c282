-- A whole id in quotes, and the quote that opens the list. Assumes nothing.
use borrow.Author.Rules.{rules}
use Rattle.profiles_sample.proofs.Heads.{heads-at, heading}
use Rattle.profiles_sample.proofs.head_at.Goals as goal

pub returns-then-part-lt-BEFORE : goal.returns-then-part-lt-BEFORE
returns-then-part-lt-BEFORE c = search (heading, rules)

pub returns-then-part-from : goal.returns-then-part-from
returns-then-part-from c = search (heading, rules)

pub returns-then-part-from-ne34 : goal.returns-then-part-from-ne34
returns-then-part-from-ne34 c = search (heading, rules)

pub returns-then-b-le48 : goal.returns-then-b-le48
returns-then-b-le48 c = search (heading, rules)

pub returns-then-b-gt57 : goal.returns-then-b-gt57
returns-then-b-gt57 c = search (heading, rules)

pub returns : goal.returns
returns c =
    let opened = c.if-part-from-ne34.false in
    let low = c.if-b-le48.false in
    let high = c.if-b-gt57.false in
    heads-at _ _ _ _ (search rules) opened (search rules) (search rules) (rw c.from.ensures at c.digit_run-run.ensures) c.join_at.ensures
