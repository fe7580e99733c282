-- `text_read::numbers::read_whole` meets its contract: plain, and digits to its end. Assumes nothing.
use Rattle.text_read.proofs.Values.{whole_not-plain, whole_broken, whole_beyond, whole_number}
use borrow.Author.Rules.{rules}
use Rattle.text_read.proofs.numbers.read_whole.Goals as goal

pub returns-then-not-is_plain : goal.returns-then-not-is_plain
returns-then-not-is_plain c = search (whole_not-plain, rules)

pub returns-then-ran-s : goal.returns-then-ran-s
returns-then-ran-s c = search (whole_broken, rules)

pub returns-then-ran-gt-MOST : goal.returns-then-ran-gt-MOST
returns-then-ran-gt-MOST c = search (whole_beyond, rules)

pub returns : goal.returns
returns c = search (whole_number, rules)
