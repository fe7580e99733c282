-- `files_tests::lists::count_of` meets its contract: the profile that is found has its count beside it. Assumes nothing.
use borrow.Author.Rules.{rules}
use Rattle.files_tests.proofs.Counts.{counts}
use Rattle.files_tests.proofs.lists.count_of.Goals as goal

pub count_at-requires : goal.count_at-requires
count_at-requires c = search (counts, rules)
