-- `say_counts::record_at` meets its contract. Assumes nothing.
use Rattle.say_counts.proofs.Counting.{place_fits}
use borrow.Author.Rules.{rules}
use Rattle.say_counts.proofs.record_at.Goals as goal

pub overflow_add-before : goal.overflow_add-before
overflow_add-before c = search (place_fits, rules)
