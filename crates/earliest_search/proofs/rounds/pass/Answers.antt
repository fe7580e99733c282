-- `earliest_search::rounds::pass` meets its contract. The invariant: no leg is too late, and while nothing was moved every record looked at is kept. Assumes nothing.
use borrow.Author.Rules.{rules}
use Rattle.earliest_search.proofs.Passes.{pass_ends_kept}
use Rattle.earliest_search.proofs.rounds.pass.Goals as goal

pub returns-then-quiet : goal.returns-then-quiet
returns-then-quiet c = search (pass_ends_kept, rules)
