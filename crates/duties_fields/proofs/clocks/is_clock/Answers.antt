-- `duties_fields::clocks::is_clock` meets its contract: six digits and two colons. Assumes nothing.
use borrow.Author.Rules.{rules}
use Rattle.duties_fields.proofs.Times.{clock_is}
use Rattle.duties_fields.proofs.clocks.is_clock.Goals as goal

pub returns : goal.returns
returns c = search (clock_is, rules)
