-- `duties::turns::turn` meets its contract: two changes at most, and the balances stay small. Assumes nothing.
use borrow.Author.Rules.{rules}
use Rattle.duties.proofs.Turning.{turn_none, turn_some, end_room, start_room, turned_there}
use Rattle.duties.proofs.turns.turn.Goals as goal

pub returns-then-follows : goal.returns-then-follows
returns-then-follows c = search (turn_none, turned_there, rules)

pub end_duty-requires : goal.end_duty-requires
end_duty-requires c = search (end_room, rules)

pub bump-requires : goal.bump-requires
bump-requires c = search (start_room, rules)

pub returns : goal.returns
returns c = search (turn_some, turned_there, rules)
