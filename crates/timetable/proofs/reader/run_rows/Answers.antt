-- Where contents may follow, plain bytes are read, and ids in quotes behind them. Assumes nothing.
use borrow.Author.Rules.{rules}
use Rattle.timetable.proofs.Quoted.{ran_begun, ran_passed}
use Rattle.timetable.proofs.Run.{opening, ran_none}
use Rattle.timetable.proofs.reader.run_rows.Goals as goal

pub run_plain-ran-requires : goal.run_plain-ran-requires
run_plain-ran-requires c = search (opening, rules)

pub run_quoted-quoted-requires : goal.run_quoted-quoted-requires
run_quoted-quoted-requires c = search (ran_begun, rules)

pub returns-then-not-contents : goal.returns-then-not-contents
returns-then-not-contents c = search (ran_none, rules)

pub returns : goal.returns
returns c = search (ran_passed, rules)
