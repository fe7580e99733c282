-- A number in quotes, and the comma behind them. Assumes nothing.
use borrow.Author.Rules.{rules}
use Rattle.timetable_entry.specs.Spots.{unquoted}
use Rattle.timetable_entry.proofs.Looks.{cut_near, quoted-at, quoting}
use Rattle.timetable_entry.proofs.quoted_at.Goals as goal

pub returns-then-part-lt-QUOTED_BYTES : goal.returns-then-part-lt-QUOTED_BYTES
returns-then-part-lt-QUOTED_BYTES c = unquoted

pub returns-in_err-quoted : goal.returns-in_err-quoted
returns-in_err-quoted c = search (quoting, rules)

pub bounds-part-quoted : goal.bounds-part-quoted
bounds-part-quoted c =
    let n = cut_near _ _ _ _ _ c.number_at.ensures c.in_ok-quoted.was in
    search rules

pub closed-requires : goal.closed-requires
closed-requires c =
    let n = cut_near _ _ _ _ _ c.number_at.ensures c.in_ok-quoted.was in
    search rules

pub returns : goal.returns
returns c = quoted-at _ _ _ _ _ (search rules) c.if-part-from-ne34.false c.number_at.ensures c.in_ok-quoted.was c.closed.ensures
