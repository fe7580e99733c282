-- Three numbers, each closed by its byte. Assumes nothing.
use borrow.Author.Rules.{rules}
use Rattle.timetable_entry.specs.Spots.{unspotted}
use Rattle.timetable_entry.proofs.Looks.{looks, cut_near, spotted_at}
use Rattle.timetable_entry.proofs.entry_at.Goals as goal

pub returns-then-part-lt-BYTES : goal.returns-then-part-lt-BYTES
returns-then-part-lt-BYTES c = unspotted

pub returns-in_err-departure : goal.returns-in_err-departure
returns-in_err-departure c = search (looks, rules)

pub number_at-requires-2 : goal.number_at-requires-2
number_at-requires-2 c =
    let n = cut_near _ _ _ _ _ c.number_at.ensures c.in_ok-departure.was in
    search rules

pub returns-in_err-travel : goal.returns-in_err-travel
returns-in_err-travel c = search (looks, rules)

pub number_at-requires-3 : goal.number_at-requires-3
number_at-requires-3 c =
    let n = cut_near _ _ _ _ _ c.number_at.ensures c.in_ok-departure.was in
    let m = cut_near _ _ _ _ _ c.number_at-2.ensures c.in_ok-travel.was in
    search rules

pub returns-in_err-profile : goal.returns-in_err-profile
returns-in_err-profile c = search (looks, rules)

pub returns : goal.returns
returns c = spotted_at _ _ _ _ _ _ _ _ c.number_at.ensures c.in_ok-departure.was c.number_at-2.ensures c.in_ok-travel.was c.number_at-3.ensures c.in_ok-profile.was
