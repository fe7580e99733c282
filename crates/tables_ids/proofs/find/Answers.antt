-- `tables_ids::find` meets its contract: the part that rises, and then the rest. Assumes nothing.
use Rattle.tables_ids.proofs.Parts.{part-records, part_ascending, in_part, in_rest}
use borrow.Author.Rules.{rules}
use Rattle.tables_ids.proofs.find.Goals as goal

pub among-requires : goal.among-requires
among-requires c = (part-records _ _ _ _ c.requires, part_ascending _ _ _ _ c.requires)

pub returns-in-Some : goal.returns-in-Some
returns-in-Some c = search (in_part, rules)

pub returns-in-None : goal.returns-in-None
returns-in-None c = search (in_rest, rules)
