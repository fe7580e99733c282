-- `files::parts::read_rules` meets its contract: each way out by its law. Assumes nothing.
use borrow.Author.Rules.{rules}
use Rattle.files.proofs.RuleWays.{rules_able, fifteen_able, rules_refused, rules-row, rules_whole}
use Rattle.files.proofs.parts.read_rules.Goals as goal

pub read_constraints-requires : goal.read_constraints-requires
read_constraints-requires c = search (rules_able, rules)

pub subnet_fault-requires : goal.subnet_fault-requires
subnet_fault-requires c =
    let start = c in
    let rules = c.rules-rules in
    let read-constraints = c.read_constraints in
    fifteen_able start.args.stated rules.ensures start.args.counts _ _ _ _ _ _ _ read-constraints.ensures c.in-Ok.is start.requires

pub returns-in-Err : goal.returns-in-Err
returns-in-Err c = search (rules_refused, rules)

pub returns-in-Some : goal.returns-in-Some
returns-in-Some c = search (rules-row, rules)

pub returns-in-None : goal.returns-in-None
returns-in-None c = search (rules_whole, rules)
