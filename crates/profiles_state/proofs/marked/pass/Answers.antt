-- The byte moves the mark, is left for the contents, or breaks the row. Assumes nothing.
use borrow.Author.Rules.{rules}
use Rattle.profiles_state.proofs.Marking.{marking}
use Rattle.profiles_state.proofs.marked.pass.Goals as goal

pub returns-in-To : goal.returns-in-To
returns-in-To c = search (marking, rules)

pub returns-in-Content : goal.returns-in-Content
returns-in-Content c = search (marking, rules)

pub returns-in-Broken : goal.returns-in-Broken
returns-in-Broken c = search (marking, rules)
