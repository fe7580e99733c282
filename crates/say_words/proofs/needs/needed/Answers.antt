-- `say_words::needs::needed` meets its contract. Assumes nothing.
use Rattle.say_words.proofs.Needing.{departs_later, arrives_later, departs_earlier}
use borrow.Author.Rules.{rules}
use Rattle.say_words.proofs.needs.needed.Goals as goal

pub returns-then-v-ne-SECOND : goal.returns-then-v-ne-SECOND
returns-then-v-ne-SECOND c = search (departs_later, rules)

pub returns-then-v-eq-HEADWAY : goal.returns-then-v-eq-HEADWAY
returns-then-v-eq-HEADWAY c = search (arrives_later, rules)

pub returns : goal.returns
returns c = search (departs_earlier, rules)
