-- `constraints_tokens::names::type_named` meets its contract: the row of the table that the word spells. Assumes nothing.
use mathlib.Core.Path.{◌∙◌}
use Rattle.rules.specs.Kinds.{type_named}
use Rattle.constraints_tokens.proofs.Named.{row_chosen}
use Rattle.constraints_tokens.proofs.names.type_named.Goals as goal

pub returns : goal.returns
unfolding type_named
returns c = c.unwrap_or.ensures ∙ rw c.named.ensures (simp row_chosen)
