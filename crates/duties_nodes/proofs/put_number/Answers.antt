-- `duties_nodes::put_number` meets its contract: a store past the end writes nothing. Assumes nothing.
use mathlib.Core.Path.{sym}
use lib.Seq.{set_out}
use Rattle.duties_nodes.proofs.put_number.Goals as goal

pub returns-else-i-table : goal.returns-else-i-table
returns-else-i-table c = sym (set_out _ _ _ c.if-i-table.false)
