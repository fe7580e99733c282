-- `constraints_tables::bump` meets its contract: a store past the end writes nothing. Assumes nothing.
use mathlib.Core.Path.{sym}
use lib.Seq.{set_out}
use Rattle.constraints_tables.proofs.bump.Goals as goal

pub returns-else-k-next : goal.returns-else-k-next
returns-else-k-next c = sym (set_out _ _ _ c.if-k-next.false)
