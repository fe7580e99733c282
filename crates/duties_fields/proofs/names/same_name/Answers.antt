-- `duties_fields::names::same_name` meets its contract: texts that are the same have one length and one last byte. Assumes nothing.
use Prim.Native.Nat.{◌-◌}
use lib.ListN.{length}
use borrow.Author.Rules.{rules}
use Rattle.duties_fields.proofs.Naming.{other_length, both_empty, other_byte}
use Rattle.duties_fields.proofs.names.same_name.Goals as goal

pub returns-then-s-name : goal.returns-then-s-name
returns-then-s-name c = search (other_length, rules)

pub returns-then-s-eq0 : goal.returns-then-s-eq0
returns-then-s-eq0 c = search (both_empty, rules)

pub returns-then-s-last : goal.returns-then-s-last
returns-then-s-last c =
    let s = c.args.s.now in
    other_byte c.args.name.now s (length s - 1) c.if-s-last.true
