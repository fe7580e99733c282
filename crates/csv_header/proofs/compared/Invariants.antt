-- The header is compared byte by byte: what is left decides as the whole does. Assumes nothing.
use mathlib.Core.Path.{◌≡◌}
use lib.ListN.{drop}
use Rattle.csv_header.specs.Heading.{compared_from}
use Rattle.csv_header.proofs.compared.Given as goal

abbrev pub invariant-loop-i : goal.invariant-loop-i
invariant-loop-i l = compared_from l.names l.so_far.mark l.so_far.head l.i (drop l.i l.part) ≡ compared_from l.names l.fn.mark l.head 0 l.part
