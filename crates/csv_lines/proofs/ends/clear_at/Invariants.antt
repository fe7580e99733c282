-- `csv_lines::ends::clear_at` meets its contract. The loop's invariant: while the flag stands, the bytes passed end no line. Assumes nothing.
use Rattle.csv_lines.proofs.Clearing.{Flagged}
use Rattle.csv_lines.proofs.ends.clear_at.Given as goal

abbrev pub invariant-loop-k : goal.invariant-loop-k
invariant-loop-k l = Flagged l.text l.at l.clear l.k
