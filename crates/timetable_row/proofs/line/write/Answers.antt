-- Numbers one after the other: they stand there, and the rest is as it was. Assumes nothing.
use Rattle.std.proofs.Common.{arith}
use Rattle.std.proofs.lemmas.Grind.{common_steps}
use Rattle.std.proofs.lemmas.List.Edits.{sets-eq}
use Rattle.timetable_row.proofs.line.write.Goals as goal

pub returns : goal.returns
returns c = grind (arith, common_steps, sets-eq)
