-- A text that is too long, or one part from the start to the end. Assumes nothing.
use Prim.Native.Nat.{◌≤◌}
use native.Mathlib.Omega.{arith}
use lib.ListN.{length}
use borrow.Author.Rules.{rules}
use Rattle.rules.specs.Limits.{most_text}
use Rattle.timetable.proofs.Whole.{read_long, read_fed}
use Rattle.timetable.proofs.reader.read_timetable.Goals as goal

pub returns-then-text-gt-MOST : goal.returns-then-text-gt-MOST
returns-then-text-gt-MOST c = search (read_long, rules)

pub returns : goal.returns
returns c = let short : length c.args.text.now ≤ most_text = omega arith in search (read_fed, rules)
