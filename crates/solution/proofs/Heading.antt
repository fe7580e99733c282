-- A solution's header ends where its comparison does: it has the timetable's names. Assumes nothing.
use Prim.Native.Nat.{ℕ, ◌≤◌, ◌<◌}
use mathlib.Core.Path.{◌≡◌, refl}
use Rattle.std.specs.Prelude.{Ok, Err}
use mathlib.Core.List.{List}
use lib.ListN.{length}
use Rattle.rules.specs.Bytes.{line_feed, split_on}
use Rattle.rules.specs.Timetable.{timetable_names, timetable_header}
use Rattle.csv_marks.specs.declared.Mark.TheVariants.{Bare}
use Rattle.csv_header.specs.declared.Headed.{Headed}
use Rattle.csv_header.specs.Heading.{compared_from}
use Rattle.csv_header.proofs.FirstLine as FirstLine
use Rattle.solution.specs.Whole.{head_end}

module _ (text : List ℕ) (r : Headed) where
  pub head_right : Ok r ≡ compared_from timetable_header Bare 0 0 text → length timetable_header ≤ r.head → r.next ≡ head_end (split_on line_feed text)
  head_right = FirstLine.head_right timetable_names refl text r

  pub head_short : Ok r ≡ compared_from timetable_header Bare 0 0 text → r.head < length timetable_header → 0 ≡ head_end (split_on line_feed text)
  head_short = FirstLine.head_short timetable_names refl text r

  pub head_wrong : Err r ≡ compared_from timetable_header Bare 0 0 text → 0 ≡ head_end (split_on line_feed text)
  head_wrong = FirstLine.head_wrong timetable_names refl text r
