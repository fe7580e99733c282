-- A mark as the code has it, and what a byte does under it.
use Rattle.std.specs.Prelude.{ℕ, Bool, true, false, not, cond, Option, Some, None, eqb}
use Rattle.rules.specs.Bytes.{line_feed, carriage_return, quote, comma}
use Rattle.csv_machine.specs.Marks.{bare, within, behind, Marked, on, returned}
use Rattle.csv_marks.specs.declared.Mark.{Mark}
use Rattle.csv_marks.specs.declared.Mark.TheVariants.{Bare, Within, Behind, Returned}
use Rattle.csv_marks.specs.declared.Act.{Act}
use Rattle.csv_marks.specs.declared.Act.TheVariants.{To, Content, Broken}
use Rattle.csv_marks.specs.declared.Move.{Move}

-- the state of a line under a mark
abbrev pub marked : {O : Type 0} → Mark → O → Marked O
marked Bare o = on bare o
marked Within o = on within o
marked Behind o = on behind o
marked Returned o = returned o

abbrev pub marked_step : {O : Type 0} → Mark → Option O → Option (Marked O)
marked_step mark None = None
marked_step mark (Some o) = Some (marked mark o)

abbrev pub takes : Mark → Bool
takes Bare = true
takes Within = true
takes Behind = false
takes Returned = false

-- whether a line may end there: no quote is open
abbrev pub may_end : Mark → Bool
may_end Bare = true
may_end Within = false
may_end Behind = true
may_end Returned = true

-- a byte that is no quote and no CR
abbrev pub plain_in : Mark → ℕ → Bool
plain_in Bare b = true
plain_in Within b = cond (eqb b comma) false (not (eqb b line_feed))
plain_in Behind b = false
plain_in Returned b = false

abbrev pub plain_under : Mark → ℕ → Bool
plain_under mark b = cond (eqb b quote) false (cond (eqb b carriage_return) false (plain_in mark b))

-- ---- what a byte does

abbrev pub on_quote : Mark → (begins : Bool) → Act
on_quote Bare begins = cond begins (To Within) Broken
on_quote Within begins = To Behind
on_quote Behind begins = Broken
on_quote Returned begins = Broken

abbrev pub on_return : Mark → Act
on_return Bare = To Returned
on_return Within = Broken
on_return Behind = To Returned
on_return Returned = Broken

abbrev pub on_end : Mark → Act
on_end Bare = Content Bare
on_end Within = Broken
on_end Behind = Content Bare
on_end Returned = Content Bare

abbrev pub on_comma : Mark → Act
on_comma Bare = Content Bare
on_comma Within = Broken
on_comma Behind = Content Bare
on_comma Returned = Broken

abbrev pub on_other : Mark → Act
on_other Bare = Content Bare
on_other Within = Content Within
on_other Behind = Broken
on_other Returned = Broken

abbrev pub turned : Mark → (b : ℕ) (begins : Bool) → Act
turned mark b begins =
    cond (eqb b quote) (on_quote mark begins)
    (cond (eqb b carriage_return) (on_return mark) (cond (eqb b line_feed) (on_end mark) (cond (eqb b comma) (on_comma mark) (on_other mark))))

-- ---- the same where the contents take their bytes themselves

abbrev pub moved_to : Mark → Option Move
moved_to mark = Some (record { mark = mark; step = 1 })

-- the byte is left for the contents
abbrev pub left_at : Mark → Option Move
left_at mark = Some (record { mark = mark; step = 0 })

abbrev pub moved_by : Act → Option Move
moved_by (To m) = moved_to m
moved_by (Content m) = left_at m
moved_by Broken = None

abbrev pub moved_under : Mark → (b : ℕ) (begins : Bool) → Option Move
moved_under mark b begins = moved_by (turned mark b begins)
