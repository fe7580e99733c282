-- The examples of document 01 ("Examples to hold the definitions to") hold: the checker computes each. Assumes nothing.
use Rattle.std.specs.Prelude.{◌≡◌, refl, []}
use Rattle.rules.specs.Answers.{timetable_file}
use Rattle.rules.specs.Bytes.{bytes}
use Rattle.rules.specs.Verdict.{All}
use Rattle.rules.specs.Display.{row_at}
use Rattle.rules.specs.Computed.{computed}
use Rattle.rules.specs.Examples.{Right, marked, unmarked, quotes, editions, countings}

-- THE STATEMENT: every marked example holds
marked_hold : All Right marked
unfolding computed
marked_hold = (refl, (refl, (refl, (refl, (refl, (refl, ((refl, refl), ((refl, refl), (refl, (refl, (refl, (refl, (refl, (refl, tt))))))))))))))

unmarked_hold : All Right unmarked
unfolding computed
unmarked_hold = (refl, (refl, (refl, (refl, (refl, (refl, (refl, (refl, (refl, (refl, tt))))))))))

quotes_hold : All Right quotes
unfolding computed
quotes_hold = (refl, (refl, (refl, (refl, (refl, (refl, (refl, (refl, (refl, (refl, (refl, (refl, (refl, tt)))))))))))))

-- for display a row keeps its quotes, and loses one CR before its LF; a row without LF keeps all
shown : (row_at (bytes "h\r\n\"a\"\r\nb\r\r\nc\r") [] timetable_file 3 ≡ bytes "\"a\"")
    × (row_at (bytes "h\r\n\"a\"\r\nb\r\r\nc\r") [] timetable_file 8 ≡ bytes "b\r")
    × (row_at (bytes "h\r\n\"a\"\r\nb\r\r\nc\r") [] timetable_file 12 ≡ bytes "c\r")
unfolding computed
shown = (refl, refl, refl)

editions_hold : All Right editions
unfolding computed
editions_hold = (refl, (refl, (refl, (refl, (refl, (refl, (refl, (refl, (refl, (refl, (refl, (refl, (refl, (refl, tt))))))))))))))

countings_hold : All Right countings
unfolding computed
countings_hold = (refl, (refl, (refl, (refl, (refl, (refl, (refl, (refl, (refl, (refl, (refl, (refl, (refl, (refl, (refl, (refl, (refl, (refl, tt))))))))))))))))))
