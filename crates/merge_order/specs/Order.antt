-- 17 and 16 as answers, and which of two is given.
use Rattle.std.specs.Prelude.{ℕ, Bool, cond, Option, Some, None, List}
use Rattle.rules.specs.Answers.{refusal, unequal_travel, no_room, no_file, second_file, is_accepted}
use Rattle.rules.specs.Rows.{place_of_row}
use Rattle.rules.specs.declared.answers.Answer.{Answer}
use Rattle.rules.specs.declared.answers.Ruling.{Ruling}
use Rattle.rules.specs.declared.answers.Answer.TheVariants.{Accepted, Refused}

abbrev pub travel_answer : (second : List ℕ) → Option ℕ → Answer
travel_answer second None = Accepted
travel_answer second (Some row) = Refused (refusal unequal_travel second_file (place_of_row second row))

abbrev pub room_answer : (fits : Bool) → Answer
room_answer fits = cond fits Accepted (Refused (refusal no_room no_file 0))

abbrev pub first_of : Answer → Answer → Answer
first_of a b = cond (is_accepted a) b a

-- of two verdicts, each with its tally
abbrev pub first_ruling : Ruling → Ruling → Ruling
first_ruling a b = cond (is_accepted a.answer) b a
