-- Rolling stock duties, worked: rows of document 004's Table 8, each rule broken, and the refusals beside them. The checker computes them.
use Rattle.std.specs.Prelude.{ℕ, ◌≡◌, refl, List, [], ◌∷◌, ◌++◌, replicate, length, pos, negsuc}
use Rattle.rules.specs.Limits.{unsigned_fill, signed_fill}
use Rattle.rules.specs.Answers.{refusal, broken_rule, bad_header, bad_row, out_of_range, unknown_name, no_room, duties_file}
use Rattle.rules.specs.Bytes.{bytes}
use Rattle.rules.specs.Duties.{duties_header, later_rule, stays_rule, together_rule, sequence_rule, meets_rule, texts_rule, DutiesChecked, duties_checked}
use Rattle.rules.specs.Verdict.{All}
use Rattle.rules.specs.Computed.{computed}
use Rattle.rules.specs.declared.answers.Told.{Told}
use Rattle.rules.specs.declared.answers.Told.TheVariants.{Accepted, Broken, Refused}

-- five nodes find room
abbrev asked : List ℕ → DutiesChecked
asked rows = duties_checked (duties_header ++ rows) (replicate 10 7) (replicate 5 (pos 9))

-- what is left unless the duties are accepted
abbrev only : Told → DutiesChecked
only a = record { answer = a; nodes = replicate 10 unsigned_fill; balance = replicate 5 signed_fill }

header_long : length duties_header ≡ 129
header_long = refl

-- ---- Table 8's last rows

abbrev leaves : List ℕ
leaves = bytes "RSDuty_29,1,83580,23:13:00,87720,1d 00:22:00,ABWDXR,MDNHEAD,TRAIN,9N92RV#1.A1\n"

abbrev turns : List ℕ
turns = bytes "RSDuty_29,2,87720,1d 00:22:00,87840,1d 00:24:00,MDNHEAD,MDNHEAD,CHANGE_END,\n"

abbrev stables : List ℕ
stables = bytes "RSDuty_29,3,87840,1d 00:24:00,87960,1d 00:26:00,MDNHEAD,MDNHDCS,TRAIN,5N92RV#1.A1\n"

-- one duty: it starts at ABWDXR and ends at MDNHDCS; MDNHEAD is only passed. Room past the third node keeps its contents
table_8 : asked (leaves ++ turns ++ stables)
    ≡ record {
      answer = Accepted 3;
      nodes = 174 ∷ 6 ∷ 181 ∷ 7 ∷ 339 ∷ 7 ∷ 7 ∷ 7 ∷ 7 ∷ 7 ∷ [];
      balance = negsuc 0 ∷ pos 0 ∷ pos 1 ∷ pos 9 ∷ pos 9 ∷ [];
    }
unfolding computed
table_8 = refl

-- quotes and CR LF: a node's place is the first byte of its content
quoted : asked (bytes "\"D\",1,60,00:01:00,120,\"00:02:00\",\"A\",B,TRAIN,C\r\n")
    ≡ record { answer = Accepted 2; nodes = 163 ∷ 1 ∷ 166 ∷ 1 ∷ replicate 6 7; balance = negsuc 0 ∷ pos 1 ∷ replicate 3 (pos 9) }
unfolding computed
quoted = refl

-- two duties, the second from where the first ends
two_duties : asked (bytes "D,1,60,00:01:00,120,00:02:00,A,B,TRAIN,C\nE,1,0,00:00:00,9,00:00:09,B,B,SPARE,\n")
    ≡ record { answer = Accepted 2; nodes = 158 ∷ 1 ∷ 160 ∷ 1 ∷ replicate 6 7; balance = negsuc 0 ∷ pos 1 ∷ replicate 3 (pos 9) }
unfolding computed
two_duties = refl

-- a header alone
no_row : asked [] ≡ record { answer = Accepted 0; nodes = replicate 10 7; balance = replicate 5 (pos 9) }
unfolding computed
no_row = refl

-- ---- each rule broken, and each refusal of a row: both tables are filled

pub record Case : Type 0 where
  pub rows : List ℕ
  pub answer : Told

abbrev breaks : List ℕ → (row rule place : ℕ) → Case
breaks s row rule place = record { rows = s; answer = Broken (broken_rule row rule place) }

abbrev refuses : List ℕ → (number place : ℕ) → Case
refuses s number place = record { rows = s; answer = Refused (refusal number duties_file place) }

abbrev first : List ℕ
first = bytes "D,1,60,00:01:00,120,00:02:00,A,B,TRAIN,C\n"

abbrev cases : List Case
cases =
    breaks (bytes "D,1,60,00:01:00,60,00:01:00,A,B,TRAIN,C\n") 0 later_rule 129
    ∷ breaks (bytes "D,1,60,00:01:00,120,00:02:00,A,B,CHANGE_END,\n") 0 stays_rule 129
    ∷ breaks (first ++ bytes "E,1,60,00:01:00,120,00:02:00,A,B,TRAIN,C\n" ++ first) 2 together_rule 211
    ∷ breaks (first ++ bytes "D,3,120,00:02:00,180,00:03:00,B,B,SPARE,\n") 1 sequence_rule 170
    ∷ breaks (first ++ bytes "D,2,120,00:02:00,180,00:03:00,A,A,SPARE,\n") 1 meets_rule 170
    ∷ breaks (bytes "D,1,60,00:01:00,120,0:02:00,A,B,TRAIN,C\n") 0 texts_rule 129
    -- an event is missing: rule 4, and rule 5, which is higher
    ∷ breaks (leaves ++ stables) 1 sequence_rule 207
    -- day 1 wants its `1d `, and day 0 none
    ∷ breaks (bytes "D,1,0,0d 00:00:00,60,00:01:00,A,B,TRAIN,C\n") 0 texts_rule 129
    ∷ breaks (bytes "D,1,0,00:00:00,90000,25:00:00,A,B,TRAIN,C\n") 0 texts_rule 129
    -- a refusal in a later row comes before a broken rule in an earlier one
    ∷ refuses (bytes "D,1,60,00:01:00,60,00:01:00,A,B,TRAIN,C\nD\n") bad_row 169
    ∷ refuses (bytes "D,1,60,00:01:00\",120,00:02:00,A,B,TRAIN,C\n") bad_row 129
    ∷ refuses (bytes "D,1,60,00:01:00,120,00:02:00,A,A,RESERVE,\n") unknown_name 129
    ∷ refuses (bytes "D,1,60,00:01:00,120,00:02:00,A,A,RESERVE,C\n") bad_row 129
    ∷ refuses (bytes "D,1,60,00:01:00,864000,10d 00:00:00,A,A,RESERVE,\n") out_of_range 129
    ∷ refuses (first ++ bytes "E,1,60,00:01:00,120,00:02:00,F,G,TRAIN,C\nE,2,120,00:02:00,180,00:03:00,H,I,TRAIN,C\n") no_room 211
    ∷ []

all_cases : All (λ c. asked c.rows ≡ only c.answer) cases
unfolding computed
all_cases = (refl, (refl, (refl, (refl, (refl, (refl, (refl, (refl, (refl, (refl, (refl, (refl, (refl, (refl, (refl, tt)))))))))))))))

-- another header
no_header : (duties_checked (bytes "DUTY\n") [] []).answer ≡ Refused (refusal bad_header duties_file 0)
unfolding computed
no_header = refl
