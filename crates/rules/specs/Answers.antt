-- The three answers of document 01, and the numbers of "Refusal numbers" by their names. Every reading and every verdict ends in one of them.
use Rattle.std.specs.Prelude.{ℕ, Bool, true, false, cond, List, [], ◌∷◌}
use Rattle.rules.specs.declared.answers.Refusal.{Refusal}
use Rattle.rules.specs.declared.answers.Fault.{Fault}
use Rattle.rules.specs.declared.answers.Violation.{Violation}
use Rattle.rules.specs.declared.answers.Answer.{Answer}
use Rattle.rules.specs.declared.answers.Answer.TheVariants.{Accepted, Violated, Refused}
use Rattle.rules.specs.declared.answers.BrokenRule.{BrokenRule}
use Rattle.rules.specs.declared.answers.Told.{Told}

-- 1: H out of range
abbrev pub bad_horizon : ℕ
bad_horizon = 1

-- 2: text too long
abbrev pub too_long : ℕ
too_long = 2

-- 3: header differs
abbrev pub bad_header : ℕ
bad_header = 3

-- 4: CSV row breaks its form
abbrev pub bad_row : ℕ
bad_row = 4

-- 5: number out of range, or departure plus travel past H
abbrev pub out_of_range : ℕ
out_of_range = 5

-- 6: a count limit is passed
abbrev pub too_many : ℕ
too_many = 6

-- 7: id already seen; a track listed twice in any subnets
abbrev pub already_seen : ℕ
already_seen = 7

-- 8: nominal not in its list
abbrev pub nominal_not_listed : ℕ
nominal_not_listed = 8

-- 9: JSON form broken, or a value of the wrong type
abbrev pub bad_json : ℕ
bad_json = 9

-- 10: unknown list, key or connection type
abbrev pub unknown_name : ℕ
unknown_name = 10

-- 11: list or key repeated, or missing
abbrev pub repeated_or_missing : ℕ
repeated_or_missing = 11

-- 12: leg or profile does not exist
abbrev pub not_there : ℕ
not_there = 12

-- 13: profile's sample count is not t
abbrev pub wrong_samples : ℕ
wrong_samples = 13

-- 14: solution's first five columns differ from the draft's, row by row, or the row count does
abbrev pub differs : ℕ
differs = 14

-- 15: a leg's track is in no subnet
abbrev pub no_subnet : ℕ
no_subnet = 15

-- 16: lent room too short
abbrev pub no_room : ℕ
no_room = 16

-- 17: two choices of a leg have unequal travel times
abbrev pub unequal_travel : ℕ
unequal_travel = 17

-- 19: no accepted solution with the nominal travel times exists (document 02, E10)
abbrev pub no_solution : ℕ
no_solution = 19

-- 21: an edition that is not known (document 02, E4)
abbrev pub unknown_edition : ℕ
unknown_edition = 21

-- the files
abbrev pub no_file : ℕ
no_file = 0

abbrev pub timetable_file : ℕ
timetable_file = 1

abbrev pub profiles_file : ℕ
profiles_file = 2

abbrev pub constraints_file : ℕ
constraints_file = 3

abbrev pub solution_file : ℕ
solution_file = 4

abbrev pub second_file : ℕ
second_file = 5

abbrev pub duties_file : ℕ
duties_file = 6

abbrev pub refusal : (number file place : ℕ) → Refusal
refusal number file place = record { number = number; file = file; place = place }

-- of a text, before its file is named
abbrev pub fault_at : (number place : ℕ) → Fault
fault_at number place = record { number = number; place = place }

abbrev pub violation : (kind position inequality shortfall file : ℕ) → Violation
violation kind position inequality shortfall file =
    record { kind = kind; position = position; inequality = inequality; shortfall = shortfall; file = file }

abbrev pub broken_rule : (row rule place : ℕ) → BrokenRule
broken_rule row rule place = record { row = row; rule = rule; place = place }

-- document 01's values for each case of the answer: none; kind, position, inequality, shortfall, file; number, file, place
abbrev pub values_of : Answer → List ℕ
values_of Accepted = []
values_of (Violated v) = v.kind ∷ v.position ∷ v.inequality ∷ v.shortfall ∷ v.file ∷ []
values_of (Refused r) = r.number ∷ r.file ∷ r.place ∷ []

abbrev pub is_refusal : Answer → Bool
is_refusal Accepted = false
is_refusal (Violated v) = false
is_refusal (Refused r) = true

abbrev pub is_accepted : Answer → Bool
is_accepted Accepted = true
is_accepted (Violated v) = false
is_accepted (Refused r) = false

-- of the duties (document 02, E13): how many nodes; row, rule, place; number, file, place
abbrev pub told_values : Told → List ℕ
told_values (Told.Accepted nodes) = nodes ∷ []
told_values (Told.Broken b) = b.row ∷ b.rule ∷ b.place ∷ []
told_values (Told.Refused r) = r.number ∷ r.file ∷ r.place ∷ []

-- a file that was read, or the refusal that ends everything
pub data Reading (A : Type 0) : Type 0 where
  refused : Refusal → Reading A
  good : A → Reading A

infixl 20 ◌>>=◌
abbrev pub ◌>>=◌ : {A B : Type 0} → Reading A → (A → Reading B) → Reading B
refused r >>= k = refused r
good a >>= k = k a

-- numbered tests: they stand in the order of their numbers, so the first that fails has the lowest
pub record Test : Type 0 where
  pub number : ℕ
  pub holds : Bool

infix 70 ◌needs◌
abbrev pub ◌needs◌ : ℕ → Bool → Test
◌needs◌ n b = record { number = n; holds = b }

pub data Judged (A : Type 0) : Type 0 where
  wrong : ℕ → Judged A
  right : A → Judged A

abbrev pub judge : {A : Type 0} → List Test → A → Judged A
judge [] x = right x
judge (t ∷ ts) x = cond t.holds (judge ts x) (wrong t.number)
