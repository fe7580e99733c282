-- What is written to the numbers that C lends: a code, then values, then 0s; and how much was tested (document 02, E6).
use Rattle.std.specs.Int.{w64}
use Rattle.std.proofs.Common.{of_z, ℕ, ◌+◌, ◌*◌, List, [], ◌∷◌, ◌++◌, get_or, replicate}
use Rattle.rules.specs.Limits.{most_horizon, most_text, most_legs, leg_width, most_configurations, configuration_width, most_profiles, profile_width, most_samples, most_constraints, constraint_width, most_subnets, most_tracks, track_width, most_nodes, node_width}
use Rattle.rules.specs.Kinds.{not_offered, headway, single_track, dwell, turnaround, connection}
use Rattle.rules.specs.Answers.{values_of}
use Rattle.rules.specs.Lists.{over}
use Rattle.rules.specs.Tally.{no_tests}
use Rattle.rules.specs.declared.answers.Tally.{Tally}
use Rattle.rules.specs.declared.answers.Answer.{Answer}
use Rattle.rules.specs.declared.answers.Answer.TheVariants.{Accepted, Violated, Refused}
use Rattle.rules.specs.declared.figures.Figures.{Figures}
use Rattle.rules.specs.declared.outcomes.Checked.{Checked}
use Rattle.rules.specs.declared.outcomes.Report.{Report}
use Rattle.rules.specs.declared.outcomes.Merged.{Merged}
use Rattle.energy_parts.specs.declared.desk.Bits.{Bits}
use Rattle.energy_parts.specs.Bits.{bits_of}

-- the codes
abbrev pub accepted_code : ℕ
accepted_code = 0

abbrev pub violated_code : ℕ
violated_code = 1

abbrev pub refused_code : ℕ
refused_code = 2

abbrev pub row_code : ℕ
row_code = 3

-- what C lends: for a code and its values, and for how much was tested
abbrev pub lent_values : ℕ
lent_values = 16

abbrev pub lent_tests : ℕ
lent_tests = 8

abbrev pub lent_numbers : ℕ
lent_numbers = lent_values + lent_tests

-- the first of them are given, and the rest are 0
abbrev pub padded : (lent : ℕ) → List ℕ → List ℕ
padded lent numbers = over numbers (replicate lent 0)

-- the total, then the count of each kind, from 0 to 5
abbrev pub count_of : Tally → (kind : ℕ) → ℕ
count_of t kind = get_or t.kinds kind 0

abbrev pub tally_numbers : Tally → List ℕ
tally_numbers t =
    t.total
    ∷ count_of t not_offered
    ∷ count_of t headway
    ∷ count_of t single_track
    ∷ count_of t dwell
    ∷ count_of t turnaround
    ∷ count_of t connection
    ∷ []

-- a code with its values, and what was tested for it
abbrev pub told : (values : List ℕ) → Tally → List ℕ
told values t = padded lent_values values ++ padded lent_tests (tally_numbers t)

-- what is no verdict has no tests
abbrev pub untested : (values : List ℕ) → List ℕ
untested values = told values no_tests

-- what is told of an accepted solution is the entry's own; of a violation and of a refusal, document 01's values; a refusal has no tests
abbrev pub answer_numbers : (accepted : List ℕ) → Tally → Answer → List ℕ
answer_numbers accepted t Accepted = told accepted t
answer_numbers accepted t (Violated v) = told (violated_code ∷ values_of (Violated v)) t
answer_numbers accepted t (Refused r) = untested (refused_code ∷ values_of (Refused r))

abbrev pub check_numbers : Checked → List ℕ
check_numbers r = answer_numbers (accepted_code ∷ []) r.tally r.answer

-- kilojoules, with the fluctuation and the desk tool's four doubles as patterns; then the quarters of the two peaks
abbrev pub energy_numbers : Figures → (fluctuation : ℕ) → Bits → List ℕ
energy_numbers g fluctuation bits =
    g.before
    ∷ g.drawn
    ∷ g.lost
    ∷ fluctuation
    ∷ g.peaks.before.kj
    ∷ g.peaks.drawn.kj
    ∷ bits.before
    ∷ bits.drawn
    ∷ bits.lost
    ∷ bits.peak
    ∷ g.peaks.before.quarter
    ∷ g.peaks.drawn.quarter
    ∷ []

-- the fluctuation is in two's complement
abbrev pub report_numbers : Report → List ℕ
report_numbers r = answer_numbers (accepted_code ∷ energy_numbers r.figures (of_z w64 r.figures.fluctuation) (bits_of r.desk)) r.tally r.answer

abbrev pub merge_numbers : Merged → List ℕ
merge_numbers r = answer_numbers (accepted_code ∷ r.length ∷ []) r.tally r.answer

abbrev pub row_numbers : (start length : ℕ) → List ℕ
row_numbers start length = untested (row_code ∷ start ∷ length ∷ [])

-- the numbers of each lent table at the limits, and the bytes of the lent text; then the nodes and the balance of the duties
abbrev pub room_numbers : List ℕ
room_numbers =
    untested
    (most_legs * leg_width
    ∷ most_configurations * configuration_width
    ∷ most_profiles * profile_width
    ∷ most_samples
    ∷ most_constraints * constraint_width
    ∷ most_tracks * track_width
    ∷ most_legs * configuration_width
    ∷ most_legs * configuration_width
    ∷ most_subnets * most_horizon
    ∷ most_text
    ∷ most_nodes * node_width
    ∷ most_nodes
    ∷ [])
