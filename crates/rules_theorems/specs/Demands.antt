-- The three demands, each as one statement over the definitions of `rules`. About the entries they stand in `checker_theorems/specs/Demands.antt`.
use Rattle.std.specs.Prelude.{ℕ, ◌+◌, ◌*◌, ◌/◌, ◌≤◌, ◌<◌, ◌≡◌, List, ◌↔◌, length, take, get_or, ℤ, ◌+ℤ◌}
use Rattle.rules.specs.Limits.{configuration_width, unsigned_fill, signed_fill, byte_fill}
use Rattle.rules.specs.Lists.{flat}
use Rattle.rules.specs.Answers.{good, solution_file}
use Rattle.rules.specs.Timetable.{legs_of, configurations_of, leg_numbers, configuration_numbers}
use Rattle.rules.specs.Profiles.{profiles_from, profile_numbers, sample_table}
use Rattle.rules.specs.Constraints.{ordered, constraint_numbers, track_numbers}
use Rattle.rules.specs.Reading.{Texts, Files, choices_read}
use Rattle.rules.specs.Tally.{no_tests}
use Rattle.rules.specs.Verdict.{All, offered, Offered, Acceptable, Test, tests, shown_in}
use Rattle.rules.specs.Energy.{samples_in, homes_of, power, curves_of}
use Rattle.rules.specs.Merge.{zipped, earlier, later, SameTravel, chosen, text_of}
use Rattle.rules.specs.Entries.{Tables, rooms_of, filled, filled_tables, no_figures, Whole, all_read, Checked, checked, Reported, Merged, merged}
use Rattle.rules.specs.declared.stated.Stated.{Stated}
use Rattle.rules.specs.declared.sizes.Configuration.{Configuration}
use Rattle.rules.specs.declared.answers.Refusal.{Refusal}
use Rattle.rules.specs.declared.answers.Tally.{Tally}
use Rattle.rules.specs.declared.answers.Violation.{Violation}
use Rattle.rules.specs.declared.answers.Answer.{Answer}
use Rattle.rules.specs.declared.answers.Answer.TheVariants.{Accepted, Violated, Refused}
use Rattle.rules_theorems.specs.Tests.{made, of_kind, FirstFailing, Numbered, AddsUp}
use Rattle.rules_theorems.specs.Outcomes.{Outcome}

-- ---- DEMAND 1: "Any bytes in any of the files end in one of three answers", "after a refusal each lent table holds only a number that no field can have"

abbrev pub IsRefused : Answer → Type 0
IsRefused a = (r : Refusal) × (a ≡ Refused r)

-- the answer of an entry, and what holds of its tally and its lent tables and texts after a refusal
pub record DemandOne (a : Answer) (Emptied : Type 0) : Type 0 where
  pub outcome : Outcome a
  pub emptied : IsRefused a → Emptied

-- t, c: the tables as they were lent
pub record EmptiedCheck (t : Tables) (c : List ℕ) (r : Checked) : Type 0 where
  pub tally : r.tally ≡ no_tests
  pub tables : r.tables ≡ filled_tables t
  pub choices : r.choices ≡ filled unsigned_fill c

-- a report: its curve table p too, and no figures
pub record EmptiedReport (t : Tables) (c : List ℕ) (p : List ℤ) (r : Reported) : Type 0 where
  pub tally : r.tally ≡ no_tests
  pub tables : r.tables ≡ filled_tables t
  pub choices : r.choices ≡ filled unsigned_fill c
  pub curves : r.curves ≡ filled signed_fill p
  pub figures : r.figures ≡ no_figures

-- a merge: both choice tables, and the text buffer b
pub record EmptiedMerge (t : Tables) (c d b : List ℕ) (r : Merged) : Type 0 where
  pub tally : r.tally ≡ no_tests
  pub tables : r.tables ≡ filled_tables t
  pub choices : r.choices ≡ filled unsigned_fill c
  pub second : r.second ≡ filled unsigned_fill d
  pub text : r.text ≡ filled byte_fill b
  pub length : r.length ≡ 0

-- "a number that no field can have": nothing that an entry writes into a lent table is what fills it after a refusal
abbrev pub Unfilled : List ℕ → Type 0
Unfilled = All (λ n. n < unsigned_fill)

abbrev pub UnfilledSigned : List ℤ → Type 0
UnfilledSigned = All (λ x. x ≡ signed_fill → ⊥)

-- of what the files say
pub record NoFieldIsFill (f : Files) : Type 0 where
  pub legs : Unfilled (flat leg_numbers (legs_of f.rows))
  pub configurations : Unfilled (flat configuration_numbers (configurations_of f.rows))
  pub profiles : Unfilled (flat profile_numbers (profiles_from 0 f.curves))
  pub samples : UnfilledSigned (sample_table f.curves)
  pub constraints : Unfilled (flat constraint_numbers (ordered f.document.constraints))
  pub tracks : Unfilled (flat track_numbers f.document.tracks)

-- of a solution's choices, the first's and the second's
abbrev pub NoChoiceIsFill : List Configuration → Type 0
NoChoiceIsFill cs = Unfilled (flat configuration_numbers cs)

-- of the curves that a report lays
abbrev pub NoPowerIsFill : (H : ℕ) → Files → List Configuration → Type 0
NoPowerIsFill H f cs = UnfilledSigned (curves_of H f cs)

-- ---- DEMAND 2: once every file reads, w is what they say

pub record DemandTwo (H : ℕ) (a : Answer) (w : Whole) : Type 0 where
  -- accepted exactly when each choice is offered in the draft and every inequality of every record holds
  pub accepted : (a ≡ Accepted) ↔ Acceptable (offered w.files.rows) w.files.document.constraints w.choices
  -- the same over the table's order
  pub accepted_in_order : (a ≡ Accepted) ↔ Acceptable (offered w.files.rows) (ordered w.files.document.constraints) w.choices
  -- otherwise the first failure in the fixed order is named
  pub violated : (v : Violation) → a ≡ Violated v
      → (x : Test) × FirstFailing (tests (offered w.files.rows) (ordered w.files.document.constraints) w.choices) x × (v ≡ shown_in solution_file x)
  -- with its shortfall in seconds, at least 1
  pub numbered : (v : Violation) → a ≡ Violated v → Numbered v.kind v.inequality v.shortfall
  -- and nothing is refused
  pub judged : IsRefused a → ⊥
  -- what we write reads back as the same choices: any that the draft offers, where the choice table has room
  pub reads_back : (file room : ℕ) (s : List Configuration) → Offered (offered w.files.rows) s → length w.files.rows ≤ room / configuration_width
      → choices_read H w.files file room (text_of (chosen w.files.rows s)) ≡ good s

-- ---- how much was tested (document 02, E6), once every file reads

abbrev pub tests_made : Files → List Configuration → List Test
tests_made f cs = made (tests (offered f.rows) (ordered f.document.constraints) cs)

-- the tests up to and with the first that fails, in all and of each kind
pub record CountsTests (f : Files) (cs : List Configuration) (t : Tally) : Type 0 where
  pub total : t.total ≡ length (tests_made f cs)
  pub each : (k : ℕ) → get_or t.kinds k 0 ≡ of_kind k (tests_made f cs)
  pub adds_up : AddsUp t
  pub bound : t.total ≤ length f.rows + 2 * length f.document.constraints

-- ---- DEMAND 3

-- "Take two solutions, both accepted against the same files, with equal travel times leg by leg."
-- first and second are what the two texts say; an accepted one says something (`accepted_read`)
pub record TwoAccepted (S : Stated) (x : Texts) (a b : List ℕ) (t : Tables) (c d : List ℕ) : Type 0 where
  pub first_accepted : (checked S x a t c).answer ≡ Accepted
  pub second_accepted : (checked S x b t d).answer ≡ Accepted
  pub first : Whole
  pub first_read : all_read S x a (rooms_of t) (length c) ≡ good first
  pub second : Whole
  pub second_read : all_read S x b (rooms_of t) (length d) ≡ good second
  pub same_travel : SameTravel first.choices second.choices

-- a merge of them to the choices cs: "both are written and accepted"
pub record MergedTo (cs : List Configuration) (f : Files) (S : Stated) (x : Texts) (t : Tables) (c : List ℕ) (m : Merged) : Type 0 where
  pub answer : m.answer ≡ Accepted
  -- the text is written: the draft's rows with these choices
  pub written : take m.length m.text ≡ text_of (chosen f.rows cs)
  -- it reads as these choices
  pub read : all_read S x (take m.length m.text) (rooms_of t) (length c) ≡ good (record { files = f; choices = cs })
  -- and it is accepted against the same files
  pub accepted : (checked S x (take m.length m.text) t c).answer ≡ Accepted

-- the written text fits the lent buffer; the text limit always suffices
abbrev pub HasRoom : Files → List Configuration → (buffer : List ℕ) → Type 0
HasRoom f cs buffer = length (text_of (chosen f.rows cs)) ≤ length buffer

-- f: the files; s and r: the choices of the two solutions; e and l: the buffers for the two texts
module _ (f : Files) (s r : List Configuration) where
  -- "at every second, in every subnet, the two new power curves add up to the sum of the two old ones"
  abbrev pub CurvesAdd : Type 0
  CurvesAdd =
      let P : List Configuration → ℕ → ℕ → ℤ = power (samples_in f.curves) (homes_of f.document.tracks f.rows) in
      (subnet second : ℕ) → P (earlier s r) subnet second +ℤ P (later s r) subnet second ≡ P s subnet second +ℤ P r subnet second

  pub record DemandThree (S : Stated) (x : Texts) (a b : List ℕ) (t : Tables) (c d e l : List ℕ) : Type 0 where
    -- the earlier choice at each leg, the first file's at equal departures
    pub earlier_merge : HasRoom f (earlier s r) e → MergedTo (earlier s r) f S x t c (merged earlier S x a b t c d e)
    -- the later choice at each leg, the second file's at equal departures
    pub later_merge : HasRoom f (later s r) l → MergedTo (later s r) f S x t c (merged later S x a b t c d l)
    pub curves : CurvesAdd
    -- and so do the curve tables that a report hands back
    pub curve_tables : zipped ◌+ℤ◌ (curves_of S.horizon f (earlier s r)) (curves_of S.horizon f (later s r)) ≡ zipped ◌+ℤ◌ (curves_of S.horizon f s) (curves_of S.horizon f r)
