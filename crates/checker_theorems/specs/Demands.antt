-- THE THREE DEMANDS, about the entries: they hold of any outcomes that keep the promises of `check`, `energy` and `merge` (`Promises` in `rules`), whatever was lent to each call.
use Rattle.std.specs.Prelude.{ℕ, ◌+◌, ◌*◌, ◌/◌, ◌≤◌, ◌<◌, ◌≡◌, List, ◌↔◌, ◌⊎◌, length, take, get_or, ℤ, pos, ◌+ℤ◌}
use Rattle.rules.specs.Limits.{configuration_width, unsigned_fill, signed_fill, byte_fill}
use Rattle.rules.specs.Lists.{flat, over}
use Rattle.rules.specs.Answers.{good, solution_file, second_file}
use Rattle.rules.specs.Timetable.{configuration_numbers}
use Rattle.rules.specs.Constraints.{ordered}
use Rattle.rules.specs.Reading.{Texts, Files, files_of}
use Rattle.rules.specs.Tally.{no_tests}
use Rattle.rules.specs.Verdict.{offered, Acceptable, Test, tests, shown_in}
use Rattle.rules.specs.Energy.{samples_in, homes_of, power, figures_of, curves_of}
use Rattle.rules.specs.Merge.{merge_of, SameTravel, chosen, text_of}
use Rattle.rules.specs.Entries.{Tables, rooms_of, filled, filled_tables, written_tables, written_choices, no_figures, all_read, both_read}
use Rattle.rules.specs.Promises.{Checks, Reports, Merges}
use Rattle.rules.specs.declared.stated.Stated.{Stated}
use Rattle.rules.specs.declared.sizes.Configuration.{Configuration}
use Rattle.rules.specs.declared.answers.Violation.{Violation}
use Rattle.rules.specs.declared.answers.Answer.TheVariants.{Accepted, Violated}
use Rattle.rules.specs.declared.outcomes.Checked.{Checked}
use Rattle.rules.specs.declared.outcomes.Report.{Report}
use Rattle.rules.specs.declared.outcomes.Merged.{Merged}
use Rattle.rules.specs.declared.outcomes.Direction.{Direction}
use Rattle.rules.specs.declared.outcomes.Direction.TheVariants.{Earlier, Later}
use Rattle.rules_theorems.specs.Tests.{FirstFailing, Numbered}
use Rattle.rules_theorems.specs.Outcomes.{Outcome, SameRoom}
use Rattle.rules_theorems.specs.Demands.{IsRefused, CountsTests, NoFieldIsFill, NoChoiceIsFill, NoPowerIsFill, HasRoom}

-- ---- an outcome of a call: what was lent, what it gave back, and what was lent, as it is left

pub record CheckOutcome (S : Stated) (x : Texts) (solution : List ℕ) : Type 0 where
  pub lent : Tables
  pub lent_choices : List ℕ
  pub result : Checked
  pub tables : Tables
  pub choices : List ℕ
  pub keeps : Checks S x solution lent lent_choices result tables choices

pub record EnergyOutcome (S : Stated) (x : Texts) (solution : List ℕ) : Type 0 where
  pub lent : Tables
  pub lent_choices : List ℕ
  pub lent_curves : List ℤ
  pub result : Report
  pub tables : Tables
  pub choices : List ℕ
  pub curves : List ℤ
  pub keeps : Reports S x solution lent lent_choices lent_curves result tables choices curves

pub record MergeOutcome (direction : Direction) (S : Stated) (x : Texts) (a b : List ℕ) : Type 0 where
  pub lent : Tables
  pub lent_choices : List ℕ
  pub lent_second : List ℕ
  pub lent_text : List ℕ
  pub result : Merged
  pub tables : Tables
  pub choices : List ℕ
  pub second : List ℕ
  pub text : List ℕ
  pub keeps : Merges direction S x a b lent lent_choices lent_second lent_text result tables choices second text

-- ---- what the texts say, read into this room: f is what the files say, cs, s and r are solutions' choices

module _ (S : Stated) (x : Texts) where
  abbrev pub Reads : (solution : List ℕ) → Tables → (choices : List ℕ) → Files → List Configuration → Type 0
  Reads solution t c f cs = all_read S x solution (rooms_of t) (length c) ≡ good (record { files = f; choices = cs })

  abbrev pub BothRead : (a b : List ℕ) → Tables → (choices second : List ℕ) → Files → (s r : List Configuration) → Type 0
  BothRead a b t c d f s r = both_read S x a b (rooms_of t) (length c) (length d) ≡ good (record { files = f; first = s; second = r })

-- ---- DEMAND 1: "Any bytes in any of the files end in one of three answers: accepted, the first violation, or a numbered refusal",
-- "after a refusal each lent table holds only a number that no field can have"

-- what was read stands at a table's front, and no field of it is the number that fills the table after a refusal
abbrev pub TablesRead : Files → (lent left : Tables) → Type 0
TablesRead f lent left = (left ≡ written_tables f lent) × NoFieldIsFill f

abbrev pub ChoicesStand : List Configuration → (lent left : List ℕ) → Type 0
ChoicesStand cs lent left = (left ≡ written_choices cs lent) × NoChoiceIsFill cs

abbrev pub CurvesStand : (H : ℕ) → Files → List Configuration → (lent left : List ℤ) → Type 0
CurvesStand H f cs lent left = (left ≡ over (curves_of H f cs) lent) × NoPowerIsFill H f cs

module _ {S : Stated} {x : Texts} where
  pub record CheckEnds {solution : List ℕ} (k : CheckOutcome S x solution) : Type 0 where
    pub one_of_three : Outcome k.result.answer
    pub no_tests_lem : IsRefused k.result.answer → k.result.tally ≡ no_tests
    pub tables_emptied : IsRefused k.result.answer → k.tables ≡ filled_tables k.lent
    pub choices_emptied : IsRefused k.result.answer → k.choices ≡ filled unsigned_fill k.lent_choices
    pub otherwise : (IsRefused k.result.answer → ⊥) → (f : Files) × (cs : List Configuration)
        × Reads S x solution k.lent k.lent_choices f cs × TablesRead f k.lent k.tables × ChoicesStand cs k.lent_choices k.choices

  -- short of acceptance there are no figures, and the curve table holds only such a number
  pub record EnergyEnds {solution : List ℕ} (k : EnergyOutcome S x solution) : Type 0 where
    pub one_of_three : Outcome k.result.answer
    pub no_tests_lem : IsRefused k.result.answer → k.result.tally ≡ no_tests
    pub tables_emptied : IsRefused k.result.answer → k.tables ≡ filled_tables k.lent
    pub choices_emptied : IsRefused k.result.answer → k.choices ≡ filled unsigned_fill k.lent_choices
    pub curves_emptied : (k.result.answer ≡ Accepted → ⊥) → k.curves ≡ filled signed_fill k.lent_curves
    pub no_figures_lem : (k.result.answer ≡ Accepted → ⊥) → k.result.figures ≡ no_figures
    pub otherwise : (IsRefused k.result.answer → ⊥) → (f : Files) × (cs : List Configuration)
        × Reads S x solution k.lent k.lent_choices f cs × TablesRead f k.lent k.tables × ChoicesStand cs k.lent_choices k.choices
        × (k.result.answer ≡ Accepted → CurvesStand S.horizon f cs k.lent_curves k.curves)

  -- short of acceptance no text is left
  pub record MergeEnds {direction : Direction} {a b : List ℕ} (k : MergeOutcome direction S x a b) : Type 0 where
    pub one_of_three : Outcome k.result.answer
    pub no_tests_lem : IsRefused k.result.answer → k.result.tally ≡ no_tests
    pub tables_emptied : IsRefused k.result.answer → k.tables ≡ filled_tables k.lent
    pub choices_emptied : IsRefused k.result.answer → k.choices ≡ filled unsigned_fill k.lent_choices
    pub second_emptied : IsRefused k.result.answer → k.second ≡ filled unsigned_fill k.lent_second
    pub text_emptied : (k.result.answer ≡ Accepted → ⊥) → k.text ≡ filled byte_fill k.lent_text
    pub no_length : (k.result.answer ≡ Accepted → ⊥) → k.result.length ≡ 0
    pub otherwise : (IsRefused k.result.answer → ⊥) → (f : Files) × (s : List Configuration) × (r : List Configuration)
        × BothRead S x a b k.lent k.lent_choices k.lent_second f s r × TablesRead f k.lent k.tables × ChoicesStand s k.lent_choices k.choices × ChoicesStand r k.lent_second k.second

pub record DemandOne (S : Stated) (x : Texts) : Type 0 where
  pub check : {solution : List ℕ} (k : CheckOutcome S x solution) → CheckEnds k
  pub energy : {solution : List ℕ} (k : EnergyOutcome S x solution) → EnergyEnds k
  pub merge : {direction : Direction} {a b : List ℕ} (k : MergeOutcome direction S x a b) → MergeEnds k
  -- "Every public entry judges its own input": the texts, and how much was lent; what the tables held before does not count
  pub check_own : {solution : List ℕ} (k l : CheckOutcome S x solution) → SameRoom k.lent l.lent k.lent_choices l.lent_choices → k.result ≡ l.result
  pub energy_own : {solution : List ℕ} (k l : EnergyOutcome S x solution) → SameRoom k.lent l.lent k.lent_choices l.lent_choices
      → length k.lent_curves ≡ length l.lent_curves → k.result ≡ l.result
  pub merge_own : {direction : Direction} {a b : List ℕ} (k l : MergeOutcome direction S x a b) → SameRoom k.lent l.lent k.lent_choices l.lent_choices
      → length k.lent_second ≡ length l.lent_second → length k.lent_text ≡ length l.lent_text → k.result ≡ l.result

-- ---- DEMAND 2: "once every file reads"

-- "each leg's choice is offered in the draft and every headway, single-track, dwell, turnaround and connection inequality holds"
abbrev pub AcceptableIn : Files → List Configuration → Type 0
AcceptableIn f cs = Acceptable (offered f.rows) f.document.constraints cs

-- "the first failure in the fixed order is named with its shortfall in seconds": the test that fails, as it is shown, with the file that it lies in
pub record FirstFailure (f : Files) (cs : List Configuration) (file : ℕ) (v : Violation) : Type 0 where
  pub named : Test
  pub first : FirstFailing (tests (offered f.rows) (ordered f.document.constraints) cs) named
  pub shown : v ≡ shown_in file named
  pub numbered : Numbered v.kind v.inequality v.shortfall

-- the curve table takes every second of every subnet
abbrev pub CurvesFit : (H : ℕ) → Files → List ℤ → Type 0
CurvesFit H f curves = f.document.opened * H ≤ length curves

-- the lent tables take the files, and a choice table takes a choice for each row
abbrev pub TakesChoices : Files → List ℕ → Type 0
TakesChoices f c = length f.rows ≤ length c / configuration_width

pub record Room (S : Stated) (x : Texts) (f : Files) (t : Tables) (c : List ℕ) : Type 0 where
  pub tables : files_of S x (rooms_of t) ≡ good f
  pub choices : TakesChoices f c

-- what a merge wrote
abbrev pub written_by : {direction : Direction} {S : Stated} {x : Texts} {a b : List ℕ} → MergeOutcome direction S x a b → List ℕ
written_by k = take k.result.length k.text

-- the power of a subnet at a second, in kW, as a report lays it
abbrev pub power_at : {S : Stated} {x : Texts} {solution : List ℕ} → EnergyOutcome S x solution → (subnet second : ℕ) → ℤ
power_at {S} k subnet second = get_or k.curves (subnet * S.horizon + second) (pos 0)

-- "What we write reads back as the same choices": `check` accepts the text, and its choice table begins with their numbers
abbrev pub ReadsBack : Stated → Texts → Files → List Configuration → (text : List ℕ) → Type 0
ReadsBack S x f cs text =
    (k : CheckOutcome S x text) → Room S x f k.lent k.lent_choices
    → (k.result.answer ≡ Accepted) × (take (length (flat configuration_numbers cs)) k.choices ≡ flat configuration_numbers cs)

module _ {S : Stated} {x : Texts} where
  pub record CheckJudges {solution : List ℕ} (k : CheckOutcome S x solution) (f : Files) (cs : List Configuration) : Type 0 where
    pub accepted : (k.result.answer ≡ Accepted) ↔ AcceptableIn f cs
    pub violated : (v : Violation) → (k.result.answer ≡ Violated v) ↔ FirstFailure f cs solution_file v
    pub not_refused : IsRefused k.result.answer → ⊥
    pub counted : CountsTests f cs k.result.tally

  -- "Energies are exact whole kilojoules by document 01"
  pub record EnergyJudges {solution : List ℕ} (k : EnergyOutcome S x solution) (f : Files) (cs : List Configuration) : Type 0 where
    pub accepted : (k.result.answer ≡ Accepted) ↔ (AcceptableIn f cs × CurvesFit S.horizon f k.lent_curves)
    pub violated : (v : Violation) → (k.result.answer ≡ Violated v) ↔ FirstFailure f cs solution_file v
    pub not_refused : CurvesFit S.horizon f k.lent_curves → IsRefused k.result.answer → ⊥
    pub counted : (IsRefused k.result.answer → ⊥) → CountsTests f cs k.result.tally
    pub energies : k.result.answer ≡ Accepted → k.result.figures ≡ figures_of S.horizon f cs
    pub powers : k.result.answer ≡ Accepted → (subnet second : ℕ) → subnet < f.document.opened → second < S.horizon
        → power_at k subnet second ≡ power (samples_in f.curves) (homes_of f.document.tracks f.rows) cs subnet second

  -- a violation lies in the first solution, or else in the second
  pub record MergeJudges {direction : Direction} {a b : List ℕ} (k : MergeOutcome direction S x a b) (f : Files) (s r : List Configuration) : Type 0 where
    pub accepted : (k.result.answer ≡ Accepted) ↔ (AcceptableIn f s × AcceptableIn f r × SameTravel s r × HasRoom f (merge_of direction s r) k.lent_text)
    pub violated : (v : Violation) → (k.result.answer ≡ Violated v) ↔ (FirstFailure f s solution_file v ⊎ (AcceptableIn f s × FirstFailure f r second_file v))
    pub not_refused : SameTravel s r → HasRoom f (merge_of direction s r) k.lent_text → IsRefused k.result.answer → ⊥
    -- the tests of the solution that it lies in; a text that is written counts none
    pub counted : (v : Violation) → k.result.answer ≡ Violated v
        → (FirstFailure f s solution_file v × CountsTests f s k.result.tally) ⊎ (AcceptableIn f s × FirstFailure f r second_file v × CountsTests f r k.result.tally)
    pub uncounted : k.result.answer ≡ Accepted → k.result.tally ≡ no_tests
    pub written : k.result.answer ≡ Accepted → written_by k ≡ text_of (chosen f.rows (merge_of direction s r))
    pub reads_back : k.result.answer ≡ Accepted → ReadsBack S x f (merge_of direction s r) (written_by k)

pub record DemandTwo (S : Stated) (x : Texts) (f : Files) : Type 0 where
  pub check : {solution : List ℕ} {cs : List Configuration} (k : CheckOutcome S x solution)
      → Reads S x solution k.lent k.lent_choices f cs → CheckJudges k f cs
  pub energy : {solution : List ℕ} {cs : List Configuration} (k : EnergyOutcome S x solution)
      → Reads S x solution k.lent k.lent_choices f cs → EnergyJudges k f cs
  pub merge : {direction : Direction} {a b : List ℕ} {s r : List Configuration} (k : MergeOutcome direction S x a b)
      → BothRead S x a b k.lent k.lent_choices k.lent_second f s r → MergeJudges k f s r

-- ---- DEMAND 3: "Take two solutions, both accepted against the same files, with equal travel times leg by leg."

-- `check` accepts a solution, in whatever room: f is what the files say, and they say one thing in any room (`files_alike`); cs are its choices
pub record Accepts (S : Stated) (x : Texts) (solution : List ℕ) (f : Files) (cs : List Configuration) : Type 0 where
  pub outcome : CheckOutcome S x solution
  pub accepted : outcome.result.answer ≡ Accepted
  pub reads : Reads S x solution outcome.lent outcome.lent_choices f cs

module _ {direction : Direction} {S : Stated} {x : Texts} {a b : List ℕ} (k : MergeOutcome direction S x a b) (f : Files) (cs : List Configuration) where
  -- "If the lent room and text limit suffice": the text limit always does
  pub record Suffices : Type 0 where
    pub room : Room S x f k.lent k.lent_choices
    pub second : TakesChoices f k.lent_second
    pub text : HasRoom f cs k.lent_text

  -- the choices cs were written: the draft's rows with them
  pub record Wrote : Type 0 where
    pub accepted : k.result.answer ≡ Accepted
    pub written : written_by k ≡ text_of (chosen f.rows cs)

-- "Build one from the earlier choice at each leg (the first file's at equal departures) and one from the later (the second file's at equal departures)": `merge_of`
pub record MergesHold (S : Stated) (x : Texts) (a b : List ℕ) (f : Files) (s r : List Configuration) : Type 0 where
  -- "both are written and accepted": by the merge itself, and where the text is read again, by `check` and by `energy`
  pub written : {direction : Direction} (m : MergeOutcome direction S x a b) → Suffices m f (merge_of direction s r) → Wrote m f (merge_of direction s r)
  pub check_accepts : {direction : Direction} (m : MergeOutcome direction S x a b) → m.result.answer ≡ Accepted → ReadsBack S x f (merge_of direction s r) (written_by m)
  pub energy_accepts : {direction : Direction} (m : MergeOutcome direction S x a b) → m.result.answer ≡ Accepted
      → (k : EnergyOutcome S x (written_by m)) → Room S x f k.lent k.lent_choices → CurvesFit S.horizon f k.lent_curves → k.result.answer ≡ Accepted
  -- "at every second, in every subnet, the two new power curves add up to the sum of the two old ones": of any four reports that are accepted
  pub add_up : (m : MergeOutcome Earlier S x a b) (n : MergeOutcome Later S x a b) → m.result.answer ≡ Accepted → n.result.answer ≡ Accepted
      → (new₁ : EnergyOutcome S x (written_by m)) (new₂ : EnergyOutcome S x (written_by n)) (old₁ : EnergyOutcome S x a) (old₂ : EnergyOutcome S x b)
      → new₁.result.answer ≡ Accepted → new₂.result.answer ≡ Accepted → old₁.result.answer ≡ Accepted → old₂.result.answer ≡ Accepted
      → (subnet second : ℕ) → subnet < f.document.opened → second < S.horizon
      → power_at new₁ subnet second +ℤ power_at new₂ subnet second ≡ power_at old₁ subnet second +ℤ power_at old₂ subnet second
  -- document 01's absorption: "Merging A earlier with (A later with B) gives A's choices; so does A later with (A earlier with B)"
  pub earlier_absorbs : (n : MergeOutcome Later S x a b) → n.result.answer ≡ Accepted → (m : MergeOutcome Earlier S x a (written_by n)) → Suffices m f s → Wrote m f s
  pub later_absorbs : (m : MergeOutcome Earlier S x a b) → m.result.answer ≡ Accepted → (n : MergeOutcome Later S x a (written_by m)) → Suffices n f s → Wrote n f s

abbrev pub DemandThree : (S : Stated) (x : Texts) (a b : List ℕ) (f : Files) (s r : List Configuration) → Type 0
DemandThree S x a b f s r = Accepts S x a f s → Accepts S x b f r → SameTravel s r → MergesHold S x a b f s r
