-- DEMAND 1, about the entries: one of three answers; after a refusal every table is emptied; and no field that stands otherwise is what empties it. Assumes nothing.
use Prim.Native.Nat.{ℕ}
use mathlib.Core.Path.{◌≡◌, sym, ap, ◌∙◌}
use mathlib.Core.List.{List}
use lib.ListN.{length}
use Rattle.rules.specs.Limits.{signed_fill, byte_fill}
use Rattle.rules.specs.Answers.{good, solution_file, second_file}
use Rattle.rules.specs.Reading.{Texts, Files, files_of, choices_read}
use Rattle.rules.specs.Merge.{merge_of}
use Rattle.rules.specs.Entries.{Tables, rooms_of, filled, written_tables, written_choices, no_figures, checked, Reported, reported, Merged, merged}
use Rattle.rules.specs.declared.stated.Stated.{Stated}
use Rattle.rules.specs.declared.sizes.Configuration.{Configuration}
use Rattle.rules.specs.declared.answers.Answer.{Answer}
use Rattle.rules.specs.declared.answers.Answer.TheVariants.{Accepted}
use Rattle.rules.specs.declared.outcomes.Direction.{Direction}
use Rattle.rules_theorems.specs.Outcomes.{SameRoom}
use Rattle.rules_theorems.specs.Demands.{IsRefused, EmptiedCheck, EmptiedReport, EmptiedMerge}
use Rattle.rules_theorems.proofs.GoodFiles.{all_good, both_good}
use Rattle.rules_theorems.proofs.OneOutcome.{one_outcome, check_own_input, report_own_input, merge_own_input}
use Rattle.rules_theorems.proofs.Fills.{no_field_is_fill, no_choice_is_fill, no_power_is_fill}
use Rattle.rules_theorems.proofs.DemandOne.{demand_one as check-one, report_demand_one, merge_demand_one}
use Rattle.checker_theorems.specs.Demands.{CheckOutcome, EnergyOutcome, MergeOutcome, Reads, BothRead, TablesRead, ChoicesStand, CurvesStand, CheckEnds, EnergyEnds, MergeEnds, DemandOne}
use Rattle.checker_theorems.proofs.Answers.{check-read, check-tables, check-choices, report-read, report_short, report_stands, report_accepted_lem, report-laid, merge_read, merge_short, merge_stands}

-- an answer that equals another is refused where that is
pub refused_as_lem : {a b : Answer} → a ≡ b → IsRefused a → IsRefused b
refused_as_lem e h = (h.0, sym e ∙ h.1)

-- what was read, and that no field of it fills a table
module _ (S : Stated) (x : Texts) (t : Tables) (f : Files) (read : files_of S x (rooms_of t) ≡ good f) where
  tables-read : {left : Tables} → left ≡ written_tables f t → TablesRead f t left
  tables-read e = (e, no_field_is_fill S x (rooms_of t) f read)

  choices_stand : (file : ℕ) (c text : List ℕ) (cs : List Configuration) {left : List ℕ} → choices_read S.horizon f file (length c) text ≡ good cs
      → left ≡ written_choices cs c → ChoicesStand cs c left
  choices_stand file c text cs k e = (e, no_choice_is_fill S x (rooms_of t) f read file (length c) text cs k)

module _ {S : Stated} {x : Texts} where
  check_ends : {solution : List ℕ} (k : CheckOutcome S x solution) → CheckEnds k
  check_ends {solution} k =
      record {
        one_of_three = one_outcome k.result.answer;
        no_tests_lem = λ h. k.keeps.tally ∙ (emptied h).tally;
        tables_emptied = λ h. k.keeps.tables ∙ (emptied h).tables;
        choices_emptied = λ h. k.keeps.choices ∙ (emptied h).choices;
        otherwise = stands;
      }
    where
      emptied : IsRefused k.result.answer → EmptiedCheck k.lent k.lent_choices (checked S x solution k.lent k.lent_choices)
      emptied h = (check-one S x solution k.lent k.lent_choices).emptied (refused_as_lem k.keeps.answer h)

      stands : (IsRefused k.result.answer → ⊥)
          → (f : Files) × (cs : List Configuration) × Reads S x solution k.lent k.lent_choices f cs × TablesRead f k.lent k.tables × ChoicesStand cs k.lent_choices k.choices
      stands n =
          let w = check-read S x solution k.lent k.lent_choices (λ h. n (refused_as_lem (sym k.keeps.answer) h)) in
          let read = all_good S x solution (rooms_of k.lent) (length k.lent_choices) w.0 w.1 in (
            w.0.files,
            w.0.choices,
            w.1,
            tables-read S x k.lent w.0.files read.0 (k.keeps.tables ∙ check-tables S x solution k.lent k.lent_choices w.0 w.1),
            choices_stand S x k.lent w.0.files read.0 solution_file k.lent_choices solution w.0.choices read.1
                (k.keeps.choices ∙ check-choices S x solution k.lent k.lent_choices w.0 w.1),
          )

  energy_ends : {solution : List ℕ} (k : EnergyOutcome S x solution) → EnergyEnds k
  energy_ends {solution} k =
      record {
        one_of_three = one_outcome k.result.answer;
        no_tests_lem = λ h. k.keeps.tally ∙ (emptied h).tally;
        tables_emptied = λ h. k.keeps.tables ∙ (emptied h).tables;
        choices_emptied = λ h. k.keeps.choices ∙ (emptied h).choices;
        curves_emptied = λ n. k.keeps.curves ∙ (short n).0;
        no_figures_lem = λ n. k.keeps.figures ∙ (short n).1;
        otherwise = stands;
      }
    where
      said : Reported
      said = reported S x solution k.lent k.lent_choices k.lent_curves

      emptied : IsRefused k.result.answer → EmptiedReport k.lent k.lent_choices k.lent_curves said
      emptied h = (report_demand_one S x solution k.lent k.lent_choices k.lent_curves).emptied (refused_as_lem k.keeps.answer h)

      short : (k.result.answer ≡ Accepted → ⊥) → (said.curves ≡ filled signed_fill k.lent_curves) × (said.figures ≡ no_figures)
      short n = report_short S x solution k.lent k.lent_choices k.lent_curves (λ h. n (k.keeps.answer ∙ h))

      stands : (IsRefused k.result.answer → ⊥)
          → (f : Files) × (cs : List Configuration) × Reads S x solution k.lent k.lent_choices f cs × TablesRead f k.lent k.tables × ChoicesStand cs k.lent_choices k.choices
          × (k.result.answer ≡ Accepted → CurvesStand S.horizon f cs k.lent_curves k.curves)
      stands n =
          let not_refused : IsRefused said.answer → ⊥ = λ h. n (refused_as_lem (sym k.keeps.answer) h) in
          let w = report-read S x solution k.lent k.lent_choices k.lent_curves not_refused in
          let read = all_good S x solution (rooms_of k.lent) (length k.lent_choices) w.0 w.1 in
          let left = report_stands S x solution k.lent k.lent_choices k.lent_curves w.0 w.1 not_refused in (
            w.0.files,
            w.0.choices,
            w.1,
            tables-read S x k.lent w.0.files read.0 (k.keeps.tables ∙ left.0),
            choices_stand S x k.lent w.0.files read.0 solution_file k.lent_choices solution w.0.choices read.1 (k.keeps.choices ∙ left.1),
            λ h.
                let fair = ((report_accepted_lem S x solution k.lent k.lent_choices k.lent_curves w.0 w.1).0 (sym k.keeps.answer ∙ h)).0 in (
                  k.keeps.curves ∙ ap (λ (q : Reported). q.curves) (report-laid S x solution k.lent k.lent_choices k.lent_curves w.0 w.1 (sym k.keeps.answer ∙ h)),
                  no_power_is_fill S x solution (rooms_of k.lent) (length k.lent_choices) w.0 w.1 fair,
                ),
          )

  merge_ends : {direction : Direction} {a b : List ℕ} (k : MergeOutcome direction S x a b) → MergeEnds k
  merge_ends {direction} {a} {b} k =
      record {
        one_of_three = one_outcome k.result.answer;
        no_tests_lem = λ h. k.keeps.tally ∙ (emptied h).tally;
        tables_emptied = λ h. k.keeps.tables ∙ (emptied h).tables;
        choices_emptied = λ h. k.keeps.choices ∙ (emptied h).choices;
        second_emptied = λ h. k.keeps.second ∙ (emptied h).second;
        text_emptied = λ n. k.keeps.text ∙ (short n).0;
        no_length = λ n. k.keeps.length ∙ (short n).1;
        otherwise = stands;
      }
    where
      said : Merged
      said = merged (merge_of direction) S x a b k.lent k.lent_choices k.lent_second k.lent_text

      emptied : IsRefused k.result.answer → EmptiedMerge k.lent k.lent_choices k.lent_second k.lent_text said
      emptied h = (merge_demand_one S x a k.lent k.lent_choices (merge_of direction) b k.lent_second k.lent_text).emptied (refused_as_lem k.keeps.answer h)

      short : (k.result.answer ≡ Accepted → ⊥) → (said.text ≡ filled byte_fill k.lent_text) × (said.length ≡ 0)
      short n = merge_short (merge_of direction) S x a b k.lent k.lent_choices k.lent_second k.lent_text (λ h. n (k.keeps.answer ∙ h))

      stands : (IsRefused k.result.answer → ⊥)
          → (f : Files) × (s : List Configuration) × (r : List Configuration) × BothRead S x a b k.lent k.lent_choices k.lent_second f s r × TablesRead f k.lent k.tables × ChoicesStand s k.lent_choices k.choices
          × ChoicesStand r k.lent_second k.second
      stands n =
          let not_refused : IsRefused said.answer → ⊥ = λ h. n (refused_as_lem (sym k.keeps.answer) h) in
          let w = merge_read (merge_of direction) S x a b k.lent k.lent_choices k.lent_second k.lent_text not_refused in
          let read = both_good S x a b (rooms_of k.lent) (length k.lent_choices) (length k.lent_second) w.0 w.1 in
          let left = merge_stands (merge_of direction) S x a b k.lent k.lent_choices k.lent_second k.lent_text w.0 w.1 not_refused in (
            w.0.files,
            w.0.first,
            w.0.second,
            w.1,
            tables-read S x k.lent w.0.files read.0 (k.keeps.tables ∙ left.0),
            choices_stand S x k.lent w.0.files read.0 solution_file k.lent_choices a w.0.first read.1 (k.keeps.choices ∙ left.1),
            choices_stand S x k.lent w.0.files read.0 second_file k.lent_second b w.0.second read.2 (k.keeps.second ∙ left.2),
          )

  -- ---- what the tables held before does not count

  check-same : {solution : List ℕ} (k l : CheckOutcome S x solution) → SameRoom k.lent l.lent k.lent_choices l.lent_choices → k.result ≡ l.result
  check-same {solution} k l room =
      let one = check_own_input S x solution k.lent l.lent k.lent_choices l.lent_choices room in
      let answer : k.result.answer ≡ l.result.answer = k.keeps.answer ∙ one.answer ∙ sym l.keeps.answer in
      let tally : k.result.tally ≡ l.result.tally = k.keeps.tally ∙ one.tally ∙ sym l.keeps.tally in
      λ i. record { answer = answer i; tally = tally i }

  energy_same : {solution : List ℕ} (k l : EnergyOutcome S x solution) → SameRoom k.lent l.lent k.lent_choices l.lent_choices
      → length k.lent_curves ≡ length l.lent_curves → k.result ≡ l.result
  energy_same {solution} k l room curves =
      let one = report_own_input S x solution k.lent l.lent k.lent_choices l.lent_choices k.lent_curves l.lent_curves room curves in
      let answer : k.result.answer ≡ l.result.answer = k.keeps.answer ∙ one.answer ∙ sym l.keeps.answer in
      let tally : k.result.tally ≡ l.result.tally = k.keeps.tally ∙ one.tally ∙ sym l.keeps.tally in
      let figures : k.result.figures ≡ l.result.figures = k.keeps.figures ∙ one.figures ∙ sym l.keeps.figures in
      let desk : k.result.desk ≡ l.result.desk = k.keeps.desk ∙ one.desk ∙ sym l.keeps.desk in
      λ i. record { answer = answer i; tally = tally i; figures = figures i; desk = desk i }

  merge_same : {direction : Direction} {a b : List ℕ} (k l : MergeOutcome direction S x a b) → SameRoom k.lent l.lent k.lent_choices l.lent_choices
      → length k.lent_second ≡ length l.lent_second → length k.lent_text ≡ length l.lent_text → k.result ≡ l.result
  merge_same {direction} {a} {b} k l room second text =
      let one =
      merge_own_input S x a (merge_of direction) b k.lent l.lent k.lent_choices l.lent_choices k.lent_second l.lent_second k.lent_text l.lent_text
      room second text in
      let answer : k.result.answer ≡ l.result.answer = k.keeps.answer ∙ one.answer ∙ sym l.keeps.answer in
      let tally : k.result.tally ≡ l.result.tally = k.keeps.tally ∙ one.tally ∙ sym l.keeps.tally in
      let size : k.result.length ≡ l.result.length = k.keeps.length ∙ one.length ∙ sym l.keeps.length in
      λ i. record { answer = answer i; tally = tally i; length = size i }

-- THE DEMAND
pub demand_one : (S : Stated) (x : Texts) → DemandOne S x
demand_one S x =
    record { check = check_ends; energy = energy_ends; merge = merge_ends; check_own = check-same; energy_own = energy_same; merge_own = merge_same }
