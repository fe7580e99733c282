-- The verdict over the tables that the files and a solution left is the verdict of the files and the choices. Assumes nothing.
use Prim.Native.Nat.{ℕ}
use mathlib.Core.Path.{◌≡◌, sym, ap, ◌∙◌, subst}
use mathlib.Core.List.{List}
use lib.ListN.{length}
use Rattle.rules.specs.Answers.{good}
use Rattle.rules.specs.Reading.{choices_read}
use Rattle.rules.specs.Verdict.{verdict, ruling}
use Rattle.rules.specs.Entries.{Tables, rooms_of, written_tables, verdict_of}
use Rattle.rules.specs.declared.answers.Ruling.{Ruling}
use Rattle.tables_views.specs.View.{offers_in, constraints_in, configurations_in}
use Rattle.verdict.specs.Within.{Within}
use Rattle.verdict.proofs.GoodReading.{tables_within, tables_judged}
use Rattle.tables_lent.specs.declared.Counts.{Counts}
use Rattle.solution_verdict.specs.Left.{Ready, Judges}

module _ {counts : Counts} {legs configurations constraints choices : List ℕ} (k : Ready counts legs configurations constraints choices) where
  abbrev n : ℕ
  n = counts.legs

  abbrev m : ℕ
  m = counts.constraints

  abbrev written : Tables
  written = written_tables k.tables.left.files k.tables.left.lent

  rows : length k.tables.left.files.rows ≡ n
  rows = ap (λ (c : Counts). c.legs) (sym k.tables.left.counted)

  records : length k.tables.left.files.document.constraints ≡ m
  records = ap (λ (c : Counts). c.constraints) (sym k.tables.left.counted)

  chosen-read : choices_read k.tables.left.stated.horizon k.tables.left.files k.file k.room k.text ≡ good k.chosen
  chosen-read = rw k.tables.left.at k.read

  pub judge_able : Within (constraints_in m constraints) (configurations_in n choices)
  judge_able =
      let l = k.tables.left in
      subst (λ t. Within (constraints_in m t) (configurations_in n choices)) (sym k.tables.constraints_are)
      (subst (λ t. Within (constraints_in m written.constraints) (configurations_in n t)) (sym k.choices_are)
      (tables_within l.stated l.texts (rooms_of l.lent) l.files l.read k.file k.room k.text k.chosen chosen-read l.lent k.lent n m rows records))

  judged : (file : ℕ) → ruling file (verdict (offers_in n legs configurations) (constraints_in m constraints) (configurations_in n choices))
      ≡ ruling file (verdict_of k.tables.left.files k.chosen)
  judged file =
      let l = k.tables.left in
      (λ j. ruling file (verdict (offers_in n (k.tables.legs_are_lem j) (k.tables.configurations_are_lem j)) (constraints_in m (k.tables.constraints_are j)) (configurations_in n (k.choices_are j))))
      ∙ tables_judged l.stated l.texts (rooms_of l.lent) l.files l.read k.file k.room k.text k.chosen chosen-read l.lent k.lent n m rows records file

pub judge_right : {counts : Counts} {legs configurations constraints choices : List ℕ} (file : ℕ) {r : Ruling}
    → r ≡ ruling file (verdict (offers_in counts.legs legs configurations) (constraints_in counts.constraints constraints) (configurations_in counts.legs choices))
    → Judges counts legs configurations constraints choices file r
judge_right file e k = e ∙ judged k file
