-- Over tables that hold the files and the choices, the walk's verdict is the verdict of the files. Assumes nothing.
use Prim.Native.Nat.{ℕ}
use mathlib.Core.Path.{◌≡◌, sym, ap, ap₂, ◌∙◌, subst}
use mathlib.Core.List.{List}
use lib.ListN.{length}
use Rattle.rules.specs.Constraints.{ordered}
use Rattle.rules.specs.Reading.{Files}
use Rattle.rules.specs.Verdict.{offered, verdict, ruling}
use Rattle.rules.specs.Entries.{Tables, written_tables, written_choices, verdict_of}
use Rattle.rules.specs.declared.sizes.Configuration.{Configuration}
use Rattle.tables_views.specs.View.{offers_in, constraints_in, configurations_in}
use Rattle.tables_views.proofs.Views.{constraints-written, configurations_written}
use Rattle.tables_views.proofs.Offers.{offers-written}
use Rattle.verdict.specs.Within.{Within}

-- n rows and m records, as the readers count them
module _ (files : Files) (choices : List Configuration) (t : Tables) (c : List ℕ)
    (n m : ℕ) (rows : length files.rows ≡ n) (chosen : length choices ≡ n) (records : length (ordered files.document.constraints) ≡ m) where
  abbrev w : Tables
  w = written_tables files t

  records_seen : constraints_in m w.constraints ≡ ordered files.document.constraints
  records_seen =
      subst (λ k. constraints_in k w.constraints ≡ ordered files.document.constraints) records
      (constraints-written (ordered files.document.constraints) t.constraints)

  choices_seen : configurations_in n (written_choices choices c) ≡ choices
  choices_seen = subst (λ k. configurations_in k (written_choices choices c) ≡ choices) chosen (configurations_written choices c)

  -- THE JOIN: what `judge` rules over these tables is the verdict of the entries' definition
  pub verdict-written : (file : ℕ)
      → ruling file (verdict (offers_in n w.legs w.configurations) (constraints_in m w.constraints) (configurations_in n (written_choices choices c)))
      ≡ ruling file (verdict_of files choices)
  verdict-written file =
      ap (λ k. ruling file (verdict (offers_in k w.legs w.configurations) (constraints_in m w.constraints) (configurations_in n (written_choices choices c)))) (sym rows)
      ∙ ap (λ o. ruling file (verdict o (constraints_in m w.constraints) (configurations_in n (written_choices choices c))))
      (offers-written files.rows t.legs t.configurations)
      ∙ ap₂ (λ cs s. ruling file (verdict (offered files.rows) cs s)) records_seen choices_seen

  -- the tables keep the limits where the lists do
  pub within_written : Within (ordered files.document.constraints) choices
      → Within (constraints_in m w.constraints) (configurations_in n (written_choices choices c))
  within_written within =
      subst (λ cs. Within cs (configurations_in n (written_choices choices c))) (sym records_seen)
      (subst (Within (ordered files.document.constraints)) (sym choices_seen) within)
