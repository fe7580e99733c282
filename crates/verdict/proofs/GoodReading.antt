-- What is read without refusal keeps the limits that the walk asks for, and has a choice for each row. Assumes nothing.
use Prim.Native.Nat.{ℕ, ◌/◌, ◌≤◌}
use native.Mathlib.Omega.{arith}
use mathlib.Core.Path.{◌≡◌, sym, ap, ◌∙◌, subst}
use mathlib.Core.List.{List}
use lib.ListN.{length, length-map}
use Rattle.rules.specs.Limits.{most_legs, constraint_width, track_width}
use Rattle.rules.specs.Answers.{good}
use Rattle.rules.specs.Timetable.{Row, choices_of}
use Rattle.rules.specs.Constraints.{ordered}
use Rattle.rules.specs.Stated.{rules_by}
use Rattle.rules.specs.Reading.{Rooms, Texts, Files, leg_ids, files_of, choices_read}
use Rattle.rules.specs.Verdict.{All, verdict, ruling}
use Rattle.rules.specs.Entries.{Tables, written_tables, written_choices, verdict_of}
use Rattle.rules.specs.declared.stated.Stated.{Stated}
use Rattle.rules.specs.declared.sizes.Configuration.{Configuration}
use Rattle.rules.proofs.Truth.{all_map}
use Rattle.rules_theorems.specs.LawfulDocument.{LawfulConstraint, LawfulDocument}
use Rattle.rules_theorems.specs.WellFormed.{KeptRow}
use Rattle.rules_theorems.proofs.All.{all_mapped}
use Rattle.rules_theorems.proofs.Documents.{good_is_lawful}
use Rattle.rules_theorems.specs.Files.{GoodChoices}
use Rattle.rules_theorems.proofs.GoodFiles.{files_good, chosen_many, choices_good}
use Rattle.rules_theorems.proofs.LawfulRows.{rows_kept, legs_most}
use Rattle.rules_theorems.proofs.Ordered.{ordered_keeps, table-length}
use Rattle.tables_views.specs.View.{offers_in, constraints_in, configurations_in}
use Rattle.verdict.specs.Within.{Timely, Brief, Within}
use Rattle.verdict.proofs.Written.{verdict-written, within_written}

module _ (S : Stated) (x : Texts) (room : Rooms) (files : Files) (read : files_of S x room ≡ good files) where
  abbrev constraint_room : ℕ
  constraint_room = room.constraints / constraint_width

  abbrev track_room : ℕ
  track_room = room.tracks / track_width

  document-lawful : LawfulDocument (leg_ids files.rows) constraint_room track_room files.document
  document-lawful =
      good_is_lawful (leg_ids files.rows) constraint_room track_room (rules_by S) x.constraints files.document
      (files_good S x room files read).constraints

  module _ (file choice_room : ℕ) (text : List ℕ) (s : List Configuration) (chosen : choices_read S.horizon files file choice_room text ≡ good s) where
    solution : GoodChoices S.horizon files choice_room text s
    solution = choices_good S.horizon files file choice_room text s chosen

    many : length s ≡ length solution.rows
    many = ap length (sym solution.choices) ∙ length-map solution.rows (λ r. r.nominal)

    -- a choice for each row of the draft
    pub choices_many : length s ≡ length files.rows
    choices_many = chosen_many S.horizon files choice_room text s solution

    timely : All Timely (choices_of solution.rows)
    timely =
        all_mapped Timely (λ (r : Row). r.nominal) solution.rows
        (all_map (KeptRow S.horizon) (λ (r : Row). Timely r.nominal) (λ r k. omega (arith, k.nominal_in.ends, (files_good S x room files read).horizon.1))
        solution.rows (rows_kept S.horizon solution.rows solution.solution.lawful))

    -- the limits of document 01
    pub choices_within : Within (ordered files.document.constraints) s
    choices_within =
        let cs = files.document.constraints in
        let lawful = document-lawful.tables.constraints_lawful in
        record {
          rows = subst (λ n. n ≤ most_legs) (sym many) (legs_most S.horizon solution.rows solution.solution.lawful);
          records =
              omega (arith, lawful.in_limit, table-length (leg_ids files.rows) constraint_room track_room files.document document-lawful);
          timely = subst (All Timely) solution.choices timely;
          brief =
              ordered_keeps Brief cs
              (all_map (LawfulConstraint (leg_ids files.rows)) Brief (λ c k. (omega (arith, k.to_last_kind), k.low_in_range, k.high_in_range)) cs lawful.each);
        }

    -- ---- the tables that the readers leave: n rows and m records were counted

    module _ (t : Tables) (c : List ℕ) (n m : ℕ) (rows : length files.rows ≡ n) (records : length files.document.constraints ≡ m) where
      records_many : length (ordered files.document.constraints) ≡ m
      records_many = table-length (leg_ids files.rows) constraint_room track_room files.document document-lawful ∙ records

      -- what `judge` asks for
      pub tables_within : Within (constraints_in m (written_tables files t).constraints) (configurations_in n (written_choices s c))
      tables_within = within_written files s t c n m rows (choices_many ∙ rows) records_many choices_within

      -- what it rules is the verdict of the entries' definition
      pub tables_judged : (named : ℕ)
          → ruling named (verdict (offers_in n (written_tables files t).legs (written_tables files t).configurations) (constraints_in m (written_tables files t).constraints) (configurations_in n (written_choices s c)))
          ≡ ruling named (verdict_of files s)
      tables_judged = verdict-written files s t c n m rows (choices_many ∙ rows) records_many
