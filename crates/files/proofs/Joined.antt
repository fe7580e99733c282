-- The three parts, one after the other, are the reading of the files. Assumes nothing.
use Prim.Native.Nat.{ℕ, ◌/◌}
use mathlib.Core.Path.{◌≡◌, refl, sym, ap, ◌∙◌}
use mathlib.Core.List.{List}
use lib.ListN.{length}
use lib.IntN.{ℤ}
use Rattle.rules.specs.Limits.{leg_width, configuration_width}
use Rattle.rules.specs.Answers.{Reading, refused, good, ◌>>=◌}
use Rattle.rules.specs.Lists.{flat, over}
use Rattle.rules.specs.Timetable.{Row, legs_of, leg_numbers, configurations_of, configuration_numbers}
use Rattle.rules.specs.Profiles.{Curve, profiles_from, profile_numbers, sample_table}
use Rattle.rules.specs.Constraints.{Document, ordered, constraint_numbers, track_numbers}
use Rattle.rules.specs.Stated.{known}
use Rattle.rules.specs.Reading.{Texts, texts, Files, Rooms, files_of}
use Rattle.rules.specs.Entries.{Tables, tables, rooms_of, written_tables}
use Rattle.rules.specs.declared.stated.Stated.{Stated}
use Rattle.rules.specs.declared.answers.Refusal.{Refusal}
use Rattle.rules_theorems.proofs.GoodText.{never_good}
use Rattle.rules_theorems.proofs.GoodRows.{timetable_good}
use Rattle.rules_theorems.proofs.GoodFiles.{good_first}
use Rattle.rules_theorems.proofs.LawfulRows.{legs_most, legs_distinct}
use Rattle.files_tests.proofs.Fronts.{front_held}
use Rattle.tables_lent.specs.declared.Counts.{Counts}
use Rattle.tables_lent.specs.Filing.{filed_by, filed_of}
use Rattle.files.specs.Promise.{FilesRead}
use Rattle.files.specs.Parts.{draft_of, powers_of, rules_of, with_rows, with_curves, with_document, Draft, Lists, Drafted, Listed, Part, DraftRead, PowersRead, RulesRead}
use Rattle.files.proofs.Parted.{WasGood, whole_good, refused_refused}
use Rattle.std.specs.Prelude.{Result, Ok, Err}

-- ---- the definition, in parts

then_then : {A B C : Type 0} (m : Reading A) (k : A → Reading B) (l : B → Reading C) → ((m >>= k) >>= l) ≡ (m >>= (λ x. k x >>= l))
then_then (refused r) k l = refl
then_then (good x) k l = refl

abbrev files_from : List Row → List Curve → Document → Files
files_from rows curves document = record { rows = rows; curves = curves; document = document }

module _ (S : Stated) (x : Texts) (room : Rooms) where
  abbrev draft : Reading (List Row)
  draft = draft_of S x.timetable room.legs room.configurations

  abbrev powers : List Row → Reading (List Curve)
  powers rows = powers_of x.timetable x.profiles rows room.profiles room.samples

  abbrev rules : List Row → Reading Document
  rules rows = rules_of S x.timetable x.constraints rows room.constraints room.tracks

  by_parts : files_of S x room ≡ (draft >>= (λ rows. powers rows >>= (λ curves. rules rows >>= (λ d. good (files_from rows curves d)))))
  unfolding files_of draft_of powers_of rules_of
  by_parts = simp then_then

-- ---- each way out

module _ (S : Stated) (timetable profiles constraints legs configurations profile_table : List ℕ) (samples : List ℤ) (constraint_table tracks : List ℕ) where
  abbrev x : Texts
  x = texts timetable profiles constraints

  abbrev t : Tables
  t = tables legs configurations profile_table samples constraint_table tracks

  stopped : {a : Result Counts Refusal} {t' : Tables} (r : Refusal) → files_of S x (rooms_of t) ≡ refused r → a ≡ Err r → FilesRead S x t a t'
  stopped r e a = record { answers = a ∙ rw e; writes = λ f g. never_good r f (sym e ∙ g) }

  module _ {a : Result Counts Refusal} {legs' configurations' : List ℕ} (d : DraftRead S timetable legs configurations a legs' configurations') where
    pub files_draft : {r : Refusal} {t' : Tables} → a ≡ Err r → FilesRead S x t a t'
    files_draft {r} e = stopped r (by_parts S x (rooms_of t) ∙ rw (refused_refused a r d e)) e

    module _ {k : Counts} (e : a ≡ Ok k) where
      abbrev DraftTables : List Row → Type 0
      DraftTables rows =
          (legs' ≡ over (flat leg_numbers (legs_of rows)) legs) × (configurations' ≡ over (flat configuration_numbers (configurations_of rows)) configurations)

      got : WasGood (draft_of S timetable (length legs) (length configurations)) with_rows DraftTables k
      got = whole_good a k d e

      drafted : (n : ℕ) → n ≡ k.legs → Draft timetable legs' n got.what
      unfolding draft_of
      drafted n same =
          let rows = got.what in
          let read = (good_first (known S) _ rows got.was).2 in
          let written = (timetable_good S.horizon (length legs / leg_width) (length configurations / configuration_width) timetable rows).0 read in
          let many : n ≡ length rows = same ∙ ap (λ (c : Counts). c.legs) got.counted in
          record {
            short = written.short;
            many = many;
            few = rw many (legs_most S.horizon rows written.lawful);
            apart = legs_distinct S.horizon rows written.lawful;
            legs_hold = front_held (flat leg_numbers (legs_of rows)) legs got.there.0;
          }

      lists : Lists configurations' got.what
      lists = record { lists_hold = front_held (flat configuration_numbers (configurations_of got.what)) configurations got.there.1 }

      pub powers_listed : Listed timetable legs' k.legs configurations'
      powers_listed = record { rows = got.what; draft = drafted k.legs refl; lists = lists }

      module _ {b : Result Counts Refusal} {profile_table' : List ℕ} {samples' : List ℤ} (p : PowersRead k timetable profiles legs' configurations' profile_table samples b profile_table' samples') where
        abbrev PowerTables : List Curve → Type 0
        PowerTables curves = (profile_table' ≡ over (flat profile_numbers (profiles_from 0 curves)) profile_table) × (samples' ≡ over (sample_table curves) samples)

        power : Part (powers_of timetable profiles got.what (length profile_table) (length samples)) (with_curves k) PowerTables b
        power = p got.what (drafted k.legs refl) lists

        pub files_powers : {r : Refusal} {t' : Tables} → b ≡ Err r → FilesRead S x t b t'
        files_powers {r} f = stopped r (by_parts S x (rooms_of t) ∙ rw (got.was, refused_refused b r power f)) f

        module _ {l : Counts} (f : b ≡ Ok l) where
          gotten : WasGood (powers_of timetable profiles got.what (length profile_table) (length samples)) (with_curves k) PowerTables l
          gotten = whole_good b l power f

          still : Draft timetable legs' l.legs got.what
          still = drafted l.legs (ap (λ (c : Counts). c.legs) gotten.counted)

          pub rules-drafted : Drafted timetable legs' l.legs
          rules-drafted = record { rows = got.what; draft = still }

          module _ {c : Result Counts Refusal} {constraint_table' tracks' : List ℕ} (q : RulesRead S l timetable constraints legs' constraint_table tracks c constraint_table' tracks') where
            abbrev outcome : Reading Document
            outcome = rules_of S timetable constraints got.what (length constraint_table) (length tracks)

            abbrev RuleTables : Document → Type 0
            RuleTables d =
                (constraint_table' ≡ over (flat constraint_numbers (ordered d.constraints)) constraint_table) × (tracks' ≡ over (flat track_numbers d.tracks) tracks)

            abbrev filed : Document → Files
            filed = files_from got.what gotten.what

            whole : files_of S x (rooms_of t) ≡ (outcome >>= (λ d. good (filed d)))
            whole = by_parts S x (rooms_of t) ∙ rw (got.was, gotten.was)

            pub files_rules : FilesRead S x t c (tables legs' configurations' profile_table' samples' constraint_table' tracks')
            files_rules =
                record {
                  answers = rule.answers ∙ answered outcome ∙ ap filed_of (sym whole);
                  writes = λ f g. written outcome refl f (sym whole ∙ g);
                }
              where
                rule : Part outcome (with_document l) RuleTables c
                rule = q got.what still

                answered : (o : Reading Document) → filed_by (with_document l) o ≡ filed_of (o >>= (λ d. good (filed d)))
                answered (refused r) = refl
                answered (good d) = ap (λ c. Ok (with_document c d)) (gotten.counted ∙ ap (λ c. with_curves c gotten.what) got.counted)

                written : (o : Reading Document) → outcome ≡ o → (f : Files) → (o >>= (λ d. good (filed d))) ≡ good f
                    → tables legs' configurations' profile_table' samples' constraint_table' tracks' ≡ written_tables f t
                written (refused r) is f e = never_good r f e
                written (good d) is f e =
                    let same : filed d ≡ f = cc in
                    rw (← same)
                    (λ j.
                    record {
                      legs = got.there.0 j;
                      configurations = got.there.1 j;
                      profiles = gotten.there.0 j;
                      samples = gotten.there.1 j;
                      constraints = (rule.writes d is).0 j;
                      tracks = (rule.writes d is).1 j;
                    })
