-- Each way out of reading the profiles, 12 and 13. Assumes nothing.
use Rattle.std.specs.Prelude.{Result, Ok, Err, Option, Some, None}
use Prim.Native.Nat.{ℕ, ◌/◌}
use mathlib.Core.Path.{◌≡◌, refl, sym, ap, ◌∙◌}
use mathlib.Core.List.{List}
use native.Mathlib.Omega.{arith}
use lib.ListN.{length}
use lib.IntN.{ℤ}
use Rattle.rules.specs.Limits.{profile_width}
use Rattle.rules.specs.Lists.{over}
use Rattle.rules.specs.Answers.{timetable_file, refusal, Reading, refused, good}
use Rattle.rules.specs.Rows.{RowFault, first_fault, place_of_row}
use Rattle.rules.specs.Timetable.{Row}
use Rattle.rules.specs.Profiles.{Curve, profiles_of, profiles_from, profile_numbers, profile_fault}
use Rattle.rules.specs.declared.answers.Refusal.{Refusal}
use Rattle.tables_ids.specs.Column.{Records}
use Rattle.tables_ids.proofs.Curves.{profiles-length}
use Rattle.profiles.specs.declared.reader.Rows.{Rows}
use Rattle.files_tests.specs.declared.lists.Fault.{Fault}
use Rattle.profiles.specs.Reads.{rows_of, Reads}
use Rattle.profiles_row.specs.Row.{profile_table}
use Rattle.files_tests.specs.Counts.{Tables, Tabled, fault_of, FirstFault}
use Rattle.files_tests.proofs.Holding.{front_records, tabled_tables}
use Rattle.files_tests.proofs.Fronts.{front_held}
use Rattle.tables_lent.specs.declared.Counts.{Counts}
use Rattle.files.specs.Parts.{powers_of, Draft, Lists, Listed, PowersRead}
use Rattle.files.proofs.Parted.{WasRead, was_read, part_refused, part_good}

not-read : (o : Reading (List Curve)) (r : Refusal) → Err r ≡ rows_of o → o ≡ refused r
not-read (refused s) r e = cc
not-read (good curves) r e = let z : ◌≡◌ {A = ℕ} 0 1 = cc in absurd (omega arith)

no_fault : (o : Option RowFault) → None ≡ fault_of o → o ≡ None
no_fault None e = refl
no_fault (Some f) e = (cc)

a_fault : (o : Option RowFault) (fault : Fault) → Some fault ≡ fault_of o → o ≡ Some (record { row = fault.row; number = fault.number })
a_fault None fault e = (cc)
a_fault (Some f) fault e =
    let same : record { row = f.row; number = f.number } ≡ fault = cc in
    ap (λ (x : Fault). Some (record { row = x.row; number = x.number })) same

module _ (counts : Counts) (timetable text legs configurations profiles : List ℕ) (samples : List ℤ) (profiles' : List ℕ) (samples' : List ℤ)
    {answer : Result Rows Refusal} (read : Reads text profiles samples answer profiles' samples') where
  abbrev outcome : Reading (List Curve)
  outcome = profiles_of (length profiles / profile_width) (length samples) text

  pub powers_refused : {r : Refusal} → answer ≡ Err r → PowersRead counts timetable text legs configurations profiles samples (Err r) profiles' samples'
  unfolding powers_of
  powers_refused {r} a rows draft lists = part_refused r (rw (not-read outcome r (sym a ∙ read.answer)))

  module _ {rows : Rows} (a : answer ≡ Ok rows) where
    got : WasRead rows_of (Ok rows) outcome
    got = was_read rows_of (Ok rows) (λ r e. let z : ◌≡◌ {A = ℕ} 0 1 = cc in omega arith) outcome (sym a ∙ read.answer)

    abbrev m : ℕ
    m = rows.profiles

    profiles_many : m ≡ length got.what
    profiles_many = cc got.told

    table : profiles' ≡ over (profile_table got.what) profiles
    table = read.profile_table_lem got.what got.was

    tabled : (rows : List Row) → Draft timetable legs counts.legs rows → Lists configurations rows → Tabled legs counts.legs configurations profiles' m rows got.what
    tabled rows draft lists =
        record {
          rows_many = draft.many;
          legs_hold = draft.legs_hold;
          configurations_hold = lists.lists_hold;
          profiles_many = profiles_many;
          profiles_hold = front_held (profile_table got.what) profiles table;
        }

    -- what 12 and 13 are tested over
    pub powers_able : Listed timetable legs counts.legs configurations → Tables legs counts.legs configurations × Records profile_width m profiles'
    powers_able l = (
      tabled_tables (tabled l.rows l.draft l.lists),
      front_records profile_numbers profile_width (omega arith) (λ p. refl) (profiles_from 0 got.what) profiles
          (profiles_many ∙ sym (profiles-length 0 got.what)) table,
    )

    module _ {found_fault : Option Fault} (f : FirstFault legs counts.legs configurations profiles' m found_fault) where
      found : (rows : List Row) → Draft timetable legs counts.legs rows → Lists configurations rows → found_fault ≡ fault_of (first_fault 0 (profile_fault got.what) rows)
      found rows draft lists = f rows got.what (tabled rows draft lists)

      pub powers_row : {fault : Fault} {r : Refusal} → found_fault ≡ Some fault → r ≡ refusal fault.number timetable_file (place_of_row timetable fault.row)
          → PowersRead counts timetable text legs configurations profiles samples (Err r) profiles' samples'
      unfolding powers_of
      powers_row {fault} {r} q e rows draft lists =
          part_refused r (rw (got.was, a_fault (first_fault 0 (profile_fault got.what) rows) fault (sym q ∙ found rows draft lists)) (ap refused (sym e)))

      pub powers_whole : found_fault ≡ None
          → PowersRead counts timetable text legs configurations profiles samples
          (Ok (record { legs = counts.legs; configurations = counts.configurations; profiles = m; samples = rows.samples; constraints = 0; tracks = 0; subnets = 0 })) profiles' samples'
      unfolding powers_of
      powers_whole q rows draft lists =
          part_good got.what (rw (got.was, no_fault (first_fault 0 (profile_fault got.what) rows) (sym q ∙ found rows draft lists)))
          (cc got.told) (table, read.sample_table_lem got.what got.was)
