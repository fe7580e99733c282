-- Each way out of reading the constraints, and 15. Assumes nothing.
use Prim.Native.Nat.{ℕ, ◌/◌, ◌≤◌}
use mathlib.Core.Path.{◌≡◌, refl, sym, ap, ap₂, ◌∙◌}
use mathlib.Core.List.{List}
use native.Mathlib.Omega.{arith}
use lib.ListN.{length}
use Rattle.rules.specs.Limits.{most_legs, leg_width, track_width, constraint_width}
use Rattle.rules.specs.Lists.{flat, over}
use Rattle.rules.specs.Answers.{no_subnet, timetable_file, constraints_file, refusal, Reading, refused, good}
use Rattle.rules.specs.Rows.{first_fault, place_of_row}
use Rattle.rules.specs.Timetable.{Row}
use Rattle.rules.specs.Constraints.{Document, constraints_of, subnet_fault, track_numbers}
use Rattle.rules.specs.Stated.{rules_by}
use Rattle.rules.specs.Reading.{leg_ids}
use Rattle.rules.specs.declared.stated.Stated.{Stated}
use Rattle.rules.specs.declared.tokens.Rules.{Rules}
use Rattle.rules.specs.declared.answers.Refusal.{Refusal}
use Rattle.rules_theorems.proofs.FileRefusals.{Refuses, refuses, constraints_refuse}
use Rattle.tables_ids.specs.Column.{Records, Apart, column}
use Rattle.std.proofs.Common.{Result, Ok, Err, Option, Some, None}
use Rattle.constraints_states.specs.declared.Counts.{Counts as ReadCounts}
use Rattle.rules.specs.declared.answers.Fault.{Fault}
use Rattle.constraints_states.specs.Steps.{counts_of}
use Rattle.constraints.specs.Tables.{read_of, reading, Reads}
use Rattle.files_tests.specs.Subnets.{fault_at, Fifteen}
use Rattle.constraints.proofs.Filling.{tracks_held}
use Rattle.files_tests.proofs.Holding.{front_records}
use Rattle.files_tests.proofs.Fronts.{legs-apart, legs-ids, legs-tracks}
use Rattle.tables_lent.specs.declared.Counts.{Counts}
use Rattle.tables_lent.proofs.Filing.{same-refusal}
use Rattle.files.specs.Parts.{rules_of, Draft, Drafted, RulesRead}
use Rattle.files.proofs.Parted.{WasRead, was_read, part_refused, part_good}

-- the constraints' refusals lie in the constraints
own_file : (o : Reading Document) → Refuses (λ r. r.file ≡ constraints_file) o → (f : Fault) → Err f ≡ read_of o → o ≡ refused (refusal f.number constraints_file f.place)
own_file (refused r) (refuses own) f e = let same : f ≡ record { number = r.number; place = r.place } = cc in same-refusal r (ap (λ (x : Fault). x.number) same) own (ap (λ (x : Fault). x.place) same)
own_file (good d) q f e = let z : ◌≡◌ {A = ℕ} 0 1 = cc in absurd (omega arith)

-- what the constraints are read over
pub rules_able : {timetable legs : List ℕ} {n : ℕ} → Drafted timetable legs n → Apart leg_width n legs × (n ≤ most_legs)
rules_able {legs = legs} {n = n} d = (legs-apart legs n d.rows d.draft.many d.draft.legs_hold d.draft.apart, d.draft.few)

module _ (S : Stated) {rules : Rules} (by : rules ≡ rules_by S) (counts : Counts) (timetable text legs constraints tracks constraints' tracks' : List ℕ)
    {answer : Result ReadCounts Fault} (read : Reads (reading rules text legs counts.legs constraints tracks) constraints tracks answer constraints' tracks') where
  abbrev outcome : Reading Document
  outcome = reading rules text legs counts.legs constraints tracks

  by_rows : (rows : List Row) → Draft timetable legs counts.legs rows
      → constraints_of (leg_ids rows) (length constraints / constraint_width) (length tracks / track_width) (rules_by S) text ≡ outcome
  by_rows rows draft = rw (by, legs-ids legs counts.legs rows draft.many draft.legs_hold)

  pub rules_refused : {f : Fault} {r : Refusal} → answer ≡ Err f → r ≡ refusal f.number constraints_file f.place
      → RulesRead S counts timetable text legs constraints tracks (Err r) constraints' tracks'
  unfolding rules_of
  rules_refused {f} {r} a e rows draft =
      part_refused r
      (rw (
        by_rows rows draft,
        own_file outcome (constraints_refuse _ _ _ (record { at_start = λ n h. refl; at_place = λ n p h. refl }) rules text) f (sym a ∙ read.answer),
      )
      (ap refused (sym e)))

  module _ {seen : ReadCounts} (a : answer ≡ Ok seen) where
    got : WasRead read_of (Ok seen) outcome
    got = was_read read_of (Ok seen) (λ r e. let z : ◌≡◌ {A = ℕ} 0 1 = cc in omega arith) outcome (sym a ∙ read.answer)

    told : seen ≡ counts_of got.what
    told = cc got.told

    tracks_many : seen.tracks ≡ length got.what.tracks
    tracks_many = ap (λ (c : ReadCounts). c.tracks) told

    track_table : tracks' ≡ over (flat track_numbers got.what.tracks) tracks
    track_table = (read.tables got.what got.was).by_file

    -- the counts of all that is held then
    abbrev counted : ReadCounts → Counts
    counted x =
        record {
          legs = counts.legs;
          configurations = counts.configurations;
          profiles = counts.profiles;
          samples = counts.samples;
          constraints = x.constraints;
          tracks = x.tracks;
          subnets = x.subnets;
        }

    -- what 15 is tested over
    pub fifteen_able : Drafted timetable legs counts.legs → Records leg_width counts.legs legs × Records track_width seen.tracks tracks'
    fifteen_able d =
        ((rules_able d).0.records, front_records track_numbers track_width (omega arith) (λ t. refl) got.what.tracks tracks tracks_many track_table)

    module _ (found : Option ℕ) (f : Fifteen legs counts.legs tracks' seen.tracks found) where
      fault : (rows : List Row) → Draft timetable legs counts.legs rows → fault_at found ≡ first_fault 0 (subnet_fault got.what.tracks) rows
      fault rows draft =
          f rows got.what.tracks
          (record {
            of_rows = legs-tracks legs counts.legs rows draft.many draft.legs_hold;
            of_tracks = ap₂ (column track_width) tracks_many track_table ∙ tracks_held got.what.tracks tracks;
          })

      pub rules-row : {row : ℕ} {r : Refusal} → found ≡ Some row → r ≡ refusal no_subnet timetable_file (place_of_row timetable row)
          → RulesRead S counts timetable text legs constraints tracks (Err r) constraints' tracks'
      unfolding rules_of
      rules-row {row} {r} q e rows draft =
          part_refused r (rw (by_rows rows draft, got.was, ← fault rows draft, q) (ap refused (sym e)))

      pub rules_whole : found ≡ None
          → RulesRead S counts timetable text legs constraints tracks
          (Ok (counted seen))
          constraints' tracks'
      unfolding rules_of
      rules_whole q rows draft =
          part_good got.what (rw (by_rows rows draft, got.was, ← fault rows draft, q))
          (ap counted told) ((read.tables got.what got.was).by_kind, track_table)
