-- What the tables of a reading have that the search asks for. Assumes nothing.
use Prim.Native.Nat.{ℕ, ◌+◌, ◌*◌, ◌/◌, ◌%◌, ◌≤◌, ◌<◌}
use native.Mathlib.Omega.{arith}
use native.Mathlib.Nat.{zero-add}
use mathlib.Core.Path.{◌≡◌, refl, sym, ap, ap₂, ◌∙◌, subst}
use mathlib.Core.List.{List, [], ◌∷◌}
use lib.Dec.{T}
use lib.ListN.{length, get_or}
use Rattle.rules.specs.Limits.{leg_width, most_listed, constraint_width, track_width}
use Rattle.rules.specs.Answers.{good}
use Rattle.rules.specs.Lists.{first_place, flat}
use Rattle.rules.specs.Timetable.{Row, same, offers, nominal_place, legs_from, legs_of, leg_numbers, choices_of}
use Rattle.rules.specs.Constraints.{ordered}
use Rattle.rules.specs.Stated.{rules_by}
use Rattle.rules.specs.Reading.{Texts, Files, leg_ids, files_of}
use Rattle.rules.specs.Verdict.{All, offered, no_choice}
use Rattle.rules.specs.Merge.{zipped}
use Rattle.rules.specs.Earliest.{timed_of, timed, timed_rows}
use Rattle.rules.specs.Entries.{Tables, rooms_of, written_tables}
use Rattle.rules.specs.declared.stated.Stated.{Stated}
use Rattle.rules.specs.declared.sizes.Configuration.{Configuration}
use Rattle.rules.specs.declared.sizes.Constraint.{Constraint}
use Rattle.rules.specs.declared.sizes.Leg.{Leg}
use Rattle.rules.proofs.Lists.{tabulate-at, flat-length, over-length}
use Rattle.rules.proofs.Truth.{all_map}
use Rattle.rules_theorems.specs.LawfulDocument.{LawfulConstraint, LawfulDocument}
use Rattle.rules_theorems.specs.WellFormed.{KeptRow, InRange}
use Rattle.rules_theorems.specs.Files.{ByAutomaton, GoodFiles}
use Rattle.rules_theorems.proofs.All.{all_mapped}
use Rattle.rules_theorems.proofs.Documents.{good_is_lawful}
use Rattle.rules_theorems.proofs.GoodFiles.{files_good}
use Rattle.rules_theorems.proofs.LawfulRows.{rows_kept, legs_most, fit_rooms}
use Rattle.rules_theorems.proofs.Ordered.{ordered_keeps, table-length}
use Rattle.rules_theorems.proofs.Tables.{place_found}
use Rattle.rules_theorems.proofs.Tabulate.{tabulate-zipped}
use Rattle.tables_views.specs.View.{configuration_at, leg_at, list_in, part_of, constraints_in}
use Rattle.tables_views.proofs.Tabulated.{tabulate-map}
use Rattle.tables_views.proofs.Views.{constraints-written}
use Rattle.tables_views.proofs.Offers.{legs-length, legs_seen, offers-written, nominals-written}
use Rattle.verdict.specs.Within.{Timely, Brief}
use Rattle.earliest_theorems.proofs.OfFiles.{files_named}
use Rattle.earliest_search.specs.Searching.{timed_at, timed_in, Based}
use Rattle.earliest_search.proofs.Moving.{tabulate_within, every_tabulated}
use Rattle.earliest_search.specs.Starting.{Nominal, Readable}
use Rattle.std.specs.Prelude.{Some}

-- a nominal that is listed has its place within the list
place_within : (r : Row) → T (offers r.list r.nominal) → nominal_place r < length r.list
place_within r h = settle (place_found no_choice 0 (same r.nominal) r.list h)
  where
    settle : (i : ℕ) × (first_place (same r.nominal) r.list ≡ Some (0 + i)) × (i < length r.list) × T (same r.nominal (get_or r.list i no_choice)) → nominal_place r < length r.list
    settle k = rw (k.1, zero-add k.0) k.2

legs_nominal : (H first : ℕ) (rows : List Row) → All (KeptRow H) rows → All Nominal (legs_from first rows)
legs_nominal H first [] h = tt
legs_nominal H first (r ∷ rows) h =
    (record { few = h.0.most; listed = place_within r h.0.nominal_listed }, legs_nominal H (first + length r.list) rows h.1)

timed-zipped : (rows : List Row) → timed_rows rows ≡ zipped (λ (c : Configuration) (o : List Configuration). timed_of c.travel o) (choices_of rows) (offered rows)
timed-zipped [] = refl
timed-zipped (r ∷ rows) = ap (λ l. timed r ∷ l) (timed-zipped rows)

module _ (S : Stated) (x : Texts) (t : Tables) (f : Files) (read : files_of S x (rooms_of t) ≡ good f) where
  abbrev rows : List Row
  rows = f.rows

  abbrev w : Tables
  w = written_tables f t

  g : GoodFiles ByAutomaton S x (rooms_of t) f
  g = files_good S x (rooms_of t) f read

  kept : All (KeptRow S.horizon) rows
  kept = rows_kept S.horizon rows g.timetable.lawful

  lawful : LawfulDocument (leg_ids rows) (length t.constraints / constraint_width) (length t.tracks / track_width) f.document
  lawful = good_is_lawful (leg_ids rows) (length t.constraints / constraint_width) (length t.tracks / track_width) (rules_by S) x.constraints f.document g.constraints

  abbrev cs : List Constraint
  cs = ordered f.document.constraints

  abbrev m : ℕ
  m = length f.document.constraints

  pub records_many : length cs ≡ m
  records_many = table-length (leg_ids rows) (length t.constraints / constraint_width) (length t.tracks / track_width) f.document lawful

  pub records_seen : constraints_in m w.constraints ≡ cs
  records_seen = subst (λ k. constraints_in k w.constraints ≡ cs) records_many (constraints-written cs t.constraints)

  wide : leg_width * length rows ≤ length w.legs
  wide =
      let room : length rows ≤ length t.legs / leg_width = (fit_rooms _ _ rows g.timetable.fitting).0 in
      let size : length (flat leg_numbers (legs_of rows)) ≡ length (legs_of rows) * leg_width = flat-length leg_numbers leg_width (λ l. refl) (legs_of rows) in
      let legs : length (legs_of rows) ≡ length rows = legs-length 0 rows in
      let long : length w.legs ≡ length t.legs = over-length (flat leg_numbers (legs_of rows)) t.legs (omega arith) in
      omega arith

  pub nominals : (i : ℕ) → i < length rows → Nominal (leg_at w.legs i)
  nominals =
      every_tabulated Nominal (length rows) (leg_at w.legs)
      (subst (All Nominal) (sym (legs_seen rows t.legs t.configurations)) (legs_nominal S.horizon 0 rows kept))

  pub files_timely : All (All Timely) (offered rows)
  files_timely =
      all_mapped (All Timely) (λ (r : Row). r.list) rows
      (all_map (KeptRow S.horizon) (λ (r : Row). All Timely r.list)
      (λ r k. all_map (InRange S.horizon) Timely (λ c q. omega (arith, q.ends, g.horizon.1)) r.list k.list_in) rows kept)

  timely : (i : ℕ) → i < length rows → All Timely (list_in w.legs w.configurations i)
  timely =
      every_tabulated (All Timely) (length rows) (list_in w.legs w.configurations)
      (subst (All (All Timely)) (sym (offers-written rows t.legs t.configurations)) files_timely)

  pub files_readable : Readable (length rows) w.legs
  files_readable = record { wide = wide; nominals = nominals }

  pub files_based : Based (length rows) m w.legs w.configurations w.constraints
  files_based =
      record {
        rows = legs_most S.horizon rows g.timetable.lawful;
        records = lawful.tables.constraints_lawful.in_limit;
        wide = wide;
        few = λ i l. (nominals i l).few;
        timely = timely;
        brief =
            subst (All Brief) (sym records_seen)
            (ordered_keeps Brief f.document.constraints
            (all_map (LawfulConstraint (leg_ids rows)) Brief (λ c k. (omega (arith, k.to_last_kind), k.low_in_range, k.high_in_range)) f.document.constraints lawful.tables.constraints_lawful.each));
        named = subst (All (λ (c : Constraint). (c.first < length rows) × (c.second < length rows))) (sym records_seen) (files_named S x (rooms_of t) f read);
      }

  -- the offers that the search looks at are those of the definition
  pub timed_seen : timed_in (length rows) w.legs w.configurations ≡ timed_rows rows
  timed_seen =
      tabulate_within (length rows) (timed_at w.legs w.configurations) (λ i. pick (nominal_in i) (list_in w.legs w.configurations i)) at
      ∙ sym (tabulate-zipped pick (length rows) nominal_in (list_in w.legs w.configurations))
      ∙ ap₂ (zipped pick)
      (tabulate-map (λ (l : Leg). get_or (part_of (configuration_at w.configurations) l) l.nominal no_choice) (length rows) (leg_at w.legs)
      ∙ nominals-written rows t.legs t.configurations (all_map (KeptRow S.horizon) (λ (r : Row). T (offers r.list r.nominal)) (λ r k. k.nominal_listed) rows kept))
      (offers-written rows t.legs t.configurations)
      ∙ sym (timed-zipped rows)
    where
      pick : Configuration → List Configuration → List Configuration
      pick = λ (c : Configuration) (o : List Configuration). timed_of c.travel o

      nominal_in : ℕ → Configuration
      nominal_in = λ i. get_or (part_of (configuration_at w.configurations) (leg_at w.legs i)) (leg_at w.legs i).nominal no_choice

      at : (i : ℕ) → i < length rows → timed_at w.legs w.configurations i ≡ pick (nominal_in i) (list_in w.legs w.configurations i)
      at i l =
          let n = nominals i l in
          let few : (leg_at w.legs i).count ≤ most_listed = n.few in
          let small : (leg_at w.legs i).nominal % most_listed ≡ (leg_at w.legs i).nominal = omega (arith, n.listed) in
          ap (λ (p : ℕ). timed_of (configuration_at w.configurations ((leg_at w.legs i).first + p)).travel (list_in w.legs w.configurations i)) small
          ∙ ap (λ (c : Configuration). timed_of c.travel (list_in w.legs w.configurations i))
          (sym (tabulate-at (leg_at w.legs i).count (λ j. configuration_at w.configurations ((leg_at w.legs i).first + j)) no_choice (leg_at w.legs i).nominal n.listed))
