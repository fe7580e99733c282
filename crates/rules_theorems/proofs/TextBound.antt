-- The text of lawful rows is at most 25,428,082 bytes, and so within the text limit. Assumes nothing.
use Prim.Native.Nat.{ℕ, suc, ◌+◌, ◌*◌, ◌/◌, ◌≤◌}
use mathlib.Core.Path.{◌≡◌, refl}
use mathlib.Core.List.{List, [], ◌∷◌, ◌++◌}
use native.Mathlib.Omega.{arith}
use lib.ListN.{length, length-append}
use Rattle.rules.specs.Limits.{most_horizon, most_text, most_id, least_listed, most_legs, most_configurations, configuration_width}
use Rattle.rules.specs.Lists.{flat}
use Rattle.rules.specs.Answers.{good}
use Rattle.rules.specs.Bytes.{line_feed, comma, space, underscore, joined, spelled}
use Rattle.rules.specs.Timetable.{Row, listed, timetable_header, timetable_of, legs_of, configurations_of}
use Rattle.rules.specs.Reading.{Rooms, Texts, Files, files_of, choices_read}
use Rattle.rules.specs.Verdict.{All, offered, Offered}
use Rattle.rules.specs.Merge.{spelled_configuration, spelled_row, text_of, chosen}
use Rattle.rules.specs.declared.stated.Stated.{Stated}
use Rattle.rules.specs.declared.sizes.Configuration.{Configuration}
use Rattle.rules.specs.declared.sizes.Leg.{Leg}
use Rattle.rules.proofs.Numbers.{spelled-length}
use Rattle.rules_theorems.specs.WellFormed.{Lawful, InRange, KeptRow, rows_of, WellFormed}
use Rattle.rules_theorems.proofs.Forms.{spelled_list}
use Rattle.rules_theorems.proofs.LawfulRows.{rows_kept, legs_most, listed_most}
use Rattle.rules_theorems.proofs.GoodFiles.{files_good}
use Rattle.rules_theorems.proofs.Chosen.{chosen-lawful}
use Rattle.rules_theorems.proofs.ReadBack.{read_back_tables, choices_back}

-- ---- the bytes of numbers at their limits

abbrev pub id_digits : ℕ
id_digits = 9

abbrev pub departure_digits : ℕ
departure_digits = 6

abbrev pub travel_digits : ℕ
travel_digits = 4

-- `d_t_p`
abbrev pub configuration_bytes : ℕ
configuration_bytes = departure_digits + 1 + travel_digits + 1 + id_digits

-- a row without its list: five ids and the nominal, a comma after each; the last entry has LF where others have a space
abbrev pub row_bytes : ℕ
row_bytes = 5 * (id_digits + 1) + (configuration_bytes + 1)

-- an entry of a list, and the byte after it
abbrev pub entry_bytes : ℕ
entry_bytes = configuration_bytes + 1

abbrev pub most_written : ℕ
most_written = length timetable_header + row_bytes * most_legs + entry_bytes * most_configurations

pub most_written_lem : most_written ≡ 25_428_082
most_written_lem = refl

-- ---- configurations and lists

id_length : (n : ℕ) → n ≤ most_id → length (spelled n) ≤ id_digits
id_length n h = spelled-length n 8 (omega arith)

three-length : (a b c : List ℕ) → length (joined underscore (a ∷ b ∷ c ∷ [])) ≡ length a + 1 + length b + 1 + length c
three-length a b c = simp length-append (omega arith)

module _ (H : ℕ) (within : H ≤ most_horizon) where
  configuration-length : (c : Configuration) → InRange H c → length (spelled_configuration c) ≤ configuration_bytes
  configuration-length c k =
      rw (three-length (spelled c.departure) (spelled c.travel) (spelled c.profile))
      (sum (length (spelled c.departure)) (length (spelled c.travel)) (length (spelled c.profile))
      (spelled-length c.departure 5 (omega (arith, k.ends))) (spelled-length c.travel 3 (omega (arith, k.travel_most))) (id_length c.profile k.profile_id))
    where
      sum : (a b c : ℕ) → a ≤ departure_digits → b ≤ travel_digits → c ≤ id_digits → a + 1 + b + 1 + c ≤ configuration_bytes
      sum a b c h k l = omega arith

  list_length : (l : List Configuration) → least_listed ≤ length l → All (InRange H) l → length (spelled_list l) + 1 ≤ entry_bytes * length l
  list_length [] n h = absurd (omega arith)
  list_length (c ∷ []) n h = omega (arith, configuration-length c h.0)
  list_length (c ∷ d ∷ l) n h =
      rw (length-append (spelled_configuration c) (space ∷ spelled_list (d ∷ l)))
      (more (length (spelled_configuration c)) (length (spelled_list (d ∷ l))) (length l) (configuration-length c h.0) (list_length (d ∷ l) (omega arith) h.1))
    where
      more : (a b n : ℕ) → a ≤ configuration_bytes → b + 1 ≤ entry_bytes * suc n → a + suc b + 1 ≤ entry_bytes * suc (suc n)
      more a b n h k = omega arith

  -- ---- rows

  row-length : (r : Row) → KeptRow H r → length (spelled_row r) ≤ row_bytes + entry_bytes * length r.list
  row-length r k =
      seven (spelled r.leg) (spelled r.train) (spelled r.track) (spelled r.start) (spelled r.end) (spelled_configuration r.nominal) (spelled_list r.list)
      (entry_bytes * length r.list)
      (id_length r.leg k.ids.0) (id_length r.train k.ids.1.0) (id_length r.track k.ids.1.1.0) (id_length r.start k.ids.1.1.1.0) (id_length r.end k.ids.1.1.1.1.0)
      (configuration-length r.nominal k.nominal_in) (list_length r.list k.least k.list_in)
    where
      seven : (a b c d e n l : List ℕ) (m : ℕ) → length a ≤ id_digits → length b ≤ id_digits → length c ≤ id_digits → length d ≤ id_digits → length e ≤ id_digits
          → length n ≤ configuration_bytes → length l + 1 ≤ m → length (joined comma (a ∷ b ∷ c ∷ d ∷ e ∷ n ∷ l ∷ []) ++ line_feed ∷ []) ≤ row_bytes + m
      seven a b c d e n l m p q r s t u v = simp length-append (omega arith)

  rows-length : (rows : List Row) → All (KeptRow H) rows → length (flat spelled_row rows) ≤ row_bytes * length rows + entry_bytes * listed rows
  rows-length [] h = omega arith
  rows-length (r ∷ rows) h =
      rw (length-append (spelled_row r) (flat spelled_row rows))
      (more (length (spelled_row r)) (length (flat spelled_row rows)) (length r.list) (length rows) (listed rows) (row-length r h.0) (rows-length rows h.1))
    where
      more : (a b l n m : ℕ) → a ≤ row_bytes + entry_bytes * l → b ≤ row_bytes * n + entry_bytes * m → a + b ≤ row_bytes * suc n + entry_bytes * (l + m)
      more a b l n m h k = omega arith

  -- the text of lawful rows has at most 25,428,082 bytes
  pub text_length : (rows : List Row) → Lawful H rows → length (text_of rows) ≤ most_written
  unfolding text_of
  text_length rows h =
      rw (length-append timetable_header (flat spelled_row rows))
      (most (length (flat spelled_row rows)) (length rows) (listed rows) (rows-length rows (rows_kept H rows h)) (legs_most H rows h) (listed_most H rows h))
    where
      most : (b n m : ℕ) → b ≤ row_bytes * n + entry_bytes * m → n ≤ most_legs → m ≤ most_configurations → length timetable_header + b ≤ most_written
      most b n m h k l = omega arith

  -- and so it is within the text limit
  pub text_short : (rows : List Row) → Lawful H rows → length (text_of rows) ≤ most_text
  text_short rows h = within_limit (length (text_of rows)) (text_length rows h)
    where
      within_limit : (n : ℕ) → n ≤ most_written → n ≤ most_text
      within_limit n h = omega arith

  -- ---- so no text is too long to be read back

  -- well-formed tables that have room
  pub tables-read_back : (legs configurations : ℕ) (l : List Leg) (c : List Configuration) → WellFormed H l c → length l ≤ legs → length c ≤ configurations
      → (rows : List Row) × (timetable_of H legs configurations (text_of (rows_of l c)) ≡ good rows) × (legs_of rows ≡ l) × (configurations_of rows ≡ c)
  tables-read_back legs configurations l c w h k = read_back_tables H legs configurations l c w h k (text_short (rows_of l c) w.lawful)

  -- offered choices of lawful rows
  pub choices-read_back : (files : Files) (file room : ℕ) (s : List Configuration) → Lawful H files.rows → Offered (offered files.rows) s
      → length files.rows ≤ room / configuration_width → choices_read H files file room (text_of (chosen files.rows s)) ≡ good s
  choices-read_back files file room s lawful chosen_from fits =
      choices_back H files file room s lawful chosen_from fits (text_short (chosen files.rows s) (chosen-lawful H files.rows s lawful chosen_from))

-- offered choices of files that were read without refusal, written as a solution, are read back as these choices
pub files_choices_back : (S : Stated) (x : Texts) (rooms : Rooms) (files : Files) (file room : ℕ) (s : List Configuration) → files_of S x rooms ≡ good files
    → Offered (offered files.rows) s → length files.rows ≤ room / configuration_width → choices_read S.horizon files file room (text_of (chosen files.rows s)) ≡ good s
files_choices_back S x rooms files file room s e chosen_from fits =
    let g = files_good S x rooms files e in
    choices-read_back S.horizon g.horizon.1 files file room s g.timetable.lawful chosen_from fits
