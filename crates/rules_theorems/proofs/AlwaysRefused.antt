-- 1, 21 and 2, for any texts: H out of range, an edition that is not known, and a text that is too long to be written as an example. Assumes nothing.
use Prim.Native.Nat.{ℕ, ◌≤◌, ◌<◌}
use mathlib.Core.Path.{◌≡◌}
use mathlib.Core.Bool.{and-false}
use mathlib.Core.List.{List}
use mathlib.Core.Logic.{◌⊎◌, inl, inr}
use lib.ListN.{length, replicate, length-replicate}
use borrow.Author.Tests.{le-leb, lt-leb, ne_eqb}
use Rattle.rules.specs.Limits.{least_horizon, most_horizon, most_text}
use Rattle.rules.specs.Answers.{bad_horizon, unknown_edition, too_long, no_file, timetable_file, profiles_file, constraints_file, refusal, refused, Judged}
use Rattle.rules.specs.Rows.{csv_of}
use Rattle.rules.specs.Timetable.{row_of, draft_fits, solution_fits, timetable_names, timetable_of, solution_of}
use Rattle.rules.specs.Profiles as Profiles
use Rattle.rules.specs.Profiles.{profiles_names, profiles_of}
use Rattle.rules.specs.Kinds.{table_edition, example_edition}
use Rattle.rules.specs.Constraints.{constraints_of}
use Rattle.rules.specs.Stated.{known}
use Rattle.rules.specs.Reading.{Rooms, Texts, files_of}
use Rattle.rules.specs.Entries.{Tables, rooms_of, all_read, checked}
use Rattle.rules.specs.declared.stated.Stated.{Stated}
use Rattle.rules.specs.declared.tokens.Rules.{Rules}
use Rattle.rules.specs.declared.answers.Answer.TheVariants.{Refused}
use Rattle.rules_theorems.specs.Files.{KnownEdition}
use Rattle.rules_theorems.proofs.GoodFiles.{good_known}

-- 1: H out of range, whatever the texts
pub horizon_out : (S : Stated) (x : Texts) (room : Rooms) → (S.horizon < least_horizon) ⊎ (most_horizon < S.horizon) → files_of S x room ≡ refused (refusal bad_horizon no_file 0)
unfolding files_of known
horizon_out S x room (inl h) = rw (lt-leb least_horizon S.horizon h)
horizon_out S x room (inr h) = rw (lt-leb S.horizon most_horizon h, and-false)

-- 21: neither edition, where H is in range
pub edition_out : (S : Stated) (x : Texts) (room : Rooms) → least_horizon ≤ S.horizon → S.horizon ≤ most_horizon → (KnownEdition S.edition → ⊥)
    → files_of S x room ≡ refused (refusal unknown_edition no_file 0)
unfolding files_of known
edition_out S x room least most other =
    rw (
      le-leb least_horizon S.horizon least,
      le-leb S.horizon most_horizon most,
      ne_eqb S.edition table_edition (λ e. other (inl e)),
      ne_eqb S.edition example_edition (λ e. other (inr e)),
    )

module _ (s : List ℕ) (long : most_text < length s) where
  csv-too_long : {A : Type 0} (file : ℕ) (row_of : List A → List ℕ → Judged A) (names : List (List ℕ)) → csv_of file row_of names s ≡ refused (refusal too_long file 0)
  unfolding csv_of
  csv-too_long file row_of names = rw (lt-leb (length s) most_text long)

  -- 2: a text of more bytes than the limit, whatever it says
  pub timetable-too_long : (H legs configurations : ℕ) → timetable_of H legs configurations s ≡ refused (refusal too_long timetable_file 0)
  unfolding timetable_of
  timetable-too_long H legs configurations = csv-too_long timetable_file (row_of H (draft_fits legs configurations)) timetable_names

  pub profiles-too_long : (profiles samples : ℕ) → profiles_of profiles samples s ≡ refused (refusal too_long profiles_file 0)
  unfolding profiles_of
  profiles-too_long profiles samples = csv-too_long profiles_file (Profiles.row_of profiles samples) profiles_names

  pub solution-too_long : (H file choices : ℕ) → solution_of H file choices s ≡ refused (refusal too_long file 0)
  unfolding solution_of
  solution-too_long H file choices = csv-too_long file (row_of H (solution_fits choices)) timetable_names

  pub constraints-too_long : (legs : List ℕ) (constraints tracks : ℕ) (rules : Rules) → constraints_of legs constraints tracks rules s ≡ refused (refusal too_long constraints_file 0)
  unfolding constraints_of
  constraints-too_long legs constraints tracks rules = rw (lt-leb (length s) most_text long)

-- such texts exist
pub long_text : (n b : ℕ) → most_text < n → most_text < length (replicate n b)
long_text n b h = rw (length-replicate n b) h

-- ---- and so a check answers

module _ (S : Stated) (x : Texts) (s : List ℕ) (t : Tables) (c : List ℕ) where
  pub check-horizon_out : (S.horizon < least_horizon) ⊎ (most_horizon < S.horizon) → (checked S x s t c).answer ≡ Refused (refusal bad_horizon no_file 0)
  unfolding checked all_read
  check-horizon_out h = rw (horizon_out S x (rooms_of t) h)

  pub check_edition_out : least_horizon ≤ S.horizon → S.horizon ≤ most_horizon → (KnownEdition S.edition → ⊥) → (checked S x s t c).answer ≡ Refused (refusal unknown_edition no_file 0)
  unfolding checked all_read
  check_edition_out least most other = rw (edition_out S x (rooms_of t) least most other)

  pub check-timetable-too_long : (least_horizon ≤ S.horizon) × (S.horizon ≤ most_horizon) → KnownEdition S.edition → most_text < length x.timetable → (checked S x s t c).answer ≡ Refused (refusal too_long timetable_file 0)
  unfolding checked all_read files_of
  check-timetable-too_long range edition long = rw (good_known S range edition, timetable-too_long x.timetable long)
