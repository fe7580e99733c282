-- The two tables of a timetable give its rows back: each row's list, its id, and its nominal at the leg's place. Assumes nothing.
use Prim.Native.Nat.{ℕ, suc, ◌+◌, ◌<◌}
use native.Mathlib.Omega.{arith}
use mathlib.Core.Path.{◌≡◌, refl, sym, ap, ap₂, ◌∙◌, subst}
use mathlib.Core.List.{List, [], ◌∷◌, ◌++◌, map, append_assoc}
use lib.Dec.{T}
use lib.ListN.{length, get_or, drop, length-append, get_or-append}
use lib.Seq.{get_or-append-add}
use Rattle.rules.specs.Limits.{configuration_width}
use Rattle.rules.specs.Lists.{flat, over}
use Rattle.rules.specs.Energy.{tabulate}
use Rattle.rules.specs.Timetable.{Row, offers, nominal_place, leg_of, legs_from, legs_of, configurations_of, choices_of, leg_numbers, configuration_numbers}
use Rattle.rules.specs.Reading.{leg_ids}
use Rattle.rules.specs.Verdict.{All, offered, no_choice}
use Rattle.rules.specs.declared.sizes.Leg.{Leg}
use Rattle.rules.specs.declared.sizes.Configuration.{Configuration}
use Rattle.rules_theorems.proofs.Tables.{nominal_there}
use Rattle.tables_views.specs.View.{as_configuration, leg_at, configuration_at, legs_in, part_of, offers_in}
use Rattle.tables_views.proofs.Tabulated.{tabulate_is, tabulate-map}
use Rattle.tables_views.proofs.Views.{configuration_layout, record_is, legs-written}

-- ---- one walk over the rows and their legs

pub legs-length : (first : ℕ) (rows : List Row) → length (legs_from first rows) ≡ length rows
legs-length first [] = refl
legs-length first (r ∷ rows) = ap suc (legs-length (first + length r.list) rows)

-- a function that gives a list's configurations by number
abbrev Gives : (ℕ → Configuration) → List Configuration → Type 0
Gives at cs = (j : ℕ) → j < length cs → at j ≡ get_or cs j no_choice

module _ (at : ℕ → Configuration) where
  -- a part that starts where a list starts, and is as long, is that list
  part_is : (before list after : List Configuration) → Gives at (before ++ (list ++ after))
      → tabulate (length list) (λ j. at (length before + j)) ≡ list
  part_is before list after gives =
      tabulate_is no_choice list (λ j. at (length before + j))
      (λ j h. gives (length before + j) (within j h)
      ∙ get_or-append-add before (list ++ after) j no_choice
      ∙ get_or-append list after no_choice j h)
    where
      within : (j : ℕ) → j < length list → length before + j < length (before ++ (list ++ after))
      within j h = rw (length-append before (list ++ after), length-append list after) (omega arith)

  -- what a leg and its part say of a row, the legs and the configurations say of all rows
  legs_say : {B : Type 0} (P : Row → Type 0) (f : Leg → B) (g : Row → B)
      → ((first : ℕ) (r : Row) → P r → part_of at (leg_of first r) ≡ r.list → f (leg_of first r) ≡ g r)
      → (before : List Configuration) (rows : List Row) → All P rows → Gives at (before ++ configurations_of rows)
      → map f (legs_from (length before) rows) ≡ map g rows
  legs_say P f g one before [] all gives = refl
  legs_say P f g one before (r ∷ rows) all gives =
      ap₂ ◌∷◌ (one (length before) r all.0 (part_is before r.list (configurations_of rows) gives))
      (ap (λ n. map f (legs_from n rows)) (sym (length-append before r.list))
      ∙ legs_say P f g one (before ++ r.list) rows all.1
      (subst (Gives at) (sym (append_assoc before r.list (configurations_of rows))) gives))

-- ---- the two tables of a timetable

all_rows : (rows : List Row) → All (λ r. Unit {0}) rows
all_rows [] = tt
all_rows (r ∷ rows) = (tt, all_rows rows)

module _ (rows : List Row) (legs configurations : List ℕ) where
  abbrev leg_table : List ℕ
  leg_table = over (flat leg_numbers (legs_of rows)) legs

  abbrev configuration_table : List ℕ
  configuration_table = over (flat configuration_numbers (configurations_of rows)) configurations

  -- the leg table is seen as the legs of the rows
  pub legs_seen : legs_in (length rows) leg_table ≡ legs_of rows
  legs_seen = subst (λ n. legs_in n leg_table ≡ legs_of rows) (legs-length 0 rows) (legs-written (legs_of rows) legs)

  configurations_given : Gives (configuration_at configuration_table) (configurations_of rows)
  unfolding over
  configurations_given =
      record_is configuration_width configuration_numbers as_configuration configuration_layout no_choice (configurations_of rows)
      (drop (length (flat configuration_numbers (configurations_of rows))) configurations)

  seen : {B : Type 0} (P : Row → Type 0) (f : Leg → B) (g : Row → B)
      → ((first : ℕ) (r : Row) → P r → part_of (configuration_at configuration_table) (leg_of first r) ≡ r.list → f (leg_of first r) ≡ g r)
      → All P rows → map f (legs_in (length rows) leg_table) ≡ map g rows
  seen P f g one all = ap (map f) legs_seen ∙ legs_say (configuration_at configuration_table) P f g one [] rows all configurations_given

  -- THE OFFERS: the two tables give the list of each row, in order
  pub offers-written : offers_in (length rows) leg_table configuration_table ≡ offered rows
  offers-written =
      tabulate-map (part_of (configuration_at configuration_table)) (length rows) (leg_at leg_table)
      ∙ seen (λ r. Unit {0}) (part_of (configuration_at configuration_table)) (λ r. r.list) (λ first r p e. e) (all_rows rows)

  -- the ids of the rows, in order
  pub ids-written : map (λ l. l.id) (legs_in (length rows) leg_table) ≡ leg_ids rows
  ids-written = seen (λ r. Unit {0}) (λ l. l.id) (λ r. r.leg) (λ first r p e. refl) (all_rows rows)

  -- the nominal of each row that lists it, at its leg's place of its list
  pub nominals-written : All (λ r. T (offers r.list r.nominal)) rows
      → map (λ l. get_or (part_of (configuration_at configuration_table) l) l.nominal no_choice) (legs_in (length rows) leg_table) ≡ choices_of rows
  nominals-written =
      seen (λ r. T (offers r.list r.nominal))
      (λ l. get_or (part_of (configuration_at configuration_table) l) l.nominal no_choice) (λ r. r.nominal)
      (λ first r listed e. ap (λ list. get_or list (nominal_place r) no_choice) e ∙ nominal_there r listed)
