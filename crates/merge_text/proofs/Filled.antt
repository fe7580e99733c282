-- Tables that hold a draft's rows and two solutions' choices: what is written out of them is the merged text of document 01. Assumes nothing.
use Prim.Native.Nat.{ℕ, ◌+◌, ◌≤◌, ◌<◌}
use mathlib.Core.Path.{◌≡◌, refl, ap, ap₂, sym, subst, ◌∙◌}
use mathlib.Core.List.{List, [], ◌∷◌, map}
use lib.Dec.{leb}
use lib.ListN.{length}
use Rattle.rules.specs.Lists.{flat, over}
use Rattle.rules.specs.Timetable.{Row, row, leg_of, legs_from, legs_of, configurations_of, leg_numbers, configuration_numbers}
use Rattle.rules.specs.Verdict.{offered}
use Rattle.rules.specs.Merge.{zipped, earlier, later, chosen, text_of, unequal_from, merge_of}
use Rattle.rules.specs.declared.sizes.Configuration.{Configuration}
use Rattle.rules.specs.declared.outcomes.Direction.{Direction}
use Rattle.rules.specs.declared.outcomes.Direction.TheVariants.{Earlier, Later}
use Rattle.tables_views.specs.View.{leg_at, configuration_at, part_of, configurations_in}
use Rattle.tables_views.proofs.Tabulated.{tabulate-map}
use Rattle.tables_views.proofs.Views.{configurations_written}
use Rattle.tables_views.proofs.Offers.{legs_seen, offers-written}
use Rattle.text_write.specs.Written.{last_place, Written}
use Rattle.timetable_writer.specs.Rows.{row_of}
use Rattle.merge_text.specs.Merges.{chosen_in, merged_in}
use Rattle.text_write.proofs.Writing.{written-fits, written_whole}

-- the two directions are document 01's two merges
pub earlier_is : merge_of Earlier ≡ earlier
earlier_is = refl

pub later_is : merge_of Later ≡ later
later_is = refl

-- legs whose parts of the table are the rows' lists make the draft's rows, with these choices
rows-chosen : (configurations : List ℕ) (first : ℕ) (rows : List Row) (cs : List Configuration)
    → map (part_of (configuration_at configurations)) (legs_from first rows) ≡ offered rows
    → zipped (row_of configurations) (legs_from first rows) cs ≡ chosen rows cs
rows-chosen configurations first [] cs e = refl
rows-chosen configurations first (r ∷ rows) [] e = refl
rows-chosen configurations first (r ∷ rows) (c ∷ cs) e =
    let head : part_of (configuration_at configurations) (leg_of first r) ≡ r.list = cc in
    let tail : map (part_of (configuration_at configurations)) (legs_from (first + length r.list) rows) ≡ offered rows = cc in
    ap₂ ◌∷◌ (ap (row r.leg r.train r.track r.start r.end c) head)
    (rows-chosen configurations (first + length r.list) rows cs tail)

module _ (rows : List Row) (legs configurations : List ℕ) where
  abbrev leg_table : List ℕ
  leg_table = over (flat leg_numbers (legs_of rows)) legs

  abbrev configuration_table : List ℕ
  configuration_table = over (flat configuration_numbers (configurations_of rows)) configurations

  -- the draft's tables give its rows, with any choices
  pub chosen_seen : (cs : List Configuration) → chosen_in (length rows) leg_table configuration_table cs ≡ chosen rows cs
  chosen_seen cs =
      ap (λ ls. zipped (row_of configuration_table) ls cs) (legs_seen rows legs configurations)
      ∙ rows-chosen configuration_table 0 rows cs
      (ap (map (part_of (configuration_at configuration_table))) (sym (legs_seen rows legs configurations))
      ∙ sym (tabulate-map (part_of (configuration_at configuration_table)) (length rows) (leg_at leg_table))
      ∙ offers-written rows legs configurations)

-- a solution's table gives its choices
pub choices_seen : (n : ℕ) (cs : List Configuration) (t : List ℕ) → length cs ≡ n → configurations_in n (over (flat configuration_numbers cs) t) ≡ cs
choices_seen n cs t e =
    subst (λ (k : ℕ). configurations_in k (over (flat configuration_numbers cs) t) ≡ cs) e (configurations_written cs t)

module _ (rows : List Row) (legs configurations : List ℕ) (a b : List Configuration) (first second : List ℕ)
    (size_a : length a ≡ length rows) (size_b : length b ≡ length rows) where
  abbrev first_table : List ℕ
  first_table = over (flat configuration_numbers a) first

  abbrev second_table : List ℕ
  second_table = over (flat configuration_numbers b) second

  -- 17 over the tables is 17 over the choices
  pub unequal_seen : unequal_from 0 (configurations_in (length rows) first_table) (configurations_in (length rows) second_table) ≡ unequal_from 0 a b
  unequal_seen = ap₂ (unequal_from 0) (choices_seen (length rows) a first size_a) (choices_seen (length rows) b second size_b)

  -- the rows of the merge are the draft's with the earlier, or the later, choices
  pub merged_seen : (d : Direction)
      → merged_in d (length rows) (leg_table rows legs configurations) (configuration_table rows legs configurations) first_table second_table
      ≡ chosen rows (merge_of d a b)
  merged_seen d =
      ap (chosen_in (length rows) (leg_table rows legs configurations) (configuration_table rows legs configurations))
      (ap₂ (merge_of d) (choices_seen (length rows) a first size_a) (choices_seen (length rows) b second size_b))
      ∙ chosen_seen rows legs configurations (merge_of d a b)

  -- THE MERGED TEXT: what `put_merged` answers tells whether the text fits; where it does, the text stands over the buffer
  module _ (d : Direction) (text text' : List ℕ) (r : ℕ)
      (written : Written text 0 (text_of (merged_in d (length rows) (leg_table rows legs configurations) (configuration_table rows legs configurations) first_table second_table)) text' r) where
    abbrev merged_text : List ℕ
    merged_text = text_of (chosen rows (merge_of d a b))

    merged-written : Written text 0 merged_text text' r
    merged-written = subst (λ (rs : List Row). Written text 0 (text_of rs) text' r) (merged_seen d) written

    -- 16: whether the text is at most m bytes long, for the buffer's length and for the text limit
    pub merged-fits : (m : ℕ) → m < last_place → leb r m ≡ leb (length merged_text) m
    merged-fits = written-fits merged-written

    -- past the written text the buffer keeps its contents
    pub merged_whole : length text < last_place → r ≤ length text → (r ≡ length merged_text) × (text' ≡ over merged_text text)
    merged_whole = written_whole merged-written
