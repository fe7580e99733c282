-- Tables that hold records at their front: how many fit, and the columns of the legs. Assumes nothing.
use Prim.Native.Nat.{ℕ, ◌+◌}
use mathlib.Core.Path.{◌≡◌, refl, sym, ap, ap₂, ◌∙◌}
use mathlib.Core.List.{List, [], ◌∷◌, map}
use native.Mathlib.Omega.{arith}
use lib.ListN.{length, drop}
use lib.Seq.{drop-append_seam}
use Rattle.rules.specs.Limits.{leg_width}
use Rattle.rules.specs.Lists.{flat, over}
use Rattle.rules.specs.Energy.{tabulate}
use Rattle.rules.specs.Timetable.{Row, leg_of, legs_from, legs_of, leg_numbers}
use Rattle.rules.specs.Reading.{leg_ids}
use Rattle.rules.specs.declared.sizes.Leg.{Leg}
use Rattle.rules_theorems.specs.Lists.{Distinct}
use Rattle.tables_ids.specs.Column.{Records, Apart, column}
use Rattle.tables_ids.proofs.Written.{column-written}
use Rattle.files_tests.specs.Subnets.{leg_tracks}
use Rattle.files_tests.proofs.Holding.{front_records}
use Rattle.files_tests.proofs.Apart.{distinct_apart}
use Rattle.tables_views.specs.View.{leg_at}
use Rattle.tables_views.proofs.Tabulated.{tabulate-map}
use Rattle.tables_views.proofs.Offers.{legs-length, legs_seen}

-- what was written at the front stands at the front
pub front_held : {A : Type 0} (w t : List A) {table : List A} → table ≡ over w t → table ≡ over w table
unfolding over
front_held w t e = rw (e, drop-append_seam w (drop (length w) t))

-- what each leg says of its row, wherever its list starts
legs-map : (f : Leg → ℕ) (g : Row → ℕ) → ((first : ℕ) (r : Row) → f (leg_of first r) ≡ g r) → (first : ℕ) (rows : List Row) → map f (legs_from first rows) ≡ map g rows
legs-map f g e first [] = refl
legs-map f g e first (r ∷ rows) = ap₂ (λ x xs. x ∷ xs) (e first r) (legs-map f g e (first + length r.list) rows)

module _ (legs : List ℕ) (n : ℕ) (rows : List Row) (many : n ≡ length rows) (hold : legs ≡ over (flat leg_numbers (legs_of rows)) legs) where
  legs_many : n ≡ length (legs_of rows)
  legs_many = many ∙ sym (legs-length 0 rows)

  pub legs-records : Records leg_width n legs
  legs-records = front_records leg_numbers leg_width (omega arith) (λ l. refl) (legs_of rows) legs legs_many hold

  -- the ids of the legs
  pub legs-ids : column leg_width n legs ≡ leg_ids rows
  unfolding over
  legs-ids =
      ap₂ (column leg_width) legs_many hold
      ∙ column-written leg_numbers leg_width (omega arith) (λ l. refl) (legs_of rows) (drop (length (flat leg_numbers (legs_of rows))) legs)
      ∙ legs-map (λ l. l.id) (λ r. r.leg) (λ first r. refl) 0 rows

  -- no two are the same where the rows' are distinct
  pub legs-apart : Distinct (λ r. r.leg) rows → Apart leg_width n legs
  legs-apart distinct =
      record {
        records = legs-records;
        apart = λ i k h l e. distinct_apart (λ (r : Row). r.leg) rows distinct i k h (rw many at l) (rw legs-ids at e);
      }

  -- their tracks
  pub legs-tracks : leg_tracks n legs ≡ map (λ r. r.track) rows
  unfolding leg_tracks
  legs-tracks =
      tabulate-map (λ (l : Leg). l.track) n (leg_at legs)
      ∙ ap (map (λ (l : Leg). l.track)) seen
      ∙ legs-map (λ l. l.track) (λ r. r.track) (λ first r. refl) 0 rows
    where
      seen : tabulate n (leg_at legs) ≡ legs_of rows
      seen = ap₂ (λ k t. tabulate k (leg_at t)) many hold ∙ legs_seen rows legs []
