-- A timetable, a solution or a profiles text is read without refusal exactly where it spells what is lawful and has room. Assumes nothing.
use Prim.Native.Nat.{ℕ, zero, suc, ◌-◌, ◌≤◌, ◌<◌}
use mathlib.Core.Path.{◌≡◌, refl, ap, sym, ◌∙◌}
use mathlib.Core.Bool.{Bool}
use mathlib.Core.List.{List, [], ◌∷◌, ◌++◌, map}
use mathlib.Core.Logic.{◌↔◌}
use native.Mathlib.Omega.{arith}
use lib.Dec.{T}
use lib.ListN.{length, take, length-map}
use Rattle.rules.specs.Limits.{most_text, least_sampled}
use Rattle.rules.specs.Lists.{◌>>=◌, flat}
use Rattle.rules.specs.Answers.{good, right, bad_row, timetable_file, profiles_file}
use Rattle.rules.specs.Bytes.{line_feed, comma, joined, less_return, contents_of}
use Rattle.rules.specs.Rows.{csv_of, place_of_row}
use Rattle.rules.specs.Timetable.{Row, row_tests, judge_form, row_of, form_of, offers, draft_fits, solution_fits, timetable_names, timetable_header, timetable_of, solution_of}
use Rattle.rules.specs.Profiles.{Curve, two_of, profiles_names, profiles_of, form_of as curve_form, row_tests as curve_tests, judge_form as judge_curve, row_of as curve_row}
use Rattle.rules.specs.Merge.{text_of}
use Rattle.rules.specs.Verdict.{All}
use Rattle.rules.specs.declared.sizes.Configuration.{Configuration}
use Rattle.rules.proofs.Truth.{found_first}
use Rattle.rules.proofs.Pieces.{Free, ended, split_free, row-start}
use Rattle.rules_theorems.specs.Lists.{EachAfter, Along}
use Rattle.rules_theorems.specs.WellFormed.{Passed, Tells, Spelled, any_room, fields_of, RowFields, Written, LawfulCurves, CurveFields, WrittenCurves}
use Rattle.rules_theorems.proofs.Each.{each_map, each_two}
use Rattle.rules_theorems.proofs.GoodText.{never_right, right_judged, passed_own, told_good}
use Rattle.rules_theorems.proofs.Forms.{line_of, line_free_lem, line-contents, form_spelled, form_one}
use Rattle.rules_theorems.proofs.Samples.{fields_read, read_fields}
use Rattle.std.specs.Prelude.{Option, Some, None}

flat_map : {A B C : Type 0} (f : B → List C) (g : A → B) (xs : List A) → flat f (map g xs) ≡ flat (λ x. f (g x)) xs
flat_map f g [] = refl
flat_map f g (x ∷ xs) = rw (flat_map f g xs)

-- a list that offers something is not empty
pub offers_some : (l : List Configuration) (c : Configuration) → T (offers l c) → 0 < length l
offers_some [] c h = absurd h
offers_some (x ∷ l) c h = omega arith

-- ---- rows of a timetable

module _ (H : ℕ) (fits : List Row → Row → Bool) where
  -- the tests of a row, room aside, and room
  tests-apart : (before : List Row) (r : Row) → Passed (row_tests H fits before r) → Passed (row_tests H any_room before r) × T (fits before r)
  tests-apart before r h = ((h.0, (h.1.0, (h.1.1.0, (h.1.1.1.0, (tt, tt))))), h.1.1.1.1.0)

  tests-together : (before : List Row) (r : Row) → Passed (row_tests H any_room before r) → T (fits before r) → Passed (row_tests H fits before r)
  tests-together before r h k = (h.0, (h.1.0, (h.1.1.0, (h.1.1.1.0, (k, tt)))))

  pub form_right : (before : List Row) (o : Option Row) (r : Row) → judge_form H fits before o ≡ right r → (o ≡ Some r) × Passed (row_tests H fits before r)
  form_right before None r e = never_right bad_row r e
  form_right before (Some q) r e = passed_own (row_tests H fits before) q r e

  -- a line that is right has its row's contents, and the row passes its tests
  pub row_right : (before : List Row) (line : List ℕ) (r : Row) → row_of H fits before line ≡ right r
      → (contents_of line ≡ Some (fields_of r)) × Passed (row_tests H any_room before r) × T (fits before r)
  row_right before line r e = settle (form_right before (form_of line) r e)
    where
      settle : (form_of line ≡ Some r) × Passed (row_tests H fits before r) → (contents_of line ≡ Some (fields_of r)) × Passed (row_tests H any_room before r) × T (fits before r)
      settle k = let a = tests-apart before r k.1 in (form_one line r k.0, a.0, a.1)

  -- a row that passes its tests is read from a line with its contents
  pub right_row : (before : List Row) (line : List ℕ) (r : Row) → contents_of line ≡ Some (fields_of r) → Passed (row_tests H any_room before r) → T (fits before r)
      → row_of H fits before line ≡ right r
  right_row before line r e h k =
      ap (judge_form H fits before) (form_spelled line r e (offers_some r.list r.nominal h.1.1.1.0)) ∙ right_judged (row_tests H fits before r) r (tests-together before r h k)

  -- what a line that is right tells
  row_told : (before : List Row) (line : List ℕ) (r : Row)
      → (row_of H fits before (less_return line) ≡ right r) ↔ (Tells RowFields line r × (Passed (row_tests H any_room before r) × T (fits before r)))
  row_told before line r = (there, λ t. right_row before (less_return line) r (t.0.contents ∙ ap (λ (fs : List (List ℕ)). Some fs) t.0.says) t.1.0 t.1.1)
    where
      there : row_of H fits before (less_return line) ≡ right r → Tells RowFields line r × (Passed (row_tests H any_room before r) × T (fits before r))
      there e = let k = row_right before (less_return line) r e in (record { fields = fields_of r; contents = k.0; says = refl }, (k.1, k.2))

lines_free : (rows : List Row) → All (Free line_feed) (map line_of rows)
lines_free [] = tt
lines_free (r ∷ rows) = (line_free_lem r, lines_free rows)

lines_told : (rows : List Row) → Along (Tells RowFields) (map line_of rows) rows
lines_told [] = tt
lines_told (r ∷ rows) = (record { fields = fields_of r; contents = line-contents r; says = refl }, lines_told rows)

-- the text that rows write spells them
pub spelled_own : (rows : List Row) → Spelled timetable_names RowFields (text_of rows) rows
unfolding text_of
spelled_own rows =
    record {
      first = joined comma timetable_names;
      lines = map line_of rows;
      text = ap (λ (r : List ℕ). timetable_header ++ r) (sym (flat_map (ended line_feed) line_of rows));
      free = ((split_free line_feed (joined comma timetable_names)).0, lines_free rows);
      named = refl;
      told = lines_told rows;
    }

-- a text is read without refusal as rows exactly where they are lawful, have room, and it spells them
pub rows_good : (H file : ℕ) (fits : List Row → Row → Bool) (s : List ℕ) (rows : List Row)
    → (csv_of file (row_of H fits) timetable_names s ≡ good rows) ↔ Written H fits s rows
rows_good H file fits s rows = (λ e. there (text.0 e), λ w. text.1 (each_two Tested Fits [] rows w.lawful w.fitting, w.spells, w.short))
  where
    Tested : List Row → Row → Type 0
    Tested before r = Passed (row_tests H any_room before r)

    Fits : List Row → Row → Type 0
    Fits before r = T (fits before r)

    text : (csv_of file (row_of H fits) timetable_names s ≡ good rows) ↔ (EachAfter (λ b r. Tested b r × Fits b r) [] rows × Spelled timetable_names RowFields s rows × (length s ≤ most_text))
    text = told_good (row_of H fits) RowFields (λ b r. Tested b r × Fits b r) (row_told H fits) file timetable_names s rows

    there : EachAfter (λ b r. Tested b r × Fits b r) [] rows × Spelled timetable_names RowFields s rows × (length s ≤ most_text) → Written H fits s rows
    there k =
        record {
          lawful = each_map (λ b r. Tested b r × Fits b r) Tested (λ b r h. h.0) [] rows k.0;
          fitting = each_map (λ b r. Tested b r × Fits b r) Fits (λ b r h. h.1) [] rows k.0;
          spells = k.1;
          short = k.2;
        }

-- timetable.csv
pub timetable_good : (H legs configurations : ℕ) (s : List ℕ) (rows : List Row)
    → (timetable_of H legs configurations s ≡ good rows) ↔ Written H (draft_fits legs configurations) s rows
unfolding timetable_of
timetable_good H legs configurations s rows = rows_good H timetable_file (draft_fits legs configurations) s rows

-- a solution
pub solution_good : (H file choices : ℕ) (s : List ℕ) (rows : List Row) → (solution_of H file choices s ≡ good rows) ↔ Written H (solution_fits choices) s rows
unfolding solution_of
solution_good H file choices s rows = rows_good H file (solution_fits choices) s rows

-- ---- profiles

module _ (profiles samples : ℕ) where
  pub curve_right : (before : List Curve) (o : Option Curve) (c : Curve) → judge_curve profiles samples before o ≡ right c → (o ≡ Some c) × Passed (curve_tests profiles samples before c)
  curve_right before None c e = never_right bad_row c e
  curve_right before (Some q) c e = passed_own (curve_tests profiles samples before) q c e

  -- what a line that is right tells
  curve-told : (before : List Curve) (line : List ℕ) (c : Curve)
      → (curve_row profiles samples before (less_return line) ≡ right c) ↔ (Tells CurveFields line c × (Passed (curve_tests profiles samples before c) × (least_sampled ≤ length c.samples)))
  curve-told before line c = (there, back)
    where
      there : curve_row profiles samples before (less_return line) ≡ right c → Tells CurveFields line c × (Passed (curve_tests profiles samples before c) × (least_sampled ≤ length c.samples))
      there e =
          let k = curve_right before (curve_form (less_return line)) c e in
          let f = found_first (contents_of (less_return line)) two_of c k.0 in
          let t = read_fields f.0 c f.2 in
          (record { fields = f.0; contents = f.1; says = t.0 }, (k.1, t.1))

      back : Tells CurveFields line c × (Passed (curve_tests profiles samples before c) × (least_sampled ≤ length c.samples)) → curve_row profiles samples before (less_return line) ≡ right c
      back t =
          ap (judge_curve profiles samples before) (ap (λ (x : Option (List (List ℕ))). x >>= two_of) t.0.contents ∙ fields_read t.0.fields c t.0.says t.1.1)
          ∙ right_judged (curve_tests profiles samples before c) c t.1.0

  -- profiles.csv: a text is read without refusal as profiles exactly where they are lawful, have room, and it spells them
  pub profiles_good : (s : List ℕ) (curves : List Curve) → (profiles_of profiles samples s ≡ good curves) ↔ WrittenCurves profiles samples s curves
  unfolding profiles_of
  profiles_good s curves = (λ e. there (text.0 e), λ w. text.1 (w.lawful, w.spells, w.short))
    where
      text : (csv_of profiles_file (curve_row profiles samples) profiles_names s ≡ good curves) ↔ (LawfulCurves profiles samples curves × Spelled profiles_names CurveFields s curves × (length s ≤ most_text))
      text =
          told_good (curve_row profiles samples) CurveFields (λ b c. Passed (curve_tests profiles samples b c) × (least_sampled ≤ length c.samples)) curve-told
          profiles_file profiles_names s curves

      there : LawfulCurves profiles samples curves × Spelled profiles_names CurveFields s curves × (length s ≤ most_text) → WrittenCurves profiles samples s curves
      there k = record { lawful = k.0; spells = k.1; short = k.2 }

-- ---- where a row starts

take-map : {A B : Type 0} (f : A → B) (n : ℕ) (xs : List A) → take n (map f xs) ≡ map f (take n xs)
take-map f zero xs = refl
take-map f (suc n) [] = refl
take-map f (suc n) (x ∷ xs) = rw (take-map f n xs)

header_line : List ℕ
header_line = take (length timetable_header - 1) timetable_header

-- row i of the text of rows starts after the header and the rows before it
pub row_place : (rows : List Row) (i : ℕ) → i ≤ length rows → place_of_row (text_of rows) i ≡ length (text_of (take i rows))
unfolding text_of header_line
row_place rows i h =
    rw (← flat_map (ended line_feed) line_of rows, ← flat_map (ended line_feed) line_of (take i rows), ← take-map line_of i rows)
    (row-start header_line (map line_of rows) i ((split_free line_feed header_line).0, lines_free rows) (rw (length-map rows line_of) h))
