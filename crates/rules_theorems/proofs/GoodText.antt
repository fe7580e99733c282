-- What a CSV text that is read without refusal is: its header, then lines ended by LF, each of them right after the rows before it. Assumes nothing.
use Prim.Native.Nat.{ℕ, ◌+◌, ◌≤◌}
use mathlib.Core.Path.{◌≡◌, refl, ap, sym, subst, ◌∙◌}
use mathlib.Core.Bool.{Bool, true, false, cond}
use mathlib.Core.List.{List, [], ◌∷◌, ◌++◌, append-nil, append_assoc}
use mathlib.Core.Logic.{◌↔◌}
use native.Mathlib.Omega.{arith}
use lib.Dec.{T, leb, leb→le}
use lib.ListN.{length}
use borrow.Author.Tests.{le-leb}
use Rattle.rules.specs.Limits.{most_text}
use Rattle.rules.specs.Lists.{same_lists, flat}
use Rattle.rules.specs.Answers.{Reading, refused, good, Judged, wrong, right, Test, judge}
use Rattle.rules.specs.declared.answers.Refusal.{Refusal}
use Rattle.rules.specs.Bytes.{line_feed, split_on, joined, less_return, contents_of}
use Rattle.rules.specs.Rows.{are_names, heads, on_row, last_line, rows_from, headed, csv_of}
use Rattle.rules.specs.Verdict.{All}
use Rattle.rules.proofs.Truth.{is_true, holds, all_front}
use Rattle.rules.proofs.Lists.{all_self, all_equal}
use Rattle.rules.proofs.Pieces.{Free, ended, split_ended, split_free, joined_split, joined_ended}
use Rattle.rules_theorems.specs.Lists.{EachAfter, Along}
use Rattle.rules_theorems.specs.WellFormed.{Passed, Tells, Spelled}
use Rattle.std.specs.Prelude.{Option, Some, None}

-- ---- a reading that no test refuses

pub never_good : {A B : Type 0} (r : Refusal) (y : A) → refused r ≡ good y → B
never_good r y e = let z : ◌≡◌ {A = ℕ} 0 1 = cc in absurd (omega arith)

pub good_test : {A : Type 0} (t : Bool) (x : Reading A) (r : Refusal) (y : A) → cond t x (refused r) ≡ good y → T t × (x ≡ good y)
good_test true x r y e = (tt, e)
good_test false x r y e = never_good r y e

pub never_right : {A B : Type 0} (n : ℕ) (y : A) → wrong n ≡ right y → B
never_right n y e = let z : ◌≡◌ {A = ℕ} 0 1 = cc in absurd (omega arith)

-- all tests of a judgement hold
pub judged_right : {A : Type 0} (tests : List Test) (x y : A) → judge tests x ≡ right y → Passed tests × (x ≡ y)
judged_right [] x y e = (tt, cc)
judged_right {A = A} (t ∷ tests) x y e = go t.holds e (judged_right tests x y)
  where
    go : (b : Bool) → cond b (judge tests x) (wrong t.number) ≡ right y → (judge tests x ≡ right y → Passed tests × (x ≡ y))
        → (T b × Passed tests) × (x ≡ y)
    go true e ih = ((tt, (ih e).0), (ih e).1)
    go false e ih = never_right t.number y e

pub right_judged : {A : Type 0} (tests : List Test) (x : A) → Passed tests → judge tests x ≡ right x
right_judged [] x h = refl
right_judged (t ∷ tests) x h = rw (is_true t.holds h.0) (right_judged tests x h.1)

-- what was judged right has passed its own tests
pub passed_own : {A : Type 0} (tests : A → List Test) (x y : A) → judge (tests x) x ≡ right y → (Some x ≡ Some y) × Passed (tests y)
passed_own {A = A} tests x y e = settle (judged_right (tests x) x y e)
  where
    settle : Passed (tests x) × (x ≡ y) → (Some x ≡ Some y) × Passed (tests y)
    settle k = (ap (λ (z : A). Some z) k.1, rw k.1 at k.0)

-- ---- lines and their rows

-- each line is right, and is its row, after the rows before it
abbrev pub Reads : {A : Type 0} → (List A → List ℕ → Judged A) → List A → List (List ℕ) → List A → Type 0
Reads row_of before [] [] = Unit {0}
Reads row_of before [] (r ∷ rows) = ⊥
Reads row_of before (line ∷ lines) [] = ⊥
Reads row_of before (line ∷ lines) (r ∷ rows) = (row_of before (less_return line) ≡ right r) × Reads row_of (before ++ r ∷ []) lines rows

-- a text of a header line and of lines that read as rows
pub record Good {A : Type 0} (row_of : List A → List ℕ → Judged A) (names : List (List ℕ)) (s : List ℕ) (rows : List A) : Type 0 where
  pub first : List ℕ
  pub lines : List (List ℕ)
  pub line_free : All (Free line_feed) (first ∷ lines)
  pub text : s ≡ flat (ended line_feed) (first ∷ lines)
  pub named : T (heads names first)
  pub reads : Reads row_of [] lines rows
  pub short : length s ≤ most_text

module _ {A : Type 0} (file : ℕ) (row_of : List A → List ℕ → Judged A) where
  last-read : (place : ℕ) (before : List A) (line : List ℕ) (all : List A) → last_line file row_of place before line ≡ good all → (line ≡ []) × (all ≡ before)
  last-read place before [] all e = (refl, cc)
  last-read place before (b ∷ s) all e = never_good _ all e

  row_read : (place : ℕ) (j : Judged A) (more : A → Reading (List A)) (all : List A) → on_row file row_of place j more ≡ good all → (r : A) × (j ≡ right r) × (more r ≡ good all)
  row_read place (wrong n) more all e = never_good _ all e
  row_read place (right r) more all e = (r, refl, e)

  rows-read : (place : ℕ) (before : List A) (line : List ℕ) (more : List (List ℕ)) (all : List A)
      → rows_from file row_of place before (line ∷ more) ≡ good all
      → (lines : List (List ℕ)) × (rows : List A) × (line ∷ more ≡ lines ++ [] ∷ []) × (all ≡ before ++ rows) × Reads row_of before lines rows
  rows-read place before line [] all e =
      let k : (line ≡ []) × (all ≡ before) = last-read place before line all e in
      ([], [], ap (λ (l : List ℕ). l ∷ []) k.0, rw append-nil k.1, tt)
  rows-read place before line (next ∷ more) all e =
      let k : (r : A) × (row_of before (less_return line) ≡ right r) × (rows_from file row_of (place + length line + 1) (before ++ r ∷ []) (next ∷ more) ≡ good all) =
      row_read place (row_of before (less_return line)) (λ r. rows_from file row_of (place + length line + 1) (before ++ r ∷ []) (next ∷ more)) all e in
      let ih = rows-read (place + length line + 1) (before ++ k.0 ∷ []) next more all k.2 in
      (line ∷ ih.0, k.0 ∷ ih.1, ap (λ (l : List (List ℕ)). line ∷ l) ih.2, ih.3 ∙ append_assoc before (k.0 ∷ []) ih.1, (k.1, ih.4))

  read-rows : (place : ℕ) (before : List A) (lines : List (List ℕ)) (rows : List A) → Reads row_of before lines rows
      → rows_from file row_of place before (lines ++ [] ∷ []) ≡ good (before ++ rows)
  read-rows place before [] [] h = rw append-nil
  read-rows place before [] (r ∷ rows) h = absurd h
  read-rows place before (line ∷ lines) [] h = absurd h
  read-rows place before (line ∷ []) (r ∷ rows) h =
      ap (λ (j : Judged A). on_row file row_of place j (λ row. rows_from file row_of (place + length line + 1) (before ++ row ∷ []) ([] ∷ []))) h.0
      ∙ read-rows (place + length line + 1) (before ++ r ∷ []) [] rows h.1
      ∙ rw append_assoc
  read-rows place before (line ∷ next ∷ lines) (r ∷ rows) h =
      ap (λ (j : Judged A). on_row file row_of place j (λ row. rows_from file row_of (place + length line + 1) (before ++ row ∷ []) (next ∷ (lines ++ [] ∷ [])))) h.0
      ∙ read-rows (place + length line + 1) (before ++ r ∷ []) (next ∷ lines) rows h.1
      ∙ rw append_assoc

  -- pieces of a text that are read without refusal: lines, and nothing after the last
  pieces-read : (place : ℕ) (ps : List (List ℕ)) (rows : List A) → (p : List ℕ) × (more : List (List ℕ)) × (ps ≡ p ∷ more)
      → rows_from file row_of place [] ps ≡ good rows → (lines : List (List ℕ)) × (ps ≡ lines ++ [] ∷ []) × Reads row_of [] lines rows
  pieces-read place ps rows c e = settle (rows-read place [] c.0 c.1 rows (rw c.2 at e))
    where
      settle : (lines : List (List ℕ)) × (found : List A) × (c.0 ∷ c.1 ≡ lines ++ [] ∷ []) × (rows ≡ found) × Reads row_of [] lines found
          → (lines : List (List ℕ)) × (ps ≡ lines ++ [] ∷ []) × Reads row_of [] lines rows
      settle k = (k.0, c.2 ∙ k.2, rw k.3 k.4)

  -- the first line of a text that is read without refusal is its header, and the others are rows
  lines_read : (names : List (List ℕ)) (ps : List (List ℕ)) (rows : List A) → headed file row_of names ps ≡ good rows
      → (first : List ℕ) × (lines : List (List ℕ)) × (ps ≡ (first ∷ lines) ++ [] ∷ []) × T (heads names first) × Reads row_of [] lines rows
  lines_read names [] rows e = never_good _ rows e
  lines_read names (line ∷ []) rows e = never_good _ rows e
  lines_read names (line ∷ next ∷ more) rows e =
      let a = good_test (heads names line) _ _ rows e in
      let k = pieces-read (length line + 1) (next ∷ more) rows (next, more, refl) a.1 in
      (line, k.0, ap (λ (l : List (List ℕ)). line ∷ l) k.1, a.0, k.2)

  read_lines : (names : List (List ℕ)) (first : List ℕ) (lines : List (List ℕ)) (rows : List A) → T (heads names first) → Reads row_of [] lines rows
      → headed file row_of names ((first ∷ lines) ++ [] ∷ []) ≡ good rows
  read_lines names first [] rows h k = rw (is_true (heads names first) h) (read-rows (length first + 1) [] [] rows k)
  read_lines names first (line ∷ lines) rows h k = rw (is_true (heads names first) h) (read-rows (length first + 1) [] (line ∷ lines) rows k)

  -- a text is read without refusal exactly where it is a header line and lines that read as the rows
  pub csv_good : (names : List (List ℕ)) (s : List ℕ) (rows : List A) → (csv_of file row_of names s ≡ good rows) ↔ Good row_of names s rows
  unfolding csv_of
  csv_good names s rows = (there, back)
    where
      there : csv_of file row_of names s ≡ good rows → Good row_of names s rows
      there e =
          let a = good_test (leb (length s) most_text) _ _ rows e in
          let k = lines_read names (split_on line_feed s) rows a.1 in
          record {
            first = k.0;
            lines = k.1;
            line_free = all_front (Free line_feed) (k.0 ∷ k.1) ([] ∷ []) (rw k.2 at (split_free line_feed s));
            text = sym (joined_split line_feed s) ∙ ap (joined line_feed) k.2 ∙ joined_ended line_feed (k.0 ∷ k.1);
            named = k.3;
            reads = k.4;
            short = leb→le (length s) most_text a.0;
          }

      back : Good row_of names s rows → csv_of file row_of names s ≡ good rows
      back g =
          rw (le-leb (length s) most_text g.short)
          (ap (headed file row_of names) (ap (split_on line_feed) g.text ∙ split_ended line_feed (g.first ∷ g.lines) g.line_free)
          ∙ read_lines names g.first g.lines rows g.named g.reads)

-- ---- a text by what its lines tell

-- a line is a header exactly where its contents are the names
header_names : (names : List (List ℕ)) (line : List ℕ) → T (heads names line) → contents_of (less_return line) ≡ Some names
header_names names line = go (contents_of (less_return line)) refl
  where
    go : (o : Option (List (List ℕ))) → contents_of (less_return line) ≡ o → T (are_names names o) → contents_of (less_return line) ≡ Some names
    go None e h = absurd h
    go (Some fields) e h = e ∙ ap (λ (fs : List (List ℕ)). Some fs) (all_equal fields names (is_true (same_lists fields names) h))

names_header : (names : List (List ℕ)) (line : List ℕ) → contents_of (less_return line) ≡ Some names → T (heads names line)
names_header names line e = subst (λ (o : Option (List (List ℕ))). T (are_names names o)) (sym e) (holds (same_lists names names) (all_self names))

module _ {A : Type 0} (row_of : List A → List ℕ → Judged A) (Says : List (List ℕ) → A → Type 0) (Kept : List A → A → Type 0)
    (one : (before : List A) (line : List ℕ) (r : A) → (row_of before (less_return line) ≡ right r) ↔ (Tells Says line r × Kept before r)) where
  reads_told : (before : List A) (lines : List (List ℕ)) (rows : List A) → Reads row_of before lines rows → Along (Tells Says) lines rows × EachAfter Kept before rows
  reads_told before [] [] h = (tt, tt)
  reads_told before [] (r ∷ rows) h = absurd h
  reads_told before (line ∷ lines) [] h = absurd h
  reads_told before (line ∷ lines) (r ∷ rows) h =
      let k = (one before line r).0 h.0 in
      let ih = reads_told (before ++ r ∷ []) lines rows h.1 in
      ((k.0, ih.0), (k.1, ih.1))

  told_reads : (before : List A) (lines : List (List ℕ)) (rows : List A) → Along (Tells Says) lines rows → EachAfter Kept before rows → Reads row_of before lines rows
  told_reads before [] [] h k = tt
  told_reads before [] (r ∷ rows) h k = absurd h
  told_reads before (line ∷ lines) [] h k = absurd h
  told_reads before (line ∷ lines) (r ∷ rows) h k = ((one before line r).1 (h.0, k.0), told_reads (before ++ r ∷ []) lines rows h.1 k.1)

  -- where a line is right exactly if it tells a row that keeps a law, a text is read exactly where its lines tell such rows and it is short enough
  pub told_good : (file : ℕ) (names : List (List ℕ)) (s : List ℕ) (rows : List A)
      → (csv_of file row_of names s ≡ good rows) ↔ (EachAfter Kept [] rows × Spelled names Says s rows × (length s ≤ most_text))
  told_good file names s rows = (λ e. there ((csv_good file row_of names s rows).0 e), λ w. (csv_good file row_of names s rows).1 (back w))
    where
      there : Good row_of names s rows → EachAfter Kept [] rows × Spelled names Says s rows × (length s ≤ most_text)
      there g =
          let k = reads_told [] g.lines rows g.reads in
          (k.1, record { first = g.first; lines = g.lines; text = g.text; free = g.line_free; named = header_names names g.first g.named; told = k.0 }, g.short)

      back : EachAfter Kept [] rows × Spelled names Says s rows × (length s ≤ most_text) → Good row_of names s rows
      back w =
          record {
            first = w.1.first;
            lines = w.1.lines;
            line_free = w.1.free;
            text = w.1.text;
            named = names_header names w.1.first w.1.named;
            reads = told_reads [] w.1.lines rows w.1.told w.0;
            short = w.2;
          }
