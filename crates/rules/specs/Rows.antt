-- A CSV text (document 01; document 02, E1) is its header, then rows, each ended by LF or CR LF, the last too. A row's place is its first byte.
use Rattle.std.specs.Prelude.{ℕ, suc, ◌+◌, Bool, false, cond, List, [], ◌∷◌, ◌++◌, leb, length, Option, Some, None}
use Rattle.rules.specs.Limits.{most_text}
use Rattle.rules.specs.Lists.{same_lists}
use Rattle.rules.specs.Answers.{refusal, too_long, bad_header, bad_row, Reading, refused, good, Judged, wrong, right}
use Rattle.rules.specs.Bytes.{line_feed, comma, split_on, joined, start_of, less_return, contents_of}

-- a header as it is written: its names with commas between, and LF
abbrev pub header_of : List (List ℕ) → List ℕ
header_of names = joined comma names ++ line_feed ∷ []

-- a line is read as a header by its contents
abbrev pub are_names : List (List ℕ) → Option (List (List ℕ)) → Bool
are_names names None = false
are_names names (Some fields) = same_lists fields names

abbrev pub heads : List (List ℕ) → List ℕ → Bool
heads names line = are_names names (contents_of (less_return line))

-- row_of judges a line, less its CR, after the rows before it
module _ {A : Type 0} (file : ℕ) (row_of : List A → List ℕ → Judged A) where
  -- a row at fault ends the reading
  abbrev pub on_row : (place : ℕ) → Judged A → (A → Reading (List A)) → Reading (List A)
  on_row place (wrong n) more = refused (refusal n file place)
  on_row place (right row) more = more row

  -- what stands after the last LF: nothing, or a row that lacks its LF
  abbrev pub last_line : (place : ℕ) → List A → List ℕ → Reading (List A)
  last_line place before [] = good before
  last_line place before (b ∷ s) = refused (refusal bad_row file place)

  -- the lines from a place on, after the rows before
  abbrev pub rows_from : (place : ℕ) → List A → List (List ℕ) → Reading (List A)
  rows_from place before [] = good before
  rows_from place before (line ∷ []) = last_line place before line
  rows_from place before (line ∷ next ∷ lines) =
      on_row place (row_of before (less_return line)) (λ row. rows_from (place + length line + 1) (before ++ row ∷ []) (next ∷ lines))

  -- the first line is the header, which lacks its LF where it is the last too
  abbrev pub headed : (names : List (List ℕ)) → List (List ℕ) → Reading (List A)
  headed names [] = refused (refusal bad_header file 0)
  headed names (line ∷ []) = refused (refusal bad_header file 0)
  headed names (line ∷ next ∷ lines) =
      cond (heads names line) (rows_from (length line + 1) [] (next ∷ lines)) (refused (refusal bad_header file 0))

  -- the rows of a text in file order: its length, then its header, then row by row
  unfoldable pub csv_of : (names : List (List ℕ)) → List ℕ → Reading (List A)
  csv_of names s = cond (leb (length s) most_text) (headed names (split_on line_feed s)) (refused (refusal too_long file 0))

-- where row i of a text starts: the header is its first line
abbrev pub place_of_row : List ℕ → ℕ → ℕ
place_of_row s i = start_of (suc i) (split_on line_feed s)

-- the first row, counted from n, for which a test gives a number
pub record RowFault : Type 0 where
  pub row : ℕ
  pub number : ℕ

abbrev pub or_else : (row : ℕ) → Option ℕ → Option RowFault → Option RowFault
or_else n None later = later
or_else n (Some k) later = Some (record { row = n; number = k })

abbrev pub first_fault : {A : Type 0} → ℕ → (A → Option ℕ) → List A → Option RowFault
first_fault n fault [] = None
first_fault n fault (x ∷ xs) = or_else n (fault x) (first_fault (suc n) fault xs)

-- a test over a text's rows that finds none at fault, or refuses at the row's place
abbrev pub passed : {A : Type 0} → (file : ℕ) (text : List ℕ) → Option RowFault → A → Reading A
passed file text None x = good x
passed file text (Some f) x = refused (refusal f.number file (place_of_row text f.row))
