-- The byte machine reads what `csv_of` says, for texts that arrive whole or in parts, whatever the row: given that the machines of header and row read
-- what their lines say, and that a row of no form is wrong. Assumes nothing.
use Prim.Native.Nat.{ℕ, suc, ◌+◌, ◌≤◌}
use mathlib.Core.Path.{◌≡◌, refl, ap, sym, ◌∙◌}
use mathlib.Core.Bool.{Bool, true, false, cond}
use mathlib.Core.List.{List, [], ◌∷◌, ◌++◌, foldl}
use native.Mathlib.Omega.{arith}
use native.Mathlib.Numerals.{add-one}
use native.Mathlib.Nat.{add-zero, zero-add}
use lib.Dec.{eqb}
use lib.ListN.{length}
use borrow.Author.Tests.{le-leb, eq-eqb, ne_eqb}
use Rattle.rules.specs.Limits.{most_text}
use Rattle.rules.specs.Lists.{◌>>=◌}
use Rattle.std.specs.Prelude.{is_some, Option, Some, None}
use Rattle.rules.specs.Answers.{refusal, bad_header, bad_row, Reading, refused, Judged, wrong, right}
use Rattle.rules.specs.Bytes.{line_feed, less_return}
use Rattle.rules.specs.Rows.{heads, on_row, last_line, rows_from, headed, csv_of}
use Rattle.rules.proofs.Truth.{by_case}
use Rattle.csv_machine.specs.Fold.{fold, run}
use Rattle.csv_machine.specs.Machine.{Progress, in_header, in_row, broken, stopped, Faulty, is_broken, is_stopped, Machine, on_head, on_byte, on_line, progress, begun, finished, head_run, form_run}
use Rattle.csv_machine.proofs.Fold.{whole, fold-append, fold_parts}
use Rattle.csv_machine.proofs.Lines.{Unbroken, Lines, last, more, lines_of}

module _ {A K O : Type 0} (m : Machine A K O) where
  -- once stopped, always stopped: the first fault in file order is the answer, whatever follows
  pub stopped_stays : (n place : ℕ) (s : List ℕ) → fold (progress m) (stopped n place) s ≡ stopped n place
  stopped_stays n place [] = refl
  stopped_stays n place (b ∷ s) = stopped_stays n place s

  -- so what a text's beginning stops at is the answer for the text
  pub stopped_decides : (st : Progress A K O) (n place : ℕ) (s t : List ℕ) → fold (progress m) st s ≡ stopped n place → fold (progress m) st (s ++ t) ≡ stopped n place
  stopped_decides st n place s t e = rw (fold-append (progress m) st s t, e) (stopped_stays n place t)

  -- a line at fault stays so up to its LF
  pub broken_stays : (n place : ℕ) (line : List ℕ) → Unbroken line → fold (progress m) (broken n place) line ≡ broken n place
  broken_stays n place [] u = refl
  broken_stays n place (b ∷ line) u = rw (ne_eqb b line_feed u.0) (broken_stays n place line u.1)

  -- and a text at fault stays so
  pub faulty_step : {n place : ℕ} (p : Progress A K O) (b : ℕ) → Faulty n place p → Faulty n place (progress m p b)
  faulty_step {n} {place} p b is_broken = by_case (Faulty n place) (eqb b line_feed) (stopped n place) (broken n place) (λ e. is_stopped) (λ e. is_broken)
  faulty_step p b is_stopped = is_stopped

  pub faulty_fold : {n place : ℕ} (p : Progress A K O) (s : List ℕ) → Faulty n place p → Faulty n place (fold (progress m) p s)
  faulty_fold p [] f = f
  faulty_fold p (b ∷ s) f = faulty_fold (progress m p b) s (faulty_step p b f)

  -- ---- the open line, after bytes of its own, none of them LF

  abbrev pub opened : (place at : ℕ) → List A → Option O → Progress A K O
  opened place at before None = broken bad_row place
  opened place at before (Some o) = in_row place at before o

  pub in_line : (place at : ℕ) (before : List A) (o : O) (line : List ℕ) → Unbroken line
      → fold (progress m) (in_row place at before o) line ≡ opened place (at + length line) before (run m.step o line)
  in_line place at before o [] u = rw (add-zero at)
  in_line place at before o (b ∷ line) u =
      rw (ne_eqb b line_feed u.0) (go (m.step o b) (λ o'. in_line place (suc at) before o' line u.1))
    where
      go : (r : Option O) → ((o' : O) → fold (progress m) (in_row place (suc at) before o') line ≡ opened place (suc at + length line) before (run m.step o' line))
          → fold (progress m) (on_byte m place at before r) line ≡ opened place (at + suc (length line)) before (r >>= (λ o'. run m.step o' line))
      go None rest = broken_stays bad_row place line u.1
      go (Some o') rest = let q : suc at + length line ≡ at + suc (length line) = omega arith in rw q at (rest o')

  abbrev pub heading : (at : ℕ) → Option K → Progress A K O
  heading at None = broken bad_header 0
  heading at (Some k) = in_header at k

  pub in_header_lem : (at : ℕ) (k : K) (line : List ℕ) → Unbroken line
      → fold (progress m) (in_header at k) line ≡ heading (at + length line) (run m.head_step k line)
  in_header_lem at k [] u = rw (add-zero at)
  in_header_lem at k (b ∷ line) u =
      rw (ne_eqb b line_feed u.0) (go (m.head_step k b) (λ k'. in_header_lem (suc at) k' line u.1))
    where
      go : (r : Option K) → ((k' : K) → fold (progress m) (in_header (suc at) k') line ≡ heading (suc at + length line) (run m.head_step k' line))
          → fold (progress m) (on_head m at r) line ≡ heading (at + suc (length line)) (r >>= (λ k'. run m.head_step k' line))
      go None rest = broken_stays bad_header 0 line u.1
      go (Some k') rest = let q : suc at + length line ≡ at + suc (length line) = omega arith in rw q at (rest k')

  -- ---- lines
  module _ (names : List (List ℕ)) (form_of : List ℕ → Option A)
      (head_run_lem : (line : List ℕ) → Unbroken line → heads names line ≡ head_run m line)
      (form_run_lem : (line : List ℕ) → Unbroken line → form_of (less_return line) ≡ form_run m line)
      (judge-none : (before : List A) → m.judge before None ≡ wrong bad_row) where
    abbrev row_of : List A → List ℕ → Judged A
    row_of before line = m.judge before (form_of line)

    -- what stands after the last LF: nothing, or a row that lacks its LF
    last_line_lem : (place : ℕ) (before : List A) (line : List ℕ)
        → last_line m.file row_of place before line ≡ finished m (opened place (place + length line) before (run m.step m.start line))
    last_line_lem place before [] = rw (add-zero place, eq-eqb place place refl)
    last_line_lem place before (b ∷ line) = go (run m.step m.start (b ∷ line))
      where
        go : (r : Option O) → refused (refusal bad_row m.file place) ≡ finished m (opened place (place + suc (length line)) before r)
        go None = refl
        go (Some o) = rw (ne_eqb place (place + suc (length line)) (λ q. omega arith))

    -- from any place on, after any rows, the machine over a text says what its lines say
    abbrev Agree : List ℕ → List (List ℕ) → Type 0
    Agree s lines = (place : ℕ) (before : List A) → rows_from m.file row_of place before lines ≡ finished m (fold (progress m) (in_row place place before m.start) s)

    by_rows : {s : List ℕ} {lines : List (List ℕ)} → Lines s lines → Agree s lines
    by_rows (last {line} u) place before = last_line_lem place before line ∙ ap (finished m) (sym (in_line place place before m.start line u))
    by_rows (more {line} {rest} {second} {others} u r) place before =
        rw (fold-append (progress m) (in_row place place before m.start) line (line_feed ∷ rest), in_line place place before m.start line u)
        (ap (λ (f : Option A). on_row m.file row_of place (m.judge before f) onward) (form_run_lem line u) ∙ go (run m.step m.start line) (λ at rows. by_rows r at rows))
      where
        onward : A → Reading (List A)
        onward row = rows_from m.file row_of (place + length line + 1) (before ++ row ∷ []) (second ∷ others)

        judged : (j : Judged A) → Agree rest (second ∷ others)
            → on_row m.file row_of place j onward ≡ finished m (fold (progress m) (on_line m place (place + length line) before j) rest)
        judged (wrong n) on = rw (stopped_stays n place rest)
        judged (right row) on = rw (← add-one (place + length line)) (on (place + length line + 1) (before ++ row ∷ []))

        go : (o : Option O) → Agree rest (second ∷ others)
            → on_row m.file row_of place (m.judge before (o >>= m.close)) onward ≡ finished m (fold (progress m) (progress m (opened place (place + length line) before o) line_feed) rest)
        go None on = rw (judge-none before, stopped_stays bad_row place rest)
        go (Some o) on = judged (m.judge before (m.close o)) on

    -- from the first byte on
    by_lines : {s : List ℕ} {lines : List (List ℕ)} → Lines s lines → headed m.file row_of names lines ≡ finished m (fold (progress m) (begun m) s)
    by_lines (last {line} u) = rw (in_header_lem 0 m.head line u) (go (run m.head_step m.head line))
      where
        go : (r : Option K) → refused (refusal bad_header m.file 0) ≡ finished m (heading (0 + length line) r)
        go None = refl
        go (Some k) = refl
    by_lines (more {line} {rest} {second} {others} u r) =
        rw (fold-append (progress m) (begun m) line (line_feed ∷ rest), in_header_lem 0 m.head line u, head_run_lem line u, zero-add (length line))
        (go (run m.head_step m.head line) (λ at rows. by_rows r at rows))
      where
        told : (t : Bool) → Agree rest (second ∷ others) → (k : K)
            → cond (is_some (cond t (Some k) None)) (rows_from m.file row_of (length line + 1) [] (second ∷ others)) (refused (refusal bad_header m.file 0))
            ≡ finished m (fold (progress m) (cond t (in_row (suc (length line)) (suc (length line)) [] m.start) (stopped bad_header 0)) rest)
        told true on k = rw (← add-one (length line)) (on (length line + 1) [])
        told false on k = rw (stopped_stays bad_header 0 rest)

        go : (k : Option K) → Agree rest (second ∷ others)
            → cond (is_some (k >>= (λ k. cond (m.head_close k) (Some k) None))) (rows_from m.file row_of (length line + 1) [] (second ∷ others)) (refused (refusal bad_header m.file 0))
            ≡ finished m (fold (progress m) (progress m (heading (length line) k) line_feed) rest)
        go None on = rw (stopped_stays bad_header 0 rest)
        go (Some k) on = told (m.head_close k) on k

    -- the rows of a text, or its first fault in file order, byte by byte
    pub csv_by_bytes : (s : List ℕ) → length s ≤ most_text
        → csv_of m.file (λ before line. m.judge before (form_of line)) names s ≡ finished m (fold (progress m) (begun m) s)
    unfolding csv_of
    csv_by_bytes s h = rw (le-leb (length s) most_text h) (by_lines (lines_of s))

    -- and whatever the parts in which the text arrives
    pub csv_by_parts : (parts : List (List ℕ)) → length (whole parts) ≤ most_text
        → csv_of m.file (λ before line. m.judge before (form_of line)) names (whole parts) ≡ finished m (foldl (fold (progress m)) (begun m) parts)
    csv_by_parts parts h = csv_by_bytes (whole parts) h ∙ ap (finished m) (fold_parts (progress m) (begun m) parts)
