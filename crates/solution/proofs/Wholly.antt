-- A whole solution: the answer is the definition's, and so are the choices where nothing is refused. Assumes nothing.
use Prim.Native.Nat.{ℕ, ◌*◌, ◌/◌, ◌≤◌, ◌<◌}
use mathlib.Core.Path.{◌≡◌, refl, ap, sym, ◌∙◌}
use mathlib.Core.List.{List, []}
use native.Mathlib.Omega.{arith}
use lib.ListN.{length, drop}
use borrow.Author.Tests.{le-leb, lt-leb}
use Rattle.std.specs.Prelude.{Result, Ok, Err, Option, Some, None}
use Rattle.rules.specs.Limits.{most_text, configuration_width}
use Rattle.rules.specs.Lists.{flat, over}
use Rattle.rules.specs.Answers.{refusal, too_long, bad_header, Reading, refused, good, ◌>>=◌, Judged}
use Rattle.rules.specs.Bytes.{line_feed, split_on}
use Rattle.rules.specs.Rows as Rows
use Rattle.rules.specs.Rows.{rows_from, csv_of}
use Rattle.rules.specs.Timetable.{Row, row_of, solution_fits, solution_of, timetable_names, choices_of, configuration_numbers}
use Rattle.rules.specs.Reading.{Files, differs_from, matched, choices_read}
use Rattle.rules.specs.declared.sizes.Configuration.{Configuration}
use Rattle.csv_header.proofs.Below as Below
use Rattle.rules.specs.declared.answers.Fault.{Fault}
use Rattle.timetable_row.specs.Faults.{fault_at}
use Rattle.solution.specs.Promise.{Able, HoldsRows, choices_answer, ChoicesRead}
use Rattle.solution.specs.Whole.{head_end, Headed, rows_after, choices_after, RowsRead, unpacked}
use Rattle.solution.proofs.Differing.{choices-length}
use Rattle.solution.proofs.Unpacking.{choices_out}

module _ (H : ℕ) (text legs : List ℕ) (n from : ℕ) (ends : from ≡ head_end (split_on line_feed text)) (some_end : from ≡ 0 → ⊥) where
  pub headed : Able H legs n → length text ≤ most_text → Headed H text legs n from
  headed a l =
      let b = Below.below timetable_names text from ends some_end in
      record { able = a; short = l; first = b.first; first_is = b.lines; from_is = b.from_is; inside = b.within }

  -- the definition's rows are those from there on
  headed-rows : (file : ℕ) (judge : List Row → List ℕ → Judged Row) → Rows.headed file judge timetable_names (split_on line_feed text) ≡ rows_from file judge from [] (split_on line_feed (drop from text))
  headed-rows file judge = Below.headed-rows timetable_names text from ends some_end file judge

module _ (H : ℕ) (text legs : List ℕ) (n : ℕ) (lent now : List ℕ) where
  -- the rows, and then 14
  in_order : (files : Files) (file : ℕ) → choices_read H files file (length lent) text ≡ choices_after file files.rows text (solution_of H file (length lent / configuration_width) text)
  unfolding choices_read
  in_order files file = refl

  -- a fault of the whole text
  refused_whole : (k : ℕ) → ((file : ℕ) → solution_of H file (length lent / configuration_width) text ≡ refused (refusal k file 0)) → ChoicesRead H text legs n lent (Err (fault_at k 0)) now
  refused_whole k r =
      record {
        answers = λ files file holds. rw (in_order files file, r file);
        chooses = λ files file holds cs q. let z : ◌≡◌ {A = ℕ} 0 1 = cc (rw (r file) at (in_order files file)) in absurd (omega arith);
      }

  -- 2: the text is too long
  pub read_long : most_text < length text → ChoicesRead H text legs n lent (Err (fault_at too_long 0)) now
  unfolding solution_of csv_of
  read_long h = refused_whole too_long (λ file. rw (lt-leb (length text) most_text h))

  module _ (short : length text ≤ most_text) (from : ℕ) (ends : from ≡ head_end (split_on line_feed text)) where
    -- 3: the header differs
    pub read_headless : from ≡ 0 → ChoicesRead H text legs n lent (Err (fault_at bad_header 0)) now
    unfolding solution_of csv_of
    read_headless u = refused_whole bad_header (λ file. rw (le-leb (length text) most_text short) (Below.headless timetable_names text from ends file (row_of H (solution_fits (length lent / configuration_width))) u))

    module _ (u : from ≡ 0 → ⊥) (answer : Result ℕ Fault) (choices : List ℕ) (rows : RowsRead H text legs n from lent answer choices) where
      rows_are : (files : Files) (file : ℕ) → choices_read H files file (length lent) text ≡ choices_after file files.rows text (rows_after H file from lent text)
      unfolding choices_read solution_of csv_of
      rows_are files file =
          rw (le-leb (length text) most_text short)
          (ap (choices_after file files.rows text) (headed-rows H text legs n from ends u file (row_of H (solution_fits (length lent / configuration_width)))))

      answered : (files : Files) (file : ℕ) → HoldsRows legs n files.rows → answer ≡ choices_answer (choices_read H files file (length lent) text)
      answered files file holds = rw (rows_are files file) (rows.answers files.rows file holds)

      -- a row is at fault
      faulty : (e : Fault) → answer ≡ Err e → ChoicesRead H text legs n lent answer now
      faulty e f =
          record {
            answers = answered;
            chooses = λ files file holds cs q.
                let z : ◌≡◌ {A = ℕ} 0 1 = cc (sym f ∙ answered files file holds ∙ ap choices_answer q) in
                absurd (omega arith);
          }

      -- nothing is refused, and the choices are unpacked
      pub read_right : (m : ℕ) → answer ≡ Ok m → now ≡ unpacked m choices → ChoicesRead H text legs n lent (Ok m) now
      read_right m f e =
          record {
            answers = λ files file holds. sym f ∙ answered files file holds;
            chooses = λ files file holds cs q.
                let many : m ≡ length cs = cc (sym f ∙ answered files file holds ∙ ap choices_answer q) in
                go file files.rows cs many (rows_after H file from lent text) refl (sym (rows_are files file) ∙ q);
          }
        where
          matched_all : (file : ℕ) (o : Option ℕ) (rs : List Row) (cs : List Configuration) → (matched file o rs >>= (λ same. good (choices_of rs))) ≡ good cs → choices_of rs ≡ cs
          matched_all file None rs cs q = cc
          matched_all file (Some place) rs cs q = let z : ◌≡◌ {A = ℕ} 0 1 = cc in absurd (omega arith)

          go : (file : ℕ) (draft : List Row) (cs : List Configuration) → m ≡ length cs → (x : Reading (List Row)) → rows_after H file from lent text ≡ x → choices_after file draft text x ≡ good cs
              → now ≡ over (flat configuration_numbers cs) lent
          go file draft cs many (refused r) x q = let z : ◌≡◌ {A = ℕ} 0 1 = cc in absurd (omega arith)
          go file draft cs many (good rs) x q =
              let p = rows.packs file rs x in
              let same : choices_of rs ≡ cs = matched_all file (differs_from 0 text draft rs) rs cs q in
              let all : m ≡ length rs = many ∙ ap length (sym same) ∙ choices-length rs in
              e
              ∙ ap (λ (k : ℕ). unpacked k choices) all
              ∙ ap (unpacked (length rs)) p.packed_are
              ∙ choices_out H rs lent p.in_range_lem
              ∙ ap (λ (x : List Configuration). over (flat configuration_numbers x) lent) same

-- a row at fault leaves the table as the rows left it
pub read_fault : (H : ℕ) (text legs : List ℕ) (n : ℕ) (lent now : List ℕ) → length text ≤ most_text → (from : ℕ) → from ≡ head_end (split_on line_feed text) → (from ≡ 0 → ⊥) → (answer : Result ℕ Fault)
    → RowsRead H text legs n from lent answer now → (e : Fault) → answer ≡ Err e → ChoicesRead H text legs n lent (Err e) now
read_fault H text legs n lent now short from ends u answer rows e f = rw f at (faulty H text legs n lent now short from ends u answer now rows e f)

-- the choices have room for what is unpacked
pub unpack_room : {H : ℕ} {text legs : List ℕ} {n from : ℕ} {lent choices : List ℕ} {answer : Result ℕ Fault} (m : ℕ) → RowsRead H text legs n from lent answer choices → answer ≡ Ok m
    → m * configuration_width ≤ length choices
unpack_room m rows f = rows.fits m f
