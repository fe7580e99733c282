-- DEMAND 3, whole: two accepted solutions with equal travel times; both merges are written, read back and accepted, and the curves add up. Assumes nothing.
use Prim.Native.Nat.{ℕ, ◌+◌, ◌*◌, ◌/◌, ◌%◌, ◌≤◌}
use mathlib.Core.Path.{◌≡◌, refl, sym, ◌∙◌}
use mathlib.Core.Bool.{true}
use mathlib.Core.List.{List}
use lib.ListN.{length, take}
use lib.Seq.{take-append_seam}
use lib.IntN.{ℤ, ◌+ℤ◌}
use borrow.Author.Tests.{le-leb}
use Rattle.rules.specs.Limits.{most_text, configuration_width}
use Rattle.rules.specs.Lists.{over}
use Rattle.rules.specs.Answers.{good, solution_file, second_file}
use Rattle.rules.specs.Constraints.{ordered}
use Rattle.rules.specs.Reading.{Texts, Files, files_of, choices_read}
use Rattle.rules.specs.Verdict.{offered, Offered, accepted}
use Rattle.rules.specs.Energy.{samples_in, homes_of, power, curves_of}
use Rattle.rules.specs.Merge.{zipped, earlier, later, SameTravel, unequal_from, chosen, text_of}
use Rattle.rules.specs.Entries.{Tables, rooms_of, verdict_of, Whole, all_read, checked, Both, merge_fitted, merged}
use Rattle.rules.specs.declared.stated.Stated.{Stated}
use Rattle.rules.specs.declared.sizes.Configuration.{Configuration}
use Rattle.rules.specs.declared.answers.Answer.TheVariants.{Accepted}
use Rattle.rules_theorems.specs.Demands.{TwoAccepted, MergedTo, HasRoom, DemandThree}
use Rattle.rules_theorems.proofs.Tabulate.{tabulate-zipped, tabulate_ext}
use Rattle.rules_theorems.proofs.Chosen.{offered-length, chosen-lawful}
use Rattle.rules_theorems.proofs.GoodFiles.{files_good, choices_good, good_choices, choices_room, all_good, good_all, good_both}
use Rattle.rules_theorems.proofs.TextBound.{text_short, files_choices_back}
use Rattle.rules_theorems.proofs.Verdicts.{verdict_accepted}
use Rattle.rules_theorems.proofs.Merges.{travel_lengths, merge_verdicts, unequal_none}
use Rattle.rules_theorems.proofs.Curves.{curves_add}
use Rattle.rules_theorems.proofs.DemandTwo.{answer_accepted, checked-answer}
use Rattle.std.specs.Prelude.{None}

-- what is written over a buffer stands at its front
pub over_front : {A : Type 0} (w t : List A) → take (length w) (over w t) ≡ w
unfolding over
over_front w t = take-append_seam w _

-- ---- one merge

-- of solutions a and b that say s and r, by any rule whose choices are accepted too
module _ (S : Stated) (x : Texts) (a b : List ℕ) (t : Tables) (c d text : List ℕ) (merge : List Configuration → List Configuration → List Configuration)
    (f : Files) (s r : List Configuration) (files_read : files_of S x (rooms_of t) ≡ good f)
    (first_read : choices_read S.horizon f solution_file (length c) a ≡ good s) (second_read : choices_read S.horizon f second_file (length d) b ≡ good r)
    (first_accepted : (verdict_of f s).finding ≡ accepted) (second_accepted : (verdict_of f r).finding ≡ accepted) (no-unequal : unequal_from 0 s r ≡ None)
    (merge_accepted : (verdict_of f (merge s r)).finding ≡ accepted) where
  abbrev written : List ℕ
  written = text_of (chosen f.rows (merge s r))

  abbrev both : Both
  both = record { files = f; first = s; second = r }

  abbrev new : Whole
  new = record { files = f; choices = merge s r }

  are_offered : (cs : List Configuration) → (verdict_of f cs).finding ≡ accepted → Offered (offered f.rows) cs
  are_offered cs v = ((verdict_accepted (offered f.rows) (ordered f.document.constraints) cs).1 v).offered

  -- the text limit always suffices
  short : length written ≤ most_text
  short =
      let g = files_good S x (rooms_of t) f files_read in
      text_short S.horizon g.horizon.1 (chosen f.rows (merge s r)) (chosen-lawful S.horizon f.rows (merge s r) g.timetable.lawful (are_offered (merge s r) merge_accepted))

  -- both are read, both verdicts are accepted, no travel times differ, and the text fits: it is written
  merge_written_lem : length written ≤ length text → merged merge S x a b t c d text ≡ merge_fitted t c d text true written both
  unfolding merged
  merge_written_lem fits =
      rw (
        good_both S x a b (rooms_of t) (length c) (length d) f s r files_read first_read second_read,
        first_accepted,
        second_accepted,
        no-unequal,
        le-leb (length written) (length text) fits,
        le-leb (length written) most_text short,
      )

  -- the first solution was read into the choice table, so the new one has room there
  room : length f.rows ≤ length c / configuration_width
  room =
      rw (offered-length f.rows s (are_offered s first_accepted))
      (choices_room S.horizon f (length c) a s (choices_good S.horizon f solution_file (length c) a s first_read))

  reads : all_read S x written (rooms_of t) (length c) ≡ good new
  reads =
      good_all S x written (rooms_of t) (length c) f (merge s r) files_read
      (files_choices_back S x (rooms_of t) f solution_file (length c) (merge s r) files_read (are_offered (merge s r) merge_accepted) room)

  is_accepted_lem : (checked S x written t c).answer ≡ Accepted
  is_accepted_lem = checked-answer S x written t c new reads ∙ (answer_accepted solution_file (verdict_of f (merge s r)).finding).1 merge_accepted

  one_merge : HasRoom f (merge s r) text → MergedTo (merge s r) f S x t c (merged merge S x a b t c d text)
  one_merge fits =
      let front : take (length written) (over written text) ≡ written = over_front written text in
      rw (merge_written_lem fits)
      (record { answer = refl; written = front; read = rw front reads; accepted = rw front is_accepted_lem })

-- ---- the curves

tables_add : (H : ℕ) (f : Files) (s r : List Configuration) → length s ≡ length r
    → zipped ◌+ℤ◌ (curves_of H f (earlier s r)) (curves_of H f (later s r)) ≡ zipped ◌+ℤ◌ (curves_of H f s) (curves_of H f r)
unfolding curves_of
tables_add H f s r e =
    let n = f.document.opened * H in
    let P : List Configuration → ℕ → ℤ = λ cs i. power (samples_in f.curves) (homes_of f.document.tracks f.rows) cs (i / H) (0 + i % H) in
    tabulate-zipped ◌+ℤ◌ n (P (earlier s r)) (P (later s r))
    ∙ tabulate_ext n (λ i. P (earlier s r) i +ℤ P (later s r) i) (λ i. P s i +ℤ P r i)
    (λ i. curves_add (samples_in f.curves) (homes_of f.document.tracks f.rows) s r e (i / H) (0 + i % H))
    ∙ sym (tabulate-zipped ◌+ℤ◌ n (P s) (P r))

-- ---- the demand

-- the verdict of a solution that was accepted
verdict_of_lem : (S : Stated) (x : Texts) (s : List ℕ) (t : Tables) (c : List ℕ) (w : Whole) → all_read S x s (rooms_of t) (length c) ≡ good w
    → (checked S x s t c).answer ≡ Accepted → (verdict_of w.files w.choices).finding ≡ accepted
verdict_of_lem S x s t c w e h = (answer_accepted solution_file (verdict_of w.files w.choices).finding).0 (sym (checked-answer S x s t c w e) ∙ h)

module _ (S : Stated) (x : Texts) (a b : List ℕ) (t : Tables) (c d e l : List ℕ) where
  -- over the same files f
  from_files : (f : Files) (s r : List Configuration) → files_of S x (rooms_of t) ≡ good f
      → choices_read S.horizon f solution_file (length c) a ≡ good s → choices_read S.horizon f solution_file (length d) b ≡ good r
      → (verdict_of f s).finding ≡ accepted → (verdict_of f r).finding ≡ accepted → SameTravel s r → DemandThree f s r S x a b t c d e l
  from_files f s r files first second v w same =
      let lengths = travel_lengths s r same in
      let unequal = (unequal_none s r lengths).1 same in
      let new = merge_verdicts (offered f.rows) (ordered f.document.constraints) s r same v w in
      let again : choices_read S.horizon f second_file (length d) b ≡ good r = good_choices S.horizon f second_file (length d) b r (choices_good S.horizon f solution_file (length d) b r second) in
      record {
        earlier_merge = one_merge S x a b t c d e earlier f s r files first again v w unequal new.0;
        later_merge = one_merge S x a b t c d l later f s r files first again v w unequal new.1;
        curves = curves_add (samples_in f.curves) (homes_of f.document.tracks f.rows) s r lengths;
        curve_tables = tables_add S.horizon f s r lengths;
      }

  -- from two accepted solutions with equal travel times, both merges are written and accepted, and the curves add up
  pub demand_three : (p : TwoAccepted S x a b t c d) → DemandThree p.first.files p.first.choices p.second.choices S x a b t c d e l
  demand_three p =
      let first = all_good S x a (rooms_of t) (length c) p.first p.first_read in
      let second = all_good S x b (rooms_of t) (length d) p.second p.second_read in
      let read = second.0 in
      let same : p.second.files ≡ p.first.files = cc first.0 in
      from_files p.first.files p.first.choices p.second.choices first.0 first.1
      (rw same at second.1)
      (verdict_of_lem S x a t c p.first p.first_read p.first_accepted)
      (rw same at (verdict_of_lem S x b t d p.second p.second_read p.second_accepted))
      p.same_travel
