-- "A refusal is given in these cases and no others": the refusals of each entry stand in its table of specs/Cases.antt. Assumes nothing.
use Prim.Native.Nat.{ℕ, ◌*◌}
use mathlib.Core.Path.{◌≡◌}
use mathlib.Core.Bool.{Bool, true, false, ◌&&◌, ◌||◌}
use mathlib.Core.List.{List, ◌∷◌}
use lib.Dec.{T, leb, eqb, eqb_refl}
use lib.ListN.{length}
use lib.IntN.{ℤ}
use Rattle.rules.specs.Limits.{most_text}
use Rattle.rules.specs.Lists.{any}
use Rattle.rules.specs.Answers.{bad_row, constraints_file, refusal, no_room, unequal_travel, solution_file, second_file, Reading}
use Rattle.rules.specs.Rows.{place_of_row}
use Rattle.rules.specs.Reading.{Texts}
use Rattle.rules.specs.Verdict.{Finding, accepted, violated, answer_of}
use Rattle.rules.specs.Merge.{unequal_from, chosen, text_of}
use Rattle.rules.specs.Entries.{
  Tables,
  rooms_of,
  verdict_of,
  Whole,
  all_read,
  checked_from,
  checked,
  report_accepted,
  report_judged,
  report_from,
  reported,
  Both,
  both_read,
  merge_fitted,
  merge_travel,
  merge_second,
  merge_first,
  merge_from,
  merged,
}
use Rattle.rules.specs.declared.stated.Stated.{Stated}
use Rattle.rules.specs.declared.answers.Tally.{Tally}
use Rattle.rules.specs.declared.sizes.Configuration.{Configuration}
use Rattle.rules.specs.declared.answers.Refusal.{Refusal}
use Rattle.rules.specs.declared.answers.Answer.{Answer}
use Rattle.rules.specs.declared.answers.Answer.TheVariants.{Accepted, Violated, Refused}
use Rattle.rules.proofs.Truth.{both_and}
use Rattle.rules_theorems.specs.Cases.{Line, among, fits, Case, start, inside, further, solution_line, room_line, travel_line, check_cases, report_cases, merge_cases}
use Rattle.rules_theorems.proofs.FileRefusals.{Refuses, refuses, reads, Allows, then, AllowsFiles, files_refuse, choices_refuse}
use Rattle.std.specs.Prelude.{Option, Some, None}

-- ---- the answers

-- an answer that, if it is a refusal, is one of which P holds
abbrev Says : (Refusal → Type 0) → Answer → Type 0
Says P Accepted = Unit {0}
Says P (Violated v) = Unit {0}
Says P (Refused r) = P r

said : (P : Refusal → Type 0) (a : Answer) (r : Refusal) → Says P a → a ≡ Refused r → P r
said P a r h e = rw e at h

verdict_says : (P : Refusal → Type 0) (file : ℕ) (v : Finding) → Says P (answer_of file v)
verdict_says P file accepted = tt
verdict_says P file (violated v) = tt

module _ (P : Refusal → Type 0) (files : AllowsFiles P) (first : Allows P (solution_line solution_file)) (S : Stated) (x : Texts) (s : List ℕ) (t : Tables) (c : List ℕ) where
  all_refuse : Refuses P (all_read S x s (rooms_of t) (length c))
  unfolding all_read
  all_refuse =
      then (files_refuse S x (rooms_of t) files)
      (λ f. then (choices_refuse S.horizon f solution_file (length c) s first)
      (λ cs. reads))

  check_says : Says P (checked S x s t c).answer
  unfolding checked
  check_says = go (all_read S x s (rooms_of t) (length c)) all_refuse
    where
      go : (m : Reading Whole) → Refuses P m → Says P (checked_from m t c).answer
      go m (refuses p) = p
      go m (reads {a = w}) = verdict_says P solution_file (verdict_of w.files w.choices).finding

  module _ (curves : List ℤ) (room : Allows P room_line) where
    accepted_says : (fits : Bool) (n : Tally) (w : Whole) → Says P (report_accepted fits S.horizon n w t c curves).answer
    accepted_says true tally w = tt
    accepted_says false tally w = room.at_start no_room tt

    judged_says : (v : Finding) (n : Tally) (w : Whole) → Says P (report_judged v S.horizon n w t c curves).answer
    judged_says accepted tally w = accepted_says (leb (w.files.document.opened * S.horizon) (length curves)) tally w
    judged_says (violated v) tally w = tt

    report_says : Says P (reported S x s t c curves).answer
    unfolding reported
    report_says = go (all_read S x s (rooms_of t) (length c)) all_refuse
      where
        go : (m : Reading Whole) → Refuses P m → Says P (report_from m S.horizon t c curves).answer
        go m (refuses p) = p
        go m (reads {a = w}) = judged_says (verdict_of w.files w.choices).finding (verdict_of w.files w.choices).tally w

  module _ (s₂ d text : List ℕ) (second : Allows P (solution_line second_file)) (travel : Allows P travel_line) (room : Allows P room_line) (merge : List Configuration → List Configuration → List Configuration) where
    both_refuse : Refuses P (both_read S x s s₂ (rooms_of t) (length c) (length d))
    unfolding both_read
    both_refuse =
        then (files_refuse S x (rooms_of t) files)
        (λ f. then (choices_refuse S.horizon f solution_file (length c) s first)
        (λ a. then (choices_refuse S.horizon f second_file (length d) s₂ second)
        (λ b. reads)))

    fitted_says : (fits : Bool) (written : List ℕ) (b : Both) → Says P (merge_fitted t c d text fits written b).answer
    fitted_says true written b = tt
    fitted_says false written b = room.at_start no_room tt

    travel_says : (o : Option ℕ) (b : Both) → Says P (merge_travel t c d text s₂ merge o b).answer
    travel_says None b =
        let written = text_of (chosen b.files.rows (merge b.first b.second)) in
        fitted_says (leb (length written) (length text) && leb (length written) most_text) written b
    travel_says (Some row) b = travel.at_place unequal_travel (place_of_row s₂ row) tt

    second_says : (v : Finding) (n : Tally) (b : Both) → Says P (merge_second t c d text s₂ merge v n b).answer
    second_says accepted tally b = travel_says (unequal_from 0 b.first b.second) b
    second_says (violated v) tally b = tt

    first_says : (v : Finding) (n : Tally) (b : Both) → Says P (merge_first t c d text s₂ merge v n b).answer
    first_says accepted tally b = second_says (verdict_of b.files b.second).finding (verdict_of b.files b.second).tally b
    first_says (violated v) tally b = tt

    merge_says : Says P (merged merge S x s s₂ t c d text).answer
    unfolding merged
    merge_says = go (both_read S x s s₂ (rooms_of t) (length c) (length d)) both_refuse
      where
        go : (m : Reading Both) → Refuses P m → Says P (merge_from t c d text s₂ merge m).answer
        go m (refuses p) = p
        go m (reads {a = b}) = first_says (verdict_of b.files b.first).finding (verdict_of b.files b.first).tally b

-- ---- a table allows every refusal of its lines

here : {l : Line} {ls : List Line} → Allows (Case (l ∷ ls)) l
here = record { at_start = λ n t. start t; at_place = λ n place t. inside t }

next : {l m : Line} {ls : List Line} → Allows (Case ls) l → Allows (Case (m ∷ ls)) l
next a = record { at_start = λ n t. further (a.at_start n t); at_place = λ n place t. further (a.at_place n place t) }

next_files : {m : Line} {ls : List Line} → AllowsFiles (Case ls) → AllowsFiles (Case (m ∷ ls))
next_files a =
    record {
      stated = next a.stated;
      timetable = next a.timetable;
      profiles = next a.profiles;
      constraints = next a.constraints;
    }

check_files : AllowsFiles (Case check_cases)
check_files = record { stated = here; timetable = next here; profiles = next (next here); constraints = next (next (next here)) }

check-solution : Allows (Case check_cases) (solution_line solution_file)
check-solution = next (next (next (next here)))

-- ---- THE CASES

module _ (S : Stated) (x : Texts) (s : List ℕ) (t : Tables) (c : List ℕ) (r : Refusal) where
  -- a check's refusal stands in document 01's table
  pub refusal-cases : (checked S x s t c).answer ≡ Refused r → Case check_cases r
  refusal-cases = said (Case check_cases) (checked S x s t c).answer r (check_says (Case check_cases) check_files check-solution S x s t c)

  -- a report's too: also 16 of the curves
  pub report-cases : (curves : List ℤ) → (reported S x s t c curves).answer ≡ Refused r → Case report_cases r
  report-cases curves =
      said (Case report_cases) (reported S x s t c curves).answer r
      (report_says (Case report_cases) (next_files check_files) (next check-solution) S x s t c curves here)

  -- a merge's too, by whatever rule it chooses: also the second solution's, 17, and 16 of the text buffer
  pub merge_cases_lem : (merge : List Configuration → List Configuration → List Configuration) (s₂ d text : List ℕ) → (merged merge S x s s₂ t c d text).answer ≡ Refused r → Case merge_cases r
  merge_cases_lem merge s₂ d text =
      said (Case merge_cases) (merged merge S x s s₂ t c d text).answer r
      (merge_says (Case merge_cases) (next_files (next_files (next_files check_files))) (next (next (next check-solution))) S x s t c s₂ d text (next (next here)) (next here) here merge)

-- ---- what is in no line is no case

left-holds : (a b : Bool) → T a → T (a || b)
left-holds true b p = tt
left-holds false b p = absurd p

right_holds : (a b : Bool) → T b → T (a || b)
right_holds true b p = tt
right_holds false b p = p

pub case_fits : {ls : List Line} {r : Refusal} → Case ls r → T (any (fits r) ls)
case_fits (start {l} {ls} {n} t) =
    left-holds (fits (refusal n l.file 0) l) (any (fits (refusal n l.file 0)) ls)
    (both_and (eqb l.file l.file) _ (eqb_refl l.file) (right_holds (among n l.inside) _ (both_and (among n l.at_start) true t tt)))
case_fits (inside {l} {ls} {n} {place} t) =
    left-holds (fits (refusal n l.file place) l) (any (fits (refusal n l.file place)) ls)
    (both_and (eqb l.file l.file) _ (eqb_refl l.file) (left-holds (among n l.inside) _ t))
case_fits (further {l} {ls} {r} c) = right_holds (fits r l) (any (fits r) ls) (case_fits c)

-- a check refuses nothing in a second solution, and constraints.json has no row to break
pub check_has_no_second : (n place : ℕ) → Case check_cases (refusal n second_file place) → ⊥
check_has_no_second n place c = case_fits c

pub constraints_have_no_row : (place : ℕ) → Case check_cases (refusal bad_row constraints_file place) → ⊥
constraints_have_no_row place c = case_fits c
