-- DEMAND 2: once every file reads, accepted is exactly acceptable; otherwise the first failure is named; what we write reads back. Assumes nothing.
use Prim.Native.Nat.{ℕ}
use mathlib.Core.Path.{◌≡◌, refl, sym, ◌∙◌}
use mathlib.Core.List.{List}
use mathlib.Core.Logic.{◌↔◌}
use native.Mathlib.Omega.{arith}
use lib.ListN.{length, length-map}
use Rattle.rules.specs.Answers.{Reading, refused, good, solution_file}
use Rattle.rules.specs.Constraints.{ordered}
use Rattle.rules.specs.Reading.{Rooms, Texts, Files, files_of, choices_read, leg_ids}
use Rattle.rules.specs.Verdict.{All, offered, Kept, Acceptable, Test, Finding, accepted, violated, shown_in, answer_of}
use Rattle.rules.specs.Entries.{Tables, rooms_of, verdict_of, Whole, all_read, checked_from, checked}
use Rattle.rules.specs.declared.stated.Stated.{Stated}
use Rattle.rules.specs.declared.sizes.Configuration.{Configuration}
use Rattle.rules.specs.declared.answers.Violation.{Violation}
use Rattle.rules.specs.declared.answers.Answer.TheVariants.{Accepted, Violated}
use Rattle.rules_theorems.specs.Demands.{DemandTwo, CountsTests}
use Rattle.rules_theorems.proofs.Documents.{good_is_lawful}
use Rattle.rules_theorems.proofs.Ordered.{OfKind, ordered_keeps, ordered-gives, ordered-length, document_kinds}
use Rattle.rules_theorems.proofs.GoodFiles.{files_good, choices_good, chosen_many, all_good}
use Rattle.rules_theorems.proofs.TextBound.{files_choices_back}
use Rattle.rules_theorems.proofs.Verdicts.{verdict_accepted}
use Rattle.rules_theorems.proofs.Tests.{names_the_first, shortfalls, total_made, kind_made, adds_up, total_bound}
use Rattle.rules_theorems.proofs.DemandOne.{verdict-not_refused}

-- ---- the verdict and the answer

pub answer_accepted : (file : ℕ) (v : Finding) → (answer_of file v ≡ Accepted) ↔ (v ≡ accepted)
answer_accepted file accepted = (λ e. refl, λ e. refl)
answer_accepted file (violated v) =
    (λ e. let z : ◌≡◌ {A = ℕ} 0 1 = cc in absurd (omega arith), λ e. let z : ◌≡◌ {A = ℕ} 0 1 = cc in absurd (omega arith))

-- a violation that an answer names is of the verdict's test
pub answer_violated : (file : ℕ) (v : Finding) (w : Violation) → answer_of file v ≡ Violated w → (x : Test) × (v ≡ violated x) × (w ≡ shown_in file x)
answer_violated file accepted w e = let z : ◌≡◌ {A = ℕ} 0 1 = cc in absurd (omega arith)
answer_violated file (violated x) w e = (x, refl, cc)

-- ---- the order of the constraints does not matter for acceptance

module _ (files : Files) (s : List Configuration) (kinds : All OfKind files.document.constraints) where
  pub acceptable_in_order : Acceptable (offered files.rows) files.document.constraints s ↔ Acceptable (offered files.rows) (ordered files.document.constraints) s
  acceptable_in_order = (
    λ h. record { offered = h.offered; kept = ordered_keeps (Kept s) files.document.constraints h.kept },
    λ h. record { offered = h.offered; kept = ordered-gives (Kept s) files.document.constraints kinds h.kept },
  )

-- files that were read without refusal have constraints of the five kinds alone
pub files_kinds : (S : Stated) (x : Texts) (room : Rooms) (files : Files) → files_of S x room ≡ good files → All OfKind files.document.constraints
files_kinds S x room files e =
    let g = files_good S x room files e in
    document_kinds (leg_ids files.rows) _ _ files.document (good_is_lawful (leg_ids files.rows) _ _ _ x.constraints files.document g.constraints)

-- ---- how much was tested

module _ (S : Stated) (x : Texts) (room : Rooms) (files : Files) (read : files_of S x room ≡ good files) where
  pub counts-tests : (file choice_room : ℕ) (text : List ℕ) (s : List Configuration) → choices_read S.horizon files file choice_room text ≡ good s → CountsTests files s (verdict_of files s).tally
  counts-tests file choice_room text s chosen =
      let draft = offered files.rows in
      let table = ordered files.document.constraints in
      let all = files_kinds S x room files read in
      let kinds = ordered_keeps OfKind files.document.constraints all in
      let many = chosen_many S.horizon files choice_room text s (choices_good S.horizon files file choice_room text s chosen) in
      let rows : length draft ≡ length s = length-map files.rows (λ r. r.list) ∙ sym many in
      record {
        total = total_made draft table s;
        each = kind_made draft table s kinds;
        adds_up = adds_up draft table s kinds;
        bound = omega (arith, total_bound draft table s rows, many, ordered-length files.document.constraints all);
      }

-- ---- the demand

module _ (S : Stated) (x : Texts) (s : List ℕ) (t : Tables) (c : List ℕ) where
  -- a check of texts that all read
  pub checked-answer : (w : Whole) → all_read S x s (rooms_of t) (length c) ≡ good w → (checked S x s t c).answer ≡ answer_of solution_file (verdict_of w.files w.choices).finding
  unfolding checked
  checked-answer w e = rw e

  pub checked-tally : (w : Whole) → all_read S x s (rooms_of t) (length c) ≡ good w → (checked S x s t c).tally ≡ (verdict_of w.files w.choices).tally
  unfolding checked
  checked-tally w e = rw e

  -- accepted: then all texts read, and the verdict is accepted
  pub accepted_read : (checked S x s t c).answer ≡ Accepted
      → (w : Whole) × (all_read S x s (rooms_of t) (length c) ≡ good w) × ((verdict_of w.files w.choices).finding ≡ accepted)
  unfolding checked
  accepted_read = go (all_read S x s (rooms_of t) (length c)) refl
    where
      go : (m : Reading Whole) → all_read S x s (rooms_of t) (length c) ≡ m → (checked_from m t c).answer ≡ Accepted
          → (w : Whole) × (all_read S x s (rooms_of t) (length c) ≡ good w) × ((verdict_of w.files w.choices).finding ≡ accepted)
      go (refused r) e h = let z : ◌≡◌ {A = ℕ} 0 1 = cc in absurd (omega arith)
      go (good w) e h = (w, e, (answer_accepted solution_file (verdict_of w.files w.choices).finding).0 h)

  pub demand_two : (w : Whole) → all_read S x s (rooms_of t) (length c) ≡ good w → DemandTwo S.horizon (checked S x s t c).answer w
  demand_two w e =
      let draft = offered w.files.rows in
      let table = ordered w.files.document.constraints in
      let v = (verdict_of w.files w.choices).finding in
      let read = (all_good S x s (rooms_of t) (length c) w e).0 in
      let judged = answer_accepted solution_file v in
      let fair = verdict_accepted draft table w.choices in
      let kinds = files_kinds S x (rooms_of t) w.files read in
      let order = acceptable_in_order w.files w.choices kinds in
      rw (checked-answer w e)
      (record {
        accepted = (λ h. order.1 (fair.1 (judged.0 h)), λ h. judged.1 (fair.0 (order.0 h)));
        accepted_in_order = (λ h. fair.1 (judged.0 h), λ h. judged.1 (fair.0 h));
        violated = λ k h. let n = answer_violated solution_file v k h in (n.0, (names_the_first draft table w.choices n.0).0 n.1, n.2);
        numbered =
            λ k h. let n = answer_violated solution_file v k h in
            rw n.2 (shortfalls draft table w.choices (ordered_keeps OfKind w.files.document.constraints kinds) n.0 n.1);
        judged = verdict-not_refused solution_file v;
        reads_back = λ file room choices. files_choices_back S x (rooms_of t) w.files file room choices read;
      })
