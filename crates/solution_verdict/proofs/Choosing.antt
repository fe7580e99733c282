-- A solution over the legs that the files left: what its reader asks for, and each way out. Assumes nothing.
use Prim.Native.Nat.{ℕ}
use mathlib.Core.Path.{◌≡◌, refl, sym, ap, ◌∙◌}
use mathlib.Core.List.{List}
use native.Mathlib.Omega.{arith}
use lib.ListN.{length}
use Rattle.std.specs.Prelude.{Result, Ok, Err}
use Rattle.rules.specs.Lists.{flat}
use Rattle.rules.specs.Answers.{refusal, Reading, refused, good}
use Rattle.rules.specs.Timetable.{legs_of, leg_numbers}
use Rattle.rules.specs.Reading.{choices_read}
use Rattle.rules.specs.Entries.{rooms_of, written_choices}
use Rattle.rules.specs.declared.sizes.Configuration.{Configuration}
use Rattle.rules.specs.declared.answers.Refusal.{Refusal}
use Rattle.rules_theorems.proofs.FileRefusals.{Refuses, refuses, choices_refuse}
use Rattle.rules_theorems.proofs.GoodFiles.{files_good}
use Rattle.rules_theorems.proofs.LawfulRows.{legs_distinct}
use Rattle.rules.specs.declared.answers.Fault.{Fault}
use Rattle.timetable_row.specs.Faults.{fault_at}
use Rattle.solution.specs.Promise.{Able, HoldsRows, choices_answer, ChoicesRead}
use Rattle.tables_lent.specs.declared.Counts.{Counts}
use Rattle.tables_lent.proofs.Filing.{same-refusal}
use Rattle.files_tests.proofs.Fronts.{front_held, legs-apart}
use Rattle.solution_verdict.specs.Left.{Choosable, Chooses, chosen_of}

module _ {H : ℕ} {counts : Counts} {legs : List ℕ} (k : Choosable H counts legs) where
  held : HoldsRows legs counts.legs k.left.files.rows
  held =
      record {
        many = ap (λ (c : Counts). c.legs) k.left.counted;
        front = front_held (flat leg_numbers (legs_of k.left.files.rows)) k.left.lent.legs k.legs_are_lem;
      }

  pub choose_able : Able H legs counts.legs
  choose_able =
      let rows = k.left.files.rows in
      let was-good = files_good k.left.stated k.left.texts (rooms_of k.left.lent) k.left.files k.left.read in
      record {
        horizon = rw k.left.at at was-good.horizon.1;
        legs_there = legs-apart legs counts.legs rows held.many held.front (legs_distinct k.left.stated.horizon rows was-good.timetable.lawful);
      }

-- a solution's refusals lie in its file
own_file : (file : ℕ) (o : Reading (List Configuration)) → Refuses (λ r. r.file ≡ file) o → (number place : ℕ) → Err (fault_at number place) ≡ choices_answer o
    → o ≡ refused (refusal number file place)
own_file file (refused r) (refuses f) number place e =
    let same : fault_at number place ≡ fault_at r.number r.place = cc in
    same-refusal r (ap (λ (x : Fault). x.number) same) f (ap (λ (x : Fault). x.place) same)
own_file file (good cs) q number place e = let z : ◌≡◌ {A = ℕ} 0 1 = cc in absurd (omega arith)

was_read : (o : Reading (List Configuration)) (n : ℕ) → Ok n ≡ choices_answer o → (Ok tt) ≡ chosen_of o
was_read (refused r) n e = let z : ◌≡◌ {A = ℕ} 0 1 = cc in absurd (omega arith)
was_read (good cs) n e = refl

module _ (H file : ℕ) (counts : Counts) (text legs lent : List ℕ) {answer : Result ℕ Fault} {choices : List ℕ} (read : ChoicesRead H text legs counts.legs lent answer choices) where
  abbrev outcome : Choosable H counts legs → Reading (List Configuration)
  outcome k = choices_read H k.left.files file (length lent) text

  said : (k : Choosable H counts legs) → answer ≡ choices_answer (outcome k)
  said k = read.answers k.left.files file (held k)

  written : (k : Choosable H counts legs) (cs : List Configuration) → outcome k ≡ good cs → choices ≡ written_choices cs lent
  written k cs e = read.chooses k.left.files file (held k) cs e

  pub choose_fault : {fault : Fault} {r : Refusal} → answer ≡ Err fault → r ≡ refusal fault.number file fault.place → Chooses H file counts text legs lent (Err r) choices
  choose_fault {fault} {r} a e =
      record {
        answers = λ k. ap Err e ∙ ap chosen_of (sym (own_file file (outcome k) (refusals k) fault.number fault.place (sym a ∙ said k)));
        chooses = written;
      }
    where
      refusals : (k : Choosable H counts legs) → Refuses (λ r. r.file ≡ file) (outcome k)
      refusals k = choices_refuse H k.left.files file (length lent) text (record { at_start = λ n h. refl; at_place = λ n p h. refl })

  pub choose_whole : {n : ℕ} → answer ≡ Ok n → Chooses H file counts text legs lent (Ok tt) choices
  choose_whole {n} a = record { answers = λ k. was_read (outcome k) n (sym a ∙ said k); chooses = written }

-- ---- what was chosen, by the answer

pub was_chosen : (o : Reading (List Configuration)) → (Ok tt) ≡ chosen_of o → (cs : List Configuration) × (o ≡ good cs)
was_chosen (refused r) e = let z : ◌≡◌ {A = ℕ} 0 1 = cc in absurd (omega arith)
was_chosen (good cs) e = (cs, refl)

pub not_chosen : (o : Reading (List Configuration)) (r : Refusal) → Err r ≡ chosen_of o → o ≡ refused r
not_chosen (refused s) r e = cc
not_chosen (good cs) r e = let z : ◌≡◌ {A = ℕ} 0 1 = cc in absurd (omega arith)
