-- Each way out of reading the draft. Assumes nothing.
use Prim.Native.Nat.{ℕ, ◌/◌}
use mathlib.Core.Path.{◌≡◌, refl, sym, ap, ◌∙◌}
use mathlib.Core.List.{List}
use native.Mathlib.Omega.{arith}
use lib.ListN.{length}
use Rattle.std.specs.Prelude.{Result, Ok, Err}
use Rattle.rules.specs.Limits.{leg_width, configuration_width}
use Rattle.rules.specs.Answers.{timetable_file, refusal, Reading, refused, good}
use Rattle.rules.specs.Timetable.{Row, listed, timetable_of}
use Rattle.rules.specs.Stated.{known, known_of}
use Rattle.rules.specs.declared.stated.Stated.{Stated}
use Rattle.rules.specs.declared.answers.Refusal.{Refusal}
use Rattle.rules_theorems.proofs.FileRefusals.{Refuses, refuses, timetable-refuses}
use Rattle.rules.specs.declared.answers.Fault.{Fault}
use Rattle.timetable_row.specs.Faults.{fault_at}
use Rattle.timetable.specs.declared.reader.Rows.{Rows}
use Rattle.timetable.specs.Held.{tables}
use Rattle.timetable.specs.Promise.{answer_of, ReadAs, Tabled}
use Rattle.tables_lent.proofs.Filing.{same-refusal}
use Rattle.files.specs.Parts.{draft_of, DraftRead}
use Rattle.files.proofs.Parted.{part_refused, part_good}

-- ---- what is stated

not_known : (o : Reading Stated) (r : Refusal) → Err r ≡ known_of o → o ≡ refused r
not_known (refused s) r e = cc
not_known (good s) r e = let z : ◌≡◌ {A = ℕ} 0 1 = cc in absurd (omega arith)

is_known_lem : (o : Reading Stated) → (Ok tt) ≡ known_of o → (s : Stated) × (o ≡ good s)
is_known_lem (refused r) e = let z : ◌≡◌ {A = ℕ} 0 1 = cc in absurd (omega arith)
is_known_lem (good s) e = (s, refl)

-- ---- the timetable's refusals lie in the timetable

own_file : (o : Reading (List Row)) → Refuses (λ r. r.file ≡ timetable_file) o → (number place : ℕ) → Err (fault_at number place) ≡ answer_of o → o ≡ refused (refusal number timetable_file place)
own_file (refused r) (refuses f) number place e =
    let same : fault_at number place ≡ fault_at r.number r.place = cc in
    same-refusal r (ap (λ (x : Fault). x.number) same) f (ap (λ (x : Fault). x.place) same)
own_file (good rows) q number place e = let z : ◌≡◌ {A = ℕ} 0 1 = cc in absurd (omega arith)

-- ---- the ways out

module _ (S : Stated) (text legs configurations legs' configurations' : List ℕ) {test : Result (Unit {0}) Refusal} (m : test ≡ known_of (known S)) where
  pub draft-unknown : {r : Refusal} → test ≡ Err r → DraftRead S text legs configurations (Err r) legs' configurations'
  unfolding draft_of
  draft-unknown {r} e = part_refused r (rw (not_known (known S) r (sym e ∙ m)))

  module _ (all : test ≡ (Ok tt)) {answer : Result Rows Fault} (read : ReadAs S.horizon text (tables legs configurations) answer (tables legs' configurations')) where
    abbrev outcome : Reading (List Row)
    outcome = timetable_of S.horizon (length legs / leg_width) (length configurations / configuration_width) text

    draft_is : draft_of S text (length legs) (length configurations) ≡ outcome
    unfolding draft_of
    draft_is = rw (is_known_lem (known S) (sym all ∙ m)).1

    pub draft_fault : {fault : Fault} {r : Refusal} → answer ≡ Err fault → r ≡ refusal fault.number timetable_file fault.place
        → DraftRead S text legs configurations (Err r) legs' configurations'
    draft_fault {fault} {r} a e =
        part_refused r
        (draft_is
        ∙ own_file outcome (timetable-refuses S.horizon _ _ text (record { at_start = λ n h. refl; at_place = λ n p h. refl })) fault.number fault.place (sym a ∙ read.answers)
        ∙ ap refused (sym e))

    pub draft_right : {x : Rows} → answer ≡ Ok x
        → DraftRead S text legs configurations (Ok (record { legs = x.rows; configurations = x.configurations; profiles = 0; samples = 0; constraints = 0; tracks = 0; subnets = 0 })) legs' configurations'
    draft_right {x} a = go outcome refl (sym a ∙ read.answers) read.fills
      where
        go : (o : Reading (List Row)) → outcome ≡ o → Ok x ≡ answer_of o → Tabled (tables legs configurations) o (tables legs' configurations')
            → DraftRead S text legs configurations (Ok (record { legs = x.rows; configurations = x.configurations; profiles = 0; samples = 0; constraints = 0; tracks = 0; subnets = 0 })) legs' configurations'
        go (refused r) q e f = let z : ◌≡◌ {A = ℕ} 0 1 = cc in absurd (omega arith)
        go (good rows) q e f =
            let many : x.rows ≡ length rows = cc in
            let listed : x.configurations ≡ listed rows = cc in
            part_good rows (draft_is ∙ q) (cc) (f.legs_filled, f.configurations_filled)
