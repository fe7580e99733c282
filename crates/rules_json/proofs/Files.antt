-- Files are read exactly where the texts write them, and a check refuses exactly where they write nothing lawful. Assumes nothing.
use Prim.Native.Nat.{ℕ}
use mathlib.Core.Path.{◌≡◌, refl, ap}
use mathlib.Core.List.{List}
use mathlib.Core.Logic.{◌↔◌}
use native.Mathlib.Omega.{arith}
use lib.ListN.{length}
use Rattle.rules.specs.Answers.{Reading, refused, good, solution_file}
use Rattle.rules.specs.Reading.{Rooms, Texts, Files, files_of}
use Rattle.rules.specs.Entries.{Tables, rooms_of, verdict_of, Whole, all_read, checked_from, checked}
use Rattle.rules.specs.declared.stated.Stated.{Stated}
use Rattle.rules.specs.declared.answers.Refusal.{Refusal}
use Rattle.rules_theorems.specs.Demands.{IsRefused}
use Rattle.rules_theorems.specs.Files.{ByAutomaton}
use Rattle.rules_theorems.proofs.GoodFiles.{files_good, good_files, said_so, choices_good, good_choices, all_good, good_all}
use Rattle.rules_theorems.proofs.DemandOne.{verdict-not_refused}
use Rattle.rules_json.specs.Files.{WrittenIn, WrittenFiles, WrittenWhole}
use Rattle.rules_json.proofs.Soundness.{reads_what_is_written}

-- THE THEOREM: the texts are read as files exactly where they write them
pub files_written : (S : Stated) (x : Texts) (room : Rooms) (files : Files) → (files_of S x room ≡ good files) ↔ WrittenFiles S x room files
files_written S x room files = (
  λ e. said_so ByAutomaton WrittenIn (λ legs constraints tracks s d. (reads_what_is_written S.edition legs constraints tracks s d).0) (files_good S x room files e),
  λ g. good_files S x room files (said_so WrittenIn ByAutomaton (λ legs constraints tracks s d. (reads_what_is_written S.edition legs constraints tracks s d).1) g),
)

-- a reading that is good exactly where something holds is refused exactly where it holds of nothing
refused_exactly : {A : Type 0} (read : Reading A) (Is : A → Type 0) → ((y : A) → (read ≡ good y) ↔ Is y)
    → ((r : Refusal) × (read ≡ refused r)) ↔ ((y : A) → Is y → ⊥)
refused_exactly {A = A} read Is is = (there, back read refl)
  where
    there : (r : Refusal) × (read ≡ refused r) → (y : A) → Is y → ⊥
    there k y h =
        let e : read ≡ good y = (is y).1 h in
        let z : ◌≡◌ {A = ℕ} 0 1 = cc k.1 in
        omega arith

    back : (o : Reading A) → read ≡ o → ((y : A) → Is y → ⊥) → (r : Refusal) × (read ≡ refused r)
    back (refused r) e none_is = (r, e)
    back (good y) e none_is = absurd (none_is y ((is y).0 e))

-- and they are refused exactly where they write no files
pub files_refused : (S : Stated) (x : Texts) (room : Rooms) → ((r : Refusal) × (files_of S x room ≡ refused r)) ↔ ((files : Files) → WrittenFiles S x room files → ⊥)
files_refused S x room = refused_exactly (files_of S x room) (WrittenFiles S x room) (files_written S x room)

-- ---- with a solution

pub whole_written : (S : Stated) (x : Texts) (s : List ℕ) (room : Rooms) (choices : ℕ) (w : Whole) → (all_read S x s room choices ≡ good w) ↔ WrittenWhole S x s room choices w
whole_written S x s room choices w = (there, back)
  where
    there : all_read S x s room choices ≡ good w → WrittenWhole S x s room choices w
    there e =
        let k = all_good S x s room choices w e in
        record { files = (files_written S x room w.files).0 k.0; solution = choices_good S.horizon w.files solution_file choices s w.choices k.1 }

    back : WrittenWhole S x s room choices w → all_read S x s room choices ≡ good w
    back g =
        good_all S x s room choices w.files w.choices ((files_written S x room w.files).1 g.files)
        (good_choices S.horizon w.files solution_file choices s w.choices g.solution)

-- THE THEOREM of `check`: it refuses exactly where the four texts write nothing lawful that has room
pub check-refuses : (S : Stated) (x : Texts) (s : List ℕ) (t : Tables) (c : List ℕ)
    → IsRefused (checked S x s t c).answer ↔ ((w : Whole) → WrittenWhole S x s (rooms_of t) (length c) w → ⊥)
unfolding checked
check-refuses S x s t c = (λ k. exact.0 (was read k), λ h. let k = exact.1 h in (k.0, ap (λ (o : Reading Whole). (checked_from o t c).answer) k.1))
  where
    read : Reading Whole
    read = all_read S x s (rooms_of t) (length c)

    exact : ((r : Refusal) × (read ≡ refused r)) ↔ ((w : Whole) → WrittenWhole S x s (rooms_of t) (length c) w → ⊥)
    exact = refused_exactly read (WrittenWhole S x s (rooms_of t) (length c)) (whole_written S x s (rooms_of t) (length c))

    was : (o : Reading Whole) → IsRefused (checked_from o t c).answer → (r : Refusal) × (o ≡ refused r)
    was (refused r) k = (r, refl)
    was (good w) k = absurd (verdict-not_refused solution_file (verdict_of w.files w.choices).finding k)
