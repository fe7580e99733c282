-- The tables of rows say the rows again: what is read is well-formed. Assumes nothing.
use Prim.Native.Nat.{ℕ, suc, ◌+◌, ◌<◌}
use mathlib.Core.Path.{◌≡◌, refl, ap, sym, ◌∙◌}
use mathlib.Core.Bool.{Bool, true, false, cond, ◌&&◌, ◌||◌}
use mathlib.Core.List.{List, [], ◌∷◌, ◌++◌, map, append_assoc}
use native.Mathlib.Omega.{arith}
use native.Mathlib.Nat.{add-zero, zero-add}
use lib.Dec.{T, eqb, eqb→eq}
use lib.ListN.{length, get_or, length-append}
use lib.Seq.{take-append_seam, drop-append_seam}
use Rattle.rules.specs.Lists.{any, place_from, first_place, flat, sum_of}
use Rattle.rules.specs.Timetable.{Row, same, offers, nominal_place, leg_of, legs_from, legs_of, configurations_of}
use Rattle.rules.specs.Verdict.{All, no_choice}
use Rattle.rules.specs.declared.sizes.Configuration.{Configuration}
use Rattle.rules.proofs.Truth.{and_both, all_map}
use Rattle.rules_theorems.specs.WellFormed.{Lawful, KeptRow, row_of_leg, rows_of, WellFormed}
use Rattle.rules_theorems.proofs.LawfulRows.{rows_kept}
use Rattle.std.specs.Prelude.{Some}

-- ---- the same configuration

pub same_eq : (a b : Configuration) → T (same a b) → a ≡ b
same_eq a b h =
    let k = and_both (eqb a.departure b.departure) (eqb a.travel b.travel && eqb a.profile b.profile) h in
    let l = and_both (eqb a.travel b.travel) (eqb a.profile b.profile) k.1 in
    made (eqb→eq a.departure b.departure k.0) (eqb→eq a.travel b.travel l.0) (eqb→eq a.profile b.profile l.1)
  where
    made : a.departure ≡ b.departure → a.travel ≡ b.travel → a.profile ≡ b.profile → a ≡ b
    made p q r = λ i. record { departure = p i; travel = q i; profile = r i }

-- ---- the nominal's place

-- a test that some element passes: its first place has an element that passes
pub place_found : {A : Type 0} (d : A) (n : ℕ) (p : A → Bool) (xs : List A) → T (any p xs)
    → (i : ℕ) × (place_from n p xs ≡ Some (n + i)) × (i < length xs) × T (p (get_or xs i d))
place_found d n p [] h = absurd h
place_found {A = A} d n p (x ∷ xs) h = go (p x) refl h (place_found d (suc n) p xs)
  where
    go : (t : Bool) → p x ≡ t → T (t || any p xs) → (T (any p xs) → (i : ℕ) × (place_from (suc n) p xs ≡ Some (suc n + i)) × (i < length xs) × T (p (get_or xs i d)))
        → (i : ℕ) × (cond t (Some n) (place_from (suc n) p xs) ≡ Some (n + i)) × (i < suc (length xs)) × T (p (get_or (x ∷ xs) i d))
    go true e h ih = (0, rw add-zero, omega arith, rw e tt)
    go false e h ih =
        let k = ih h in
        let q : suc n + k.0 ≡ n + suc k.0 = omega arith in
        (suc k.0, k.1 ∙ ap (λ (m : ℕ). Some m) q, omega (arith, k.2), k.3)

-- a nominal that is listed stands at its place
pub nominal_there : (r : Row) → T (offers r.list r.nominal) → get_or r.list (nominal_place r) no_choice ≡ r.nominal
nominal_there r h = settle (place_found no_choice 0 (same r.nominal) r.list h)
  where
    settle : (i : ℕ) × (first_place (same r.nominal) r.list ≡ Some (0 + i)) × (i < length r.list) × T (same r.nominal (get_or r.list i no_choice))
        → get_or r.list (nominal_place r) no_choice ≡ r.nominal
    settle k = rw (k.1, zero-add k.0) (sym (same_eq r.nominal (get_or r.list k.0 no_choice) k.3))

-- ---- rows of tables

row_of-leg : (before rest : List Configuration) (r : Row) → T (offers r.list r.nominal) → row_of_leg (before ++ (r.list ++ rest)) (leg_of (length before) r) ≡ r
row_of-leg before rest r h =
    rw (drop-append_seam before (r.list ++ rest), take-append_seam r.list rest, nominal_there r h)

rows_of-legs : (before : List Configuration) (rows : List Row) → All (λ r. T (offers r.list r.nominal)) rows
    → map (row_of_leg (before ++ configurations_of rows)) (legs_from (length before) rows) ≡ rows
rows_of-legs before [] h = refl
rows_of-legs before (r ∷ rows) h =
    let ih = rows_of-legs (before ++ r.list) rows h.1 in
    cc (row_of-leg before (configurations_of rows) r h.0, rw (append_assoc before r.list (configurations_of rows), length-append before r.list) at ih)

-- the tables of rows say the rows
pub rows_of-tables : (rows : List Row) → All (λ r. T (offers r.list r.nominal)) rows → rows_of (legs_of rows) (configurations_of rows) ≡ rows
rows_of-tables rows h = rows_of-legs [] rows h

-- the tables of lawful rows are well-formed
pub lawful_wellformed : (H : ℕ) (rows : List Row) → Lawful H rows → WellFormed H (legs_of rows) (configurations_of rows)
lawful_wellformed H rows h = made (rows_of-tables rows (all_map (KeptRow H) (λ r. T (offers r.list r.nominal)) (λ r k. k.nominal_listed) rows (rows_kept H rows h)))
  where
    made : rows_of (legs_of rows) (configurations_of rows) ≡ rows → WellFormed H (legs_of rows) (configurations_of rows)
    made e = record { lawful = rw e h; legs_are = ap legs_of e; configurations_are = ap configurations_of e }

-- ---- counts of tables

pub length-flat : {A B : Type 0} (f : A → List B) (xs : List A) → length (flat f xs) ≡ sum_of (λ x. length (f x)) xs
length-flat f [] = refl
length-flat f (x ∷ xs) = length-append (f x) (flat f xs) ∙ rw (length-flat f xs)
