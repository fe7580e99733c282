-- Lists with one element more, tables with one entry more, and numbers that are held. Assumes nothing.
use Prim.Native.Nat.{ℕ, suc, ◌+◌, ◌*◌, ◌/◌, ◌≤◌, ◌<◌}
use mathlib.Core.Path.{◌≡◌, refl, ap, sym, ◌∙◌}
use mathlib.Core.Bool.{Bool, true, false, cond, ◌&&◌}
use mathlib.Core.List.{List, [], ◌∷◌, ◌++◌, map}
use native.Mathlib.Omega.{arith}
use native.Mathlib.Nat.{lt_of_not-le, not-le_of_lt}
use native.Mathlib.Numerals.{add-one}
use lib.Dec.{leb, ltb}
use lib.ListN.{length, get_or, length-append, get_or-map}
use lib.Seq.{sets}
use borrow.Author.Tests.{leb-true, leb-false, le-leb, lt-leb, ltb-true, ltb-false, lt-ltb, le-ltb}
use Rattle.rules.specs.Limits.{most_id, least_travel, most_travel}
use Rattle.rules.specs.Lists.{every}
use Rattle.rules.specs.Timetable.{Row, in_range, listed, configurations_of}
use Rattle.rules.specs.Verdict.{All}
use Rattle.rules.specs.declared.sizes.Configuration.{Configuration}
use Rattle.rules.proofs.Lists.{every_more}
use Rattle.rules.proofs.Truth.{and_first, and_second}
use Rattle.timetable_row.specs.Digits.{most_held, held}
use Rattle.timetable_row.specs.RowOver.{stored_at}
use Rattle.timetable.specs.Held.{leading, held_configuration}

-- ---- one element more

pub length_snoc : {A : Type 0} (xs : List A) (x : A) → length (xs ++ x ∷ []) ≡ suc (length xs)
length_snoc xs x = length-append xs (x ∷ []) ∙ add-one (length xs)

-- found before, found now, or still not found
pub leading_snoc : {A : Type 0} (p : A → Bool) (xs : List A) (x : A)
    → cond (ltb (leading p xs) (length xs)) (leading p xs) (cond (p x) (leading p xs) (length xs + 1)) ≡ leading p (xs ++ x ∷ [])
leading_snoc p [] x = refl
leading_snoc p (y ∷ xs) x = go (p y) (ltb (leading p xs) (length xs)) refl (p x) (leading_snoc p xs x)
  where
    go : (t f : Bool) → ltb (leading p xs) (length xs) ≡ f → (h : Bool)
        → cond (ltb (leading p xs) (length xs)) (leading p xs) (cond h (leading p xs) (length xs + 1)) ≡ leading p (xs ++ x ∷ [])
        → cond (ltb (cond t 0 (suc (leading p xs))) (suc (length xs))) (cond t 0 (suc (leading p xs))) (cond h (cond t 0 (suc (leading p xs))) (suc (length xs) + 1))
        ≡ cond t 0 (suc (leading p (xs ++ x ∷ [])))
    go true f e h ih = rw (lt-ltb 0 (suc (length xs)) (omega arith))
    go false true e h ih =
        rw (lt-ltb (suc (leading p xs)) (suc (length xs)) (omega (arith, ltb-true (leading p xs) (length xs) e))) (ap suc (rw e at ih))
    go false false e true ih =
        rw (le-ltb (suc (leading p xs)) (suc (length xs)) (omega (arith, ltb-false (leading p xs) (length xs) e))) (ap suc (rw e at ih))
    go false false e false ih =
        rw (le-ltb (suc (leading p xs)) (suc (length xs)) (omega (arith, ltb-false (leading p xs) (length xs) e)))
        (let q : suc (length xs) + 1 ≡ suc (length xs + 1) = omega arith in q ∙ ap suc (rw e at ih))

-- ---- tables

pub configurations_length : (rows : List Row) → length (configurations_of rows) ≡ listed rows
configurations_length [] = refl
configurations_length (r ∷ rows) = length-append r.list (configurations_of rows) ∙ ap (λ (n : ℕ). length r.list + n) (configurations_length rows)

pub stored_fits : (w k : ℕ) (x t : List ℕ) → k < length t / w → stored_at w k x t ≡ sets t (k * w) x
stored_fits w k x t h = rw (lt-ltb k (length t / w) h)

-- ---- numbers that are held

pub held_all : (l : List ℕ) (k : ℕ) → get_or (map held l) k 0 ≡ held (get_or l k 0)
held_all l k = get_or-map held l k 0

pub leb_alike : (a b c d : ℕ) → (a ≤ b → c ≤ d) → (c ≤ d → a ≤ b) → leb a b ≡ leb c d
leb_alike a b c d f g = go (leb c d) refl
  where
    go : (t : Bool) → leb c d ≡ t → leb a b ≡ t
    go true e = le-leb a b (g (leb-true c d e))
    go false e = lt-leb a b (lt_of_not-le (λ h. not-le_of_lt (leb-false c d e) (f h)))

-- a configuration is in range exactly where it is as it is held
pub range_held : (H : ℕ) (c : Configuration) → H ≤ most_held → in_range H (held_configuration c) ≡ in_range H c
range_held H c h =
    rw (
      leb_alike least_travel (held c.travel) least_travel c.travel (λ q. omega arith) (λ q. omega arith),
      leb_alike (held c.travel) most_travel c.travel most_travel (λ q. omega arith) (λ q. omega arith),
      leb_alike (held c.profile) most_id c.profile most_id (λ q. omega arith) (λ q. omega arith),
    )
    (go (leb least_travel c.travel) refl (leb c.travel most_travel) refl)
  where
    go : (a : Bool) → leb least_travel c.travel ≡ a → (b : Bool) → leb c.travel most_travel ≡ b
        → (a && (b && (leb (held c.departure + held c.travel) H && leb c.profile most_id)))
        ≡ (a && (b && (leb (c.departure + c.travel) H && leb c.profile most_id)))
    go true e true f =
        let k : least_travel ≤ c.travel = leb-true least_travel c.travel e in
        let l : c.travel ≤ most_travel = leb-true c.travel most_travel f in
        rw (leb_alike (held c.departure + held c.travel) H (c.departure + c.travel) H (λ q. omega arith) (λ q. omega arith))
    go true e false f = refl
    go false e b f = refl

pub every_front : {A : Type 0} (p : A → Bool) (xs : List A) (x : A) → every p (xs ++ x ∷ []) ≡ true → every p xs ≡ true
every_front p xs x e = and_first (every p xs) (p x) (sym (every_more p xs x) ∙ e)

pub every-last : {A : Type 0} (p : A → Bool) (xs : List A) (x : A) → every p (xs ++ x ∷ []) ≡ true → p x ≡ true
every-last p xs x e = and_second (every p xs) (p x) (sym (every_more p xs x) ∙ e)

-- what is in range is held as it is
pub exact : (H : ℕ) (c : Configuration) → H ≤ most_held → in_range H c ≡ true → (held c.departure ≡ c.departure) × (held c.travel ≡ c.travel) × (held c.profile ≡ c.profile)
exact H c h e =
    let low : Bool = leb least_travel c.travel in
    let high : Bool = leb c.travel most_travel in
    let end : Bool = leb (c.departure + c.travel) H in
    let id : Bool = leb c.profile most_id in
    let after : (high && (end && id)) ≡ true = and_second low (high && (end && id)) e in
    let later : (end && id) ≡ true = and_second high (end && id) after in
    let a : c.travel ≤ most_travel = leb-true c.travel most_travel (and_first high (end && id) after) in
    let b : c.departure + c.travel ≤ H = leb-true (c.departure + c.travel) H (and_first end id later) in
    let k : c.profile ≤ most_id = leb-true c.profile most_id (and_second end id later) in
    (omega arith, omega arith, omega arith)

-- ids in range, one by one
pub ids_low : (ids : List ℕ) → every (λ id. leb id most_id) ids ≡ true → All (λ id. id ≤ most_id) ids
ids_low [] e = tt
ids_low (id ∷ ids) e =
    let rest : Bool = every (λ id. leb id most_id) ids in
    (leb-true id most_id (and_first (leb id most_id) rest e), ids_low ids (and_second (leb id most_id) rest e))
