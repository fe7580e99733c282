-- 14: the first row that differs from the draft's is found row by row, from the leg table. Assumes nothing.
use Prim.Native.Nat.{ℕ, zero, suc, ◌+◌, ◌*◌, ◌≤◌, ◌<◌}
use mathlib.Core.Path.{◌≡◌, refl, ap, ap₂, sym, ◌∙◌}
use mathlib.Core.Bool.{Bool, true, false, cond, ◌&&◌}
use mathlib.Core.List.{List, [], ◌∷◌, ◌++◌, map, append_assoc, append-nil, map-append}
use native.Mathlib.Omega.{arith}
use native.Mathlib.Numerals.{add-one}
use lib.Dec.{ltb, eqb}
use lib.ListN.{length, get_or, take, drop, length-drop, take-append-drop}
use lib.Seq.{drop-cons, drop-drop}
use borrow.Author.Tests.{lt-ltb, le-ltb, ltb-true, eqb-true}
use Rattle.std.specs.Prelude.{Option, Some, None, Result, Ok, Err}
use Rattle.std.specs.Option.{is_some}
use Rattle.rules.specs.Limits.{leg_width}
use Rattle.rules.specs.Lists.{flat, over}
use Rattle.rules.specs.Answers.{differs, good, ◌>>=◌}
use Rattle.rules.specs.Rows.{place_of_row}
use Rattle.rules.specs.Timetable.{Row, ids_of, legs_from, legs_of, leg_numbers, choices_of}
use Rattle.rules.specs.Reading.{same_leg, differs_from, matched}
use Rattle.rules.proofs.Truth.{and_true, and_first}
use Rattle.tables_ids.specs.Column.{column}
use Rattle.tables_ids.proofs.Column.{column-more}
use Rattle.timetable_row.specs.Slots.{held_ids}
use Rattle.timetable.proofs.Words.{length_snoc}
use Rattle.rules.specs.declared.answers.Fault.{Fault}
use Rattle.timetable_row.specs.Faults.{fault_at}
use Rattle.solution_row.specs.Against.{same_at, differs_at, compared_with, compared_answer}
use Rattle.solution.specs.Promise.{HoldsRows, choices_answer}
use Rattle.solution.specs.Whole.{choices_after}

-- ---- the answer: no more rows than were read

pub read_all : (c : Option ℕ) (rows n end m : ℕ) (answer : Result ℕ Fault) → answer ≡ compared_answer c rows n end → answer ≡ Ok m → m ≡ rows
read_all c rows n end m answer e f = go c (sym e ∙ f)
  where
    none_found : (u : Bool) → cond u (Err (fault_at differs end)) (Ok rows) ≡ Ok m → m ≡ rows
    none_found true q = cc
    none_found false q = cc

    go : (x : Option ℕ) → compared_answer x rows n end ≡ Ok m → m ≡ rows
    go (Some place) q = cc
    go None q = none_found (ltb rows n) q

-- ---- the draft's rows in the leg table

-- the ids of row k
ids_in_lem : (first k : ℕ) (rows : List Row) (a : Row) (more : List Row) (rest : List ℕ) → drop k rows ≡ a ∷ more
    → take (length (ids_of a)) (drop (k * leg_width) (flat leg_numbers (legs_from first rows) ++ rest)) ≡ ids_of a
ids_in_lem first zero [] a more rest e = let z : ◌≡◌ {A = ℕ} 0 1 = cc in absurd (omega arith)
ids_in_lem first zero (r ∷ rows) a more rest e = let same : r ≡ a = cc in rw (← same)
ids_in_lem first (suc k) [] a more rest e = let z : ◌≡◌ {A = ℕ} 0 1 = cc in absurd (omega arith)
ids_in_lem first (suc k) (r ∷ rows) a more rest e =
    let at : suc k * leg_width ≡ suc (suc (suc (suc (suc (suc (suc (suc (k * leg_width)))))))) = omega arith in
    rw at (ids_in_lem (first + length r.list) k rows a more rest e)

module _ {legs : List ℕ} {n : ℕ} {draft : List Row} (holds : HoldsRows legs n draft) where
  ids_at : (k : ℕ) (a : Row) (more : List Row) → drop k draft ≡ a ∷ more → take (length (ids_of a)) (drop (k * leg_width) legs) ≡ ids_of a
  unfolding over
  ids_at k a more e = rw holds.front (ids_in_lem 0 k draft a more (drop (length (flat leg_numbers (legs_of draft))) legs) e)

  -- row k of the table differs where the draft's row does
  same-leg : (k : ℕ) (a : Row) (more : List Row) (r : Row) (numbers : List ℕ) → drop k draft ≡ a ∷ more → held_ids numbers ≡ ids_of r → same_at numbers legs k ≡ same_leg a r
  same-leg k a more r numbers e ids =
      rw (ids, ← take-append-drop (length (ids_of a)) (drop (k * leg_width) legs), ids_at k a more e, and_true (eqb a.end r.end))

-- as many choices as rows
pub choices-length : (rows : List Row) → length (choices_of rows) ≡ length rows
choices-length [] = refl
choices-length (r ∷ rows) = ap suc (choices-length rows)

-- ---- what is left to compare

-- the comparison of all rows, whatever follows those before: what is found, or the comparison of those that follow
abbrev pub found_or : Option ℕ → Option ℕ → Option ℕ
found_or (Some place) o = Some place
found_or None o = o

abbrev pub Compares : (text : List ℕ) (draft before : List Row) → Option ℕ → Type 0
Compares text draft before c =
    (rest : List Row) → differs_from 0 text draft (before ++ rest) ≡ found_or c (differs_from (length before) text (drop (length before) draft) rest)

module _ {legs : List ℕ} {n : ℕ} {draft : List Row} (holds : HoldsRows legs n draft) (text : List ℕ) where
  drop_next : (k : ℕ) (a : Row) (more : List Row) → drop k draft ≡ a ∷ more → drop (suc k) draft ≡ more
  drop_next k a more e = ap (λ (m : ℕ). drop m draft) (sym (add-one k)) ∙ sym (drop-drop 1 k draft) ∙ ap (drop 1) e

  past : (k : ℕ) → drop k draft ≡ [] → n ≤ k
  past k e = omega (arith, length-drop k draft, ap length e, holds.many)

  inside : (k : ℕ) (a : Row) (more : List Row) → drop k draft ≡ a ∷ more → k < n
  inside k a more e = omega (arith, length-drop k draft, ap length e, holds.many)

  pub compares_on : (before : List Row) (c : Option ℕ) (r : Row) (numbers : List ℕ) (place : ℕ) → Compares text draft before c → held_ids numbers ≡ ids_of r → place_of_row text (length before) ≡ place
      → Compares text draft (before ++ r ∷ []) (compared_with c numbers legs n (length before) place)
  compares_on before c r numbers place h ids at rest =
      rw (append_assoc before (r ∷ []) rest, length_snoc before r) (h (r ∷ rest) ∙ go c)
    where
      k : ℕ
      k = length before

      onward : Option ℕ → Option ℕ
      onward x = found_or x (differs_from (suc k) text (drop (suc k) draft) rest)

      among : (rows : List Row) → drop k draft ≡ rows → differs_from k text rows (r ∷ rest) ≡ onward (cond (ltb k n && same_at numbers legs k) None (differs_at place))
      among [] e = rw (le-ltb k n (past k e)) (ap Some at)
      among (a ∷ more) e = rw (lt-ltb k n (inside k a more e), same-leg holds k a more r numbers e ids) (by_row (same_leg a r))
        where
          by_row : (t : Bool) → cond t (differs_from (suc k) text more rest) (Some (place_of_row text k)) ≡ onward (cond t None (differs_at place))
          by_row true = rw (drop_next k a more e)
          by_row false = ap Some at

      go : (x : Option ℕ) → found_or x (differs_from k text (drop k draft) (r ∷ rest)) ≡ onward (compared_with x numbers legs n k place)
      go (Some found) = refl
      go None = among (drop k draft) refl

  -- nothing is left
  pub compares_end : (rows : List Row) (c : Option ℕ) → Compares text draft rows c
      → differs_from 0 text draft rows ≡ found_or c (cond (ltb (length rows) n) (Some (length text)) None)
  compares_end rows c h = ap (differs_from 0 text draft) (sym (append-nil rows)) ∙ h [] ∙ ap (found_or c) (go (drop (length rows) draft) refl)
    where
      go : (left : List Row) → drop (length rows) draft ≡ left → differs_from (length rows) text left [] ≡ cond (ltb (length rows) n) (Some (length text)) None
      go [] e = rw (le-ltb (length rows) n (past (length rows) e))
      go (a ∷ more) e = rw (lt-ltb (length rows) n (inside (length rows) a more e))

  -- the answer is the definition's
  pub compared_right : (file : ℕ) (rows : List Row) (c : Option ℕ) → Compares text draft rows c
      → compared_answer c (length rows) n (length text) ≡ choices_answer (choices_after file draft text (good rows))
  compared_right file rows c h = rw (compares_end rows c h) (go c)
    where
      none_found : (u : Bool) → cond u (Err (fault_at differs (length text))) (Ok (length rows))
          ≡ choices_answer (matched file (cond u (Some (length text)) None) rows >>= (λ same. good (choices_of rows)))
      none_found true = refl
      none_found false = rw (choices-length rows)

      go : (x : Option ℕ) → compared_answer x (length rows) n (length text)
          ≡ choices_answer (matched file (found_or x (cond (ltb (length rows) n) (Some (length text)) None)) rows >>= (λ same. good (choices_of rows)))
      go (Some place) = refl
      go None = none_found (ltb (length rows) n)

-- ---- the ids: while no row differs, those of the rows before are the draft's first

abbrev pub Follows : (legs : List ℕ) → List Row → Option ℕ → Type 0
Follows legs before c = c ≡ None → column leg_width (length before) legs ≡ map (λ r. r.leg) before

module _ (legs : List ℕ) (n : ℕ) (whole : n * leg_width ≤ length legs) where
  -- a row whose ids are the table's has its leg's id
  leg_there : (k : ℕ) (r : Row) (numbers : List ℕ) → k < n → held_ids numbers ≡ ids_of r → same_at numbers legs k ≡ true → get_or legs (k * leg_width) 0 ≡ r.leg
  leg_there k r numbers h ids same =
      let inside : k * leg_width < length legs = omega arith in
      let all = rw (ids, drop-cons legs (k * leg_width) 0 inside) at same in
      eqb-true (get_or legs (k * leg_width) 0) r.leg (and_first (eqb (get_or legs (k * leg_width) 0) r.leg) _ all)

  pub follows_on : (before : List Row) (c : Option ℕ) (r : Row) (numbers : List ℕ) (place : ℕ) → Follows legs before c → held_ids numbers ≡ ids_of r
      → Follows legs (before ++ r ∷ []) (compared_with c numbers legs n (length before) place)
  follows_on before c r numbers place h ids = go c (ltb (length before) n) (same_at numbers legs (length before)) refl refl refl
    where
      k : ℕ
      k = length before

      go : (x : Option ℕ) (u v : Bool) → c ≡ x → ltb k n ≡ u → same_at numbers legs k ≡ v → cond (is_some x) x (cond (u && v) x (differs_at place)) ≡ None
          → column leg_width (length (before ++ r ∷ [])) legs ≡ map (λ r. r.leg) (before ++ r ∷ [])
      go (Some found) u v e l s q = cc
      go None false v e l s q = cc
      go None true false e l s q = cc
      go None true true e l s q =
          rw (length_snoc before r, map-append (λ (r : Row). r.leg) before (r ∷ []))
          (column-more leg_width k legs
          ∙ ap₂ (λ (ids : List ℕ) (id : ℕ). ids ++ id ∷ []) (h e) (leg_there k r numbers (ltb-true k n l) ids s))
