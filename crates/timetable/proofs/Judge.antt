-- The reader's tests of a row that is over are the definition's, made on what the reader holds. Assumes nothing.
use Prim.Native.Nat.{ℕ, suc, ◌+◌, ◌*◌, ◌/◌, ◌≤◌, ◌<◌}
use mathlib.Core.Path.{◌≡◌, refl, ap, sym, ◌∙◌, subst}
use mathlib.Core.Bool.{Bool, true, false, not, cond, ◌&&◌, ◌||◌}
use mathlib.Core.List.{List, [], ◌∷◌, ◌++◌, append-nil}
use native.Mathlib.Omega.{arith}
use lib.Dec.{leb, ltb, eqb}
use lib.ListN.{length, get_or, drop}
use lib.Seq.{get_or-take}
use borrow.Author.Tests.{leb-true, leb-false, lt-leb, lt-ltb, le-ltb, ne_eqb}
use Rattle.std.specs.Prelude.{Option, Some, None, unwrap_or}
use Rattle.rules.specs.Limits.{most_id, most_legs, most_listed, most_configurations, leg_width}
use Rattle.rules.specs.Lists.{every, any, flat, place_from, over}
use Rattle.rules.specs.Answers.{Judged, wrong, right, judge, out_of_range, too_many, already_seen, nominal_not_listed, no_room, ◌needs◌}
use Rattle.rules.specs.Timetable.{Row, row, in_range, same, ids_of, offers, listed, row_tests, leg_of, legs_from, legs_of, leg_numbers, nominal_place}
use Rattle.rules.specs.Verdict.{All}
use Rattle.rules.specs.declared.sizes.Configuration.{Configuration}
use Rattle.rules.proofs.Lists.{over-length, flat-length}
use Rattle.rules.proofs.Truth.{and_first, and_second}
use Rattle.timetable_row.specs.declared.line.Line.{Line}
use Rattle.timetable_row.specs.Digits.{held}
use Rattle.timetable.specs.Open.{row_of}
use Rattle.timetable_row.specs.Slots.{nominal_slot, nominal_travel_slot, nominal_profile_slot, entry_slot, nominal_of}
use Rattle.timetable.specs.Held.{leading, same_held, Opened, Rowed, Tables, InLine}
use Rattle.timetable_row.specs.RowOver.{ids_in, range_holds, counts_hold, is_new, room_holds, line_tests, lowest, held_leg}
use Rattle.timetable.specs.Ended.{draft_room}
use Rattle.timetable.proofs.Words.{held_all, range_held, exact, leb_alike, ids_low}

-- ---- the row that eight numbers and a list make

abbrev pub row_from : List ℕ → List Configuration → Row
row_from closed list = row (get_or closed 0 0) (get_or closed 1 0) (get_or closed 2 0) (get_or closed 3 0) (get_or closed 4 0) (nominal_of closed) list

pub eight_make : (closed : List ℕ) (list : List Configuration) → length closed ≡ entry_slot → row_of closed list ≡ Some (row_from closed list)
eight_make [] l e = absurd (omega arith)
eight_make (a ∷ []) l e = absurd (omega arith)
eight_make (a ∷ b ∷ []) l e = absurd (omega arith)
eight_make (a ∷ b ∷ c ∷ []) l e = absurd (omega arith)
eight_make (a ∷ b ∷ c ∷ d ∷ []) l e = absurd (omega arith)
eight_make (a ∷ b ∷ c ∷ d ∷ f ∷ []) l e = absurd (omega arith)
eight_make (a ∷ b ∷ c ∷ d ∷ f ∷ g ∷ []) l e = absurd (omega arith)
eight_make (a ∷ b ∷ c ∷ d ∷ f ∷ g ∷ h ∷ []) l e = absurd (omega arith)
eight_make (a ∷ b ∷ c ∷ d ∷ f ∷ g ∷ h ∷ i ∷ []) l e = refl
eight_make (a ∷ b ∷ c ∷ d ∷ f ∷ g ∷ h ∷ i ∷ j ∷ more) l e = absurd (omega arith)

-- ---- the first of a list that passes a test

pub leading-any : {A : Type 0} (p : A → Bool) (xs : List A) → ltb (leading p xs) (length xs) ≡ any p xs
leading-any p [] = refl
leading-any p (x ∷ xs) = go (p x) (leading-any p xs)
  where
    go : (t : Bool) → ltb (leading p xs) (length xs) ≡ any p xs → ltb (cond t 0 (suc (leading p xs))) (suc (length xs)) ≡ (t || any p xs)
    go true h = lt-ltb 0 (suc (length xs)) (omega arith)
    go false h = leb_alike (suc (suc (leading p xs))) (suc (length xs)) (suc (leading p xs)) (length xs) (λ q. omega arith) (λ q. omega arith) ∙ h

pub leading_place : {A : Type 0} (p : A → Bool) (xs : List A) (k : ℕ) → any p xs ≡ true → unwrap_or (place_from k p xs) 0 ≡ k + leading p xs
leading_place p [] k e = let z : ◌≡◌ {A = ℕ} 0 1 = cc in absurd (omega arith)
leading_place p (x ∷ xs) k e = go (p x) (leading_place p xs (suc k)) e
  where
    go : (t : Bool) → (any p xs ≡ true → unwrap_or (place_from (suc k) p xs) 0 ≡ suc k + leading p xs) → (t || any p xs) ≡ true
        → unwrap_or (cond t (Some k) (place_from (suc k) p xs)) 0 ≡ k + cond t 0 (suc (leading p xs))
    go true h f = omega arith
    go false h f = h f ∙ omega arith

-- tests that agree on every element that keeps a rule
module _ {A : Type 0} (keeps p q : A → Bool) (agree : (x : A) → keeps x ≡ true → p x ≡ q x) where
  pub leading_alike : (xs : List A) → every keeps xs ≡ true → leading p xs ≡ leading q xs
  leading_alike [] e = refl
  leading_alike (x ∷ xs) e =
      rw (agree x (and_first (keeps x) (every keeps xs) e), leading_alike xs (and_second (keeps x) (every keeps xs) e))

-- ---- new ids

pub any_below : (above id : ℕ) → above ≤ id → (rows : List Row) → All (λ r. r.leg < above) rows → any (λ r. eqb r.leg id) rows ≡ false
any_below above id h [] b = refl
any_below above id h (r ∷ rows) b = rw (ne_eqb r.leg id (λ e. omega (arith, b.0)), any_below above id h rows b.1)

table-ids : (id : ℕ) (rows : List Row) (first : ℕ) (rest : List ℕ)
    → any (λ x. eqb x id) (ids_in (length rows) (flat leg_numbers (legs_from first rows) ++ rest)) ≡ any (λ r. eqb r.leg id) rows
table-ids id [] first rest = refl
table-ids id (r ∷ rows) first rest = ap (λ (t : Bool). eqb r.leg id || t) (table-ids id rows (first + length r.list) rest)

legs-length : (rows : List Row) (first : ℕ) → length (legs_from first rows) ≡ length rows
legs-length [] first = refl
legs-length (r ∷ rows) first = ap suc (legs-length rows (first + length r.list))

-- how long the leg table's written part is
pub legs-written : (rows : List Row) → length (flat leg_numbers (legs_of rows)) ≡ length rows * leg_width
legs-written rows = flat-length leg_numbers leg_width (λ l. refl) (legs_of rows) ∙ ap (λ (n : ℕ). n * leg_width) (legs-length rows 0)

-- what is written leaves the leg table as long as it was lent
pub legs_long : {lent legs : List ℕ} {room rows configurations above : ℕ} {before : List Row} → Rowed lent legs room rows configurations above before → length legs ≡ length lent
legs_long {lent = lent} {before = before} w =
    ap length w.legs_are_lem ∙ over-length (flat leg_numbers (legs_of before)) lent (omega (arith, legs-written before, w.legs_fit))

-- ---- the lowest number

abbrev pub outcome : {A : Type 0} → Option ℕ → A → Judged A
outcome None x = right x
outcome (Some k) x = wrong k

pub judge-lowest : {A : Type 0} (x : A) (a b c d e a' b' c' d' e' : Bool) → a' ≡ a → b' ≡ b → (a ≡ true → c' ≡ c) → (a ≡ true → b ≡ true → d' ≡ d) → (b ≡ true → e' ≡ e)
    → judge (out_of_range needs a ∷ too_many needs b ∷ already_seen needs c ∷ nominal_not_listed needs d ∷ no_room needs e ∷ []) x
    ≡ outcome (lowest (out_of_range needs a' ∷ too_many needs b' ∷ already_seen needs c' ∷ nominal_not_listed needs d' ∷ no_room needs e' ∷ [])) x
judge-lowest x false b c d e a' b' c' d' e' p q r s t = rw p
judge-lowest x true false c d e a' b' c' d' e' p q r s t = rw (p, q)
judge-lowest x true true false d e a' b' c' d' e' p q r s t = rw (p, q, r refl)
judge-lowest x true true true false e a' b' c' d' e' p q r s t = rw (p, q, r refl, s refl refl)
judge-lowest x true true true true false a' b' c' d' e' p q r s t = rw (p, q, r refl, s refl refl, t refl)
judge-lowest x true true true true true a' b' c' d' e' p q r s t = rw (p, q, r refl, s refl refl, t refl)

-- no number: every test holds
pub lowest_none : (a b c d e : Bool) → lowest (out_of_range needs a ∷ too_many needs b ∷ already_seen needs c ∷ nominal_not_listed needs d ∷ no_room needs e ∷ []) ≡ None
    → (a ≡ true) × (b ≡ true) × (c ≡ true) × (d ≡ true) × (e ≡ true)
lowest_none false b c d e z = cc
lowest_none true false c d e z = cc
lowest_none true true false d e z = cc
lowest_none true true true false e z = cc
lowest_none true true true true false z = cc
lowest_none true true true true true z = (refl, refl, refl, refl, refl)

-- the number of a test that fails is no 0
abbrev Positive : Option ℕ → Type 0
Positive None = Unit {0}
Positive (Some k) = 0 < k

number_positive : (a b c d e : Bool) → Positive (lowest (out_of_range needs a ∷ too_many needs b ∷ already_seen needs c ∷ nominal_not_listed needs d ∷ no_room needs e ∷ []))
number_positive false b c d e = omega arith
number_positive true false c d e = omega arith
number_positive true true false d e = omega arith
number_positive true true true false e = omega arith
number_positive true true true true false = omega arith
number_positive true true true true true = tt

pub lowest_positive : (a b c d e : Bool) (k : ℕ) → Some k ≡ lowest (out_of_range needs a ∷ too_many needs b ∷ already_seen needs c ∷ nominal_not_listed needs d ∷ no_room needs e ∷ []) → 0 < k
lowest_positive a b c d e k q = subst Positive (sym q) (number_positive a b c d e)

-- ---- the reader's tests and the definition's

id_held : (n : ℕ) → leb (held n) most_id ≡ leb n most_id
id_held n = leb_alike (held n) most_id n most_id (λ q. omega arith) (λ q. omega arith)

wide_twice : (w x : Bool) → w ≡ not x → not w ≡ x
wide_twice w true e = rw e
wide_twice w false e = rw e

module _ (H : ℕ) (lent : Tables) (line : Line) (now : Tables) (place : ℕ) (before : List Row) (closed : List ℕ) (list : List Configuration)
    (g : InLine H lent line now place before closed list []) (eight : length closed ≡ entry_slot) where
  abbrev o : Opened H line.slot line.numbers line.entries line.nominal line.wide closed list []
  o = g.opened

  abbrev r : Row
  r = row_from closed list

  abbrev pub ranged : Bool
  ranged = every (λ id. leb id most_id) (ids_of r) && (in_range H (nominal_of closed) && every (in_range H) list)

  abbrev pub counted : Bool
  counted = ltb (length before) most_legs && (leb (length list) most_listed && leb (listed before + length list) most_configurations)

  pub number_held_lem : (k : ℕ) → k < entry_slot → get_or line.numbers k 0 ≡ held (get_or closed k 0)
  number_held_lem k h =
      let s : line.slot ≡ entry_slot = o.slot_is ∙ ap length (append-nil closed) ∙ eight in
      sym (get_or-take line.slot line.numbers k 0 (omega arith))
      ∙ ap (λ (l : List ℕ). get_or l k 0) o.numbers_are
      ∙ held_all (closed ++ []) k
      ∙ ap (λ (l : List ℕ). held (get_or l k 0)) (append-nil closed)

  pub range_same : range_holds H line ≡ ranged
  range_same =
      rw (
        number_held_lem 0 (omega arith),
        number_held_lem 1 (omega arith),
        number_held_lem 2 (omega arith),
        number_held_lem 3 (omega arith),
        number_held_lem 4 (omega arith),
        number_held_lem nominal_slot (omega arith),
        number_held_lem nominal_travel_slot (omega arith),
        number_held_lem nominal_profile_slot (omega arith),
        id_held (get_or closed 0 0),
        id_held (get_or closed 1 0),
        id_held (get_or closed 2 0),
        id_held (get_or closed 3 0),
        id_held (get_or closed 4 0),
        range_held H (nominal_of closed) g.horizon,
        wide_twice line.wide (every (in_range H) list) o.wide_is,
      )

  pub few_is : length list ≤ most_listed → line.entries ≡ length list
  few_is h = o.entries_are ∙ omega arith

  counts_same : counts_hold line ≡ counted
  counts_same = rw (g.rowed.rows_are, g.rowed.configurations_are_lem) (go (leb (length list) most_listed) refl)
    where
      go : (t : Bool) → leb (length list) most_listed ≡ t
          → (ltb (length before) most_legs && (leb line.entries most_listed && leb (listed before + line.entries) most_configurations))
          ≡ (ltb (length before) most_legs && (t && leb (listed before + length list) most_configurations))
      go true e = let k : line.entries ≡ length list = few_is (leb-true (length list) most_listed e) in rw (k, e)
      go false e =
          let k : most_listed < line.entries = omega (arith, o.entries_are, leb-false (length list) most_listed e) in
          rw (lt-leb line.entries most_listed k)

  -- what good range says of each number
  pub ids_right : ranged ≡ true → every (λ id. leb id most_id) (ids_of r) ≡ true
  ids_right e = and_first (every (λ id. leb id most_id) (ids_of r)) (in_range H (nominal_of closed) && every (in_range H) list) e

  pub nominal_right : ranged ≡ true → in_range H (nominal_of closed) ≡ true
  nominal_right e =
      and_first (in_range H (nominal_of closed)) (every (in_range H) list) (and_second (every (λ id. leb id most_id) (ids_of r)) (in_range H (nominal_of closed) && every (in_range H) list) e)

  pub list_right : ranged ≡ true → every (in_range H) list ≡ true
  list_right e =
      and_second (in_range H (nominal_of closed)) (every (in_range H) list) (and_second (every (λ id. leb id most_id) (ids_of r)) (in_range H (nominal_of closed) && every (in_range H) list) e)

  -- an id in range is held as it is
  pub number_exact : (k : ℕ) → k < entry_slot → get_or closed k 0 ≤ most_id → get_or line.numbers k 0 ≡ get_or closed k 0
  number_exact k h i = number_held_lem k h ∙ omega arith

  new_same : get_or closed 0 0 ≤ most_id → is_new line.rows line.above (get_or line.numbers 0 0) now.legs ≡ not (any (λ b. eqb b.leg r.leg) before)
  unfolding over
  new_same i = rw (number_exact 0 (omega arith) i, w.rows_are) (go (leb line.above (get_or closed 0 0)) refl)
    where
      w : Rowed lent.legs now.legs (length lent.configurations) line.rows line.configurations line.above before
      w = g.rowed

      written : any (λ x. eqb x (get_or closed 0 0)) (ids_in (length before) now.legs) ≡ any (λ b. eqb b.leg r.leg) before
      written = rw w.legs_are_lem (table-ids (get_or closed 0 0) before 0 (drop (length (flat leg_numbers (legs_of before))) lent.legs))

      go : (t : Bool) → leb line.above (get_or closed 0 0) ≡ t
          → cond t true (cond (ltb (length now.legs / leg_width) (length before)) true (not (any (λ x. eqb x (get_or closed 0 0)) (ids_in (length before) now.legs))))
          ≡ not (any (λ b. eqb b.leg r.leg) before)
      go true e = rw (any_below line.above (get_or closed 0 0) (leb-true line.above (get_or closed 0 0) e) before w.below)
      go false e = rw (le-ltb (length now.legs / leg_width) (length before) (omega (arith, w.legs_fit, legs_long w)), written)

  -- configurations in range are the same where they are held as the same
  held_same : in_range H (nominal_of closed) ≡ true → (c : Configuration) → in_range H c ≡ true → same_held (nominal_of closed) c ≡ same (nominal_of closed) c
  held_same n c k =
      let a = exact H (nominal_of closed) g.horizon n in
      let b = exact H c g.horizon k in
      rw (a.0, a.1, a.2, b.0, b.1, b.2)

  nominal_at_lem : ranged ≡ true → length list ≤ most_listed → line.nominal ≡ leading (same (nominal_of closed)) list
  nominal_at_lem e h =
      o.nominal_is h ∙ leading_alike (in_range H) (same_held (nominal_of closed)) (same (nominal_of closed)) (held_same (nominal_right e)) list (list_right e)

  pub nominal_same : ranged ≡ true → length list ≤ most_listed → ltb line.nominal line.entries ≡ offers list (nominal_of closed)
  nominal_same e h = rw (nominal_at_lem e h, few_is h) (leading-any (same (nominal_of closed)) list)

  room_same : (room : ℕ) → room ≡ length lent.configurations → length list ≤ most_listed
      → room_holds line (length now.legs) room ≡ draft_room lent before r
  room_same room q h =
      let w : Rowed lent.legs now.legs (length lent.configurations) line.rows line.configurations line.above before = g.rowed in
      rw (w.rows_are, w.configurations_are_lem, few_is h, q, legs_long w)

  few_of : counted ≡ true → length list ≤ most_listed
  few_of e =
      leb-true (length list) most_listed
      (and_first (leb (length list) most_listed) (leb (listed before + length list) most_configurations)
      (and_second (ltb (length before) most_legs) (leb (length list) most_listed && leb (listed before + length list) most_configurations) e))

  pub leg-in_range : ranged ≡ true → get_or closed 0 0 ≤ most_id
  leg-in_range e = (ids_low (ids_of r) (ids_right e)).0

  -- the row is judged by the lowest number of the reader's tests
  pub judged : (room : ℕ) → room ≡ length lent.configurations
      → judge (row_tests H (draft_room lent) before r) r ≡ outcome (lowest (line_tests H line now.legs room)) r
  judged room q =
      judge-lowest r ranged counted (not (any (λ b. eqb b.leg r.leg) before)) (offers list (nominal_of closed)) (draft_room lent before r)
      (range_holds H line) (counts_hold line) (is_new line.rows line.above (get_or line.numbers 0 0) now.legs) (ltb line.nominal line.entries) (room_holds line (length now.legs) room)
      range_same counts_same (λ a. new_same (leg-in_range a)) (λ a b. nominal_same a (few_of b)) (λ b. room_same room q (few_of b))

  -- a row with no fault: its tests hold
  pub faultless : (room : ℕ) → room ≡ length lent.configurations → lowest (line_tests H line now.legs room) ≡ None
      → (ranged ≡ true) × (counted ≡ true) × (offers list (nominal_of closed) ≡ true) × (draft_room lent before r ≡ true)
  faultless room q z =
      let k =
      lowest_none (range_holds H line) (counts_hold line) (is_new line.rows line.above (get_or line.numbers 0 0) now.legs) (ltb line.nominal line.entries) (room_holds line (length now.legs) room) z in
      let a : ranged ≡ true = sym range_same ∙ k.0 in
      let b : counted ≡ true = sym counts_same ∙ k.1 in
      (a, b, sym (nominal_same a (few_of b)) ∙ k.3, sym (room_same room q (few_of b)) ∙ k.4)

  -- and the leg is held as it is
  pub leg-held : ranged ≡ true → counted ≡ true → offers list (nominal_of closed) ≡ true → held_leg line ≡ leg_numbers (leg_of (listed before) r)
  leg-held a b c =
      let low : All (λ id. id ≤ most_id) (ids_of r) = ids_low (ids_of r) (ids_right a) in
      let at : line.nominal ≡ nominal_place r = nominal_at_lem a (few_of b) ∙ omega (arith, leading_place (same (nominal_of closed)) list 0 c) in
      rw (
        number_exact 0 (omega arith) low.0,
        number_exact 1 (omega arith) low.1.0,
        number_exact 2 (omega arith) low.1.1.0,
        number_exact 3 (omega arith) low.1.1.1.0,
        number_exact 4 (omega arith) low.1.1.1.1.0,
        g.rowed.configurations_are_lem,
        few_is (few_of b),
        at,
      )

  pub leg_is_lem : ranged ≡ true → (get_or line.numbers 0 0 ≡ r.leg) × (r.leg ≤ most_id)
  leg_is_lem a = (number_exact 0 (omega arith) (leg-in_range a), leg-in_range a)
