-- A row that passes its tests is one of the rows before the next: the tables hold its leg and its configurations. Assumes nothing.
use Prim.Native.Nat.{ℕ, suc, ◌+◌, ◌*◌, ◌/◌, ◌≤◌, ◌<◌}
use mathlib.Core.Path.{◌≡◌, refl, ap, sym, ◌∙◌}
use mathlib.Core.Bool.{Bool, true, false, cond}
use mathlib.Core.List.{List, [], ◌∷◌, ◌++◌, append-nil}
use native.Mathlib.Omega.{arith}
use native.Mathlib.Numerals.{add-one}
use lib.Dec.{leb, ltb}
use lib.ListN.{length, get_or}
use lib.Seq.{sets}
use borrow.Author.Tests.{leb-true, leb-false, ltb-true}
use Rattle.std.specs.Prelude.{None}
use Rattle.rules.specs.Limits.{most_legs, most_listed, most_configurations, leg_width, configuration_width}
use Rattle.rules.specs.Lists.{flat, over}
use Rattle.rules.specs.Timetable.{Row, offers, listed, leg_of, legs_from, legs_of, leg_numbers, configurations_of, configuration_numbers}
use Rattle.rules.specs.declared.sizes.Leg.{Leg}
use Rattle.rules.specs.declared.sizes.Configuration.{Configuration}
use Rattle.rules.proofs.Truth.{all_append, all_map, and_first, and_second}
use Rattle.rules.proofs.Lists.{flat_append, over-more}
use Rattle.timetable_row.specs.declared.line.Line.{Line}
use Rattle.timetable_row.specs.Slots.{entry_slot, nominal_of}
use Rattle.timetable.specs.Held.{in_head, Rowed, Tables, tables, InLine}
use Rattle.timetable_row.specs.RowOver.{stored_at, line_tests, lowest, held_leg, next_line}
use Rattle.timetable.specs.Ended.{draft_room}
use Rattle.timetable.proofs.Words.{length_snoc, stored_fits}
use Rattle.timetable.proofs.Judge.{row_from, legs-written, legs_long, faultless, leg-held, leg_is_lem, list_right, ranged, counted}

-- ---- one row more

pub listed_more : (rows : List Row) (r : Row) → listed (rows ++ r ∷ []) ≡ listed rows + length r.list
listed_more [] r = omega arith
listed_more (x ∷ rows) r = let k : listed (rows ++ r ∷ []) ≡ listed rows + length r.list = listed_more rows r in omega arith

legs-more : (first : ℕ) (rows : List Row) (r : Row) → legs_from first (rows ++ r ∷ []) ≡ legs_from first rows ++ leg_of (first + listed rows) r ∷ []
legs-more first [] r = let k : first ≡ first + 0 = omega arith in ap (λ (n : ℕ). leg_of n r ∷ []) k
legs-more first (x ∷ rows) r =
    let k : first + length x.list + listed rows ≡ first + (length x.list + listed rows) = omega arith in
    ap (λ (l : List Leg). leg_of first x ∷ l) (legs-more (first + length x.list) rows r ∙ ap (λ (n : ℕ). legs_from (first + length x.list) rows ++ leg_of n r ∷ []) k)

configurations_more : (rows : List Row) (r : Row) → configurations_of (rows ++ r ∷ []) ++ [] ≡ configurations_of rows ++ r.list
configurations_more rows r =
    append-nil (configurations_of (rows ++ r ∷ [])) ∙ flat_append (λ (x : Row). x.list) rows (r ∷ []) ∙ ap (λ (l : List Configuration). configurations_of rows ++ l) (append-nil r.list)

pub above_grows : (above id : ℕ) → (above ≤ cond (leb above id) (id + 1) above) × (id < cond (leb above id) (id + 1) above)
above_grows above id = go (leb above id) refl
  where
    go : (t : Bool) → leb above id ≡ t → (above ≤ cond t (id + 1) above) × (id < cond t (id + 1) above)
    go true e = let k : above ≤ id = leb-true above id e in (omega arith, omega arith)
    go false e = let k : id < above = leb-false above id e in (omega arith, omega arith)

-- ---- the row is accepted

module _ (H : ℕ) (lent : Tables) (line : Line) (now : Tables) (place : ℕ) (before : List Row) (closed : List ℕ) (list : List Configuration)
    (g : InLine H lent line now place before closed list []) (eight : length closed ≡ entry_slot)
    (room : ℕ) (room_is : room ≡ length lent.configurations) (none : lowest (line_tests H line now.legs room) ≡ None) where
  abbrev r : Row
  r = row_from closed list

  abbrev w : Rowed lent.legs now.legs (length lent.configurations) line.rows line.configurations line.above before
  w = g.rowed

  passes : (ranged H lent line now place before closed list g eight ≡ true) × (counted H lent line now place before closed list g eight ≡ true)
      × (offers list (nominal_of closed) ≡ true) × (draft_room lent before r ≡ true)
  passes = faultless H lent line now place before closed list g eight room room_is none

  legs_few : length before < most_legs
  legs_few = ltb-true (length before) most_legs (and_first (ltb (length before) most_legs) _ passes.1)

  listed_few : length list ≤ most_listed
  listed_few = leb-true (length list) most_listed (and_first (leb (length list) most_listed) _ (and_second (ltb (length before) most_legs) _ passes.1))

  all_few : listed before + length list ≤ most_configurations
  all_few =
      leb-true (listed before + length list) most_configurations (and_second (leb (length list) most_listed) _ (and_second (ltb (length before) most_legs) _ passes.1))

  leg_room : length before < length lent.legs / leg_width
  leg_room = ltb-true (length before) (length lent.legs / leg_width) (and_first (ltb (length before) (length lent.legs / leg_width)) _ passes.3)

  all_room : listed before + length list ≤ length lent.configurations / configuration_width
  all_room =
      leb-true (listed before + length list) (length lent.configurations / configuration_width) (and_second (ltb (length before) (length lent.legs / leg_width)) _ passes.3)

  entries_is : line.entries ≡ length list
  entries_is = g.opened.entries_are ∙ (let k : length list ≤ most_listed = listed_few in omega arith)

  legs_now : (legs : List ℕ) → legs ≡ stored_at leg_width line.rows (held_leg line) now.legs → legs ≡ over (flat leg_numbers (legs_of (before ++ r ∷ []))) lent.legs
  legs_now legs e =
      let written : List ℕ = flat leg_numbers (legs_of before) in
      let one : List ℕ = leg_numbers (leg_of (listed before) r) in
      let at : line.rows * leg_width ≡ length written = ap (λ (n : ℕ). n * leg_width) w.rows_are ∙ sym (legs-written before) in
      let inside : length written + length one ≤ length lent.legs = omega (arith, legs-written before, leg_room) in
      let more : flat leg_numbers (legs_of (before ++ r ∷ [])) ≡ written ++ one =
      ap (flat leg_numbers) (legs-more 0 before r ∙ (let z : 0 + listed before ≡ listed before = omega arith in ap (λ (n : ℕ). legs_of before ++ leg_of n r ∷ []) z))
      ∙ flat_append leg_numbers (legs_of before) (leg_of (listed before) r ∷ []) in
      e
      ∙ stored_fits leg_width line.rows (held_leg line) now.legs (omega (arith, w.rows_are, legs_long w, leg_room))
      ∙ ap (λ (l : List ℕ). sets now.legs (line.rows * leg_width) l) (leg-held H lent line now place before closed list g eight passes.0 passes.1 passes.2)
      ∙ ap (λ (k : ℕ). sets now.legs k one) at
      ∙ ap (λ (l : List ℕ). sets l (length written) one) w.legs_are_lem
      ∙ over-more written lent.legs one inside
      ∙ ap (λ (l : List ℕ). over l lent.legs) (sym more)

  pub accepted : (legs : List ℕ) (at : ℕ) → legs ≡ stored_at leg_width line.rows (held_leg line) now.legs
      → InLine H lent (next_line line at) (tables legs now.configurations) (suc at) (before ++ r ∷ []) [] [] []
  accepted legs at e =
      let leg = leg_is_lem H lent line now place before closed list g eight passes.0 in
      let grows = above_grows line.above (get_or line.numbers 0 0) in
      let top : ℕ = cond (leb line.above (get_or line.numbers 0 0)) (get_or line.numbers 0 0 + 1) line.above in
      let more : listed (before ++ r ∷ []) ≡ listed before + length list = listed_more before r in
      let one : length (before ++ r ∷ []) ≡ suc (length before) = length_snoc before r in
      record {
        horizon = g.horizon;
        going = g.going;
        placed = add-one at;
        opened =
            record {
              shaped = in_head {closed = []} (omega arith);
              slot_is = refl;
              ten = g.opened.ten;
              numbers_are = refl;
              entries_are = refl;
              wide_is = refl;
              nominal_is = λ k. refl;
            };
        rowed =
            record {
              rows_are = omega (arith, w.rows_are);
              configurations_are_lem = omega (arith, w.configurations_are_lem, entries_is);
              below =
                  all_append (λ (x : Row). x.leg < top) before (r ∷ [])
                  (all_map (λ (x : Row). x.leg < line.above) (λ (x : Row). x.leg < top) (λ x h. omega (arith, grows.0)) before w.below)
                  (omega (arith, leg.0, grows.1), tt);
              few = omega (arith, legs_few);
              many = omega (arith, all_few);
              legs_fit = omega (arith, leg_room);
              configurations_fit = omega (arith, all_room);
              legs_are_lem = legs_now legs e;
            };
        long = g.long;
        kept = λ ranged few fits.
            g.kept (list_right H lent line now place before closed list g eight passes.0) listed_few (omega (arith, all_room))
            ∙ ap (λ (l : List Configuration). over (flat configuration_numbers l) lent.configurations) (sym (configurations_more before r));
      }
