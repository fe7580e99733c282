-- An entry is closed by its third number: what the reader holds of the row and its table keep up with the row. Assumes nothing.
use Prim.Native.Nat.{ℕ, suc, ◌+◌, ◌*◌, ◌≤◌, ◌<◌}
use mathlib.Core.Path.{◌≡◌, refl, ap, sym, ◌∙◌}
use mathlib.Core.Bool.{Bool, true, false, not, cond, ◌&&◌}
use mathlib.Core.List.{List, [], ◌∷◌, ◌++◌, map, append_assoc, append-nil, map-append}
use native.Mathlib.Omega.{arith}
use lib.Dec.{ltb}
use lib.ListN.{length, get_or, take, length-append, length-map, get_or-append}
use lib.Seq.{take_all, take_at, get_or_at, get_or-append-add}
use Rattle.rules.specs.Limits.{most_listed, configuration_width}
use Rattle.rules.specs.Lists.{every, flat, over}
use Rattle.rules.specs.Timetable.{Row, configuration, in_range, same, listed, configurations_of, configuration_numbers}
use Rattle.rules.specs.declared.sizes.Configuration.{Configuration}
use Rattle.rules.proofs.Lists.{every_more, flat_append, flat-length, over-more}
use Rattle.timetable_row.specs.declared.line.Line.{Line}
use Rattle.timetable_row.specs.Digits.{most_held, held}
use Rattle.timetable_row.specs.Slots.{nominal_slot, nominal_travel_slot, nominal_profile_slot, entry_slot, entry_travel_slot, last_slot, nominal_of, entry_of}
use Rattle.timetable.specs.Held.{Shaped, in_first, in_third, line_with, same_held, Opened, Kept, Entered}
use Rattle.timetable_row.specs.RowOver.{stored_at}
use Rattle.timetable.proofs.Words.{length_snoc, every_front, every-last, leading_snoc, configurations_length, stored_fits, held_all, range_held, exact}

-- ---- the numbers of a row whose entry lacks its third number

third_closed : {closed : List ℕ} {list : List Configuration} {d t : ℕ} → Shaped closed list (d ∷ t ∷ []) → length closed ≡ entry_slot
third_closed (in_third e) = e

module _ (numbers closed : List ℕ) (d t : ℕ) (eight : length closed ≡ entry_slot) (ten : length numbers ≡ last_slot) (slot : ℕ) (slot_is : slot ≡ length (closed ++ d ∷ t ∷ []))
    (are : take slot numbers ≡ map held (closed ++ d ∷ t ∷ [])) where
  all_held : numbers ≡ map held (closed ++ d ∷ t ∷ [])
  all_held = sym (take_all slot numbers (omega (arith, slot_is ∙ length-append closed (d ∷ t ∷ [])))) ∙ are

  pub departure-held : get_or numbers entry_slot 0 ≡ held d
  departure-held = ap (λ (l : List ℕ). get_or l entry_slot 0) all_held ∙ held_all (closed ++ d ∷ t ∷ []) entry_slot ∙ ap held (get_or_at closed d (t ∷ []) 0 entry_slot eight)

  pub travel_held : get_or numbers entry_travel_slot 0 ≡ held t
  travel_held =
      ap (λ (l : List ℕ). get_or l entry_travel_slot 0) all_held
      ∙ held_all (closed ++ d ∷ t ∷ []) entry_travel_slot
      ∙ ap held (rw eight at (get_or-append-add closed (d ∷ t ∷ []) 1 0))

  pub before-held : (k : ℕ) → k < entry_slot → get_or numbers k 0 ≡ held (get_or closed k 0)
  before-held k h =
      ap (λ (l : List ℕ). get_or l k 0) all_held
      ∙ held_all (closed ++ d ∷ t ∷ []) k
      ∙ ap held (get_or-append closed (d ∷ t ∷ []) 0 k (omega arith))

  pub eight_held : take entry_slot numbers ≡ map held (closed ++ [])
  eight_held =
      ap (take entry_slot) (all_held ∙ map-append held closed (d ∷ t ∷ []))
      ∙ take_at (map held closed) (map held (d ∷ t ∷ [])) entry_slot (length-map closed held ∙ eight)
      ∙ ap (map held) (sym (append-nil closed))

wide_more : (x y wide : Bool) → wide ≡ not x → cond y wide true ≡ not (x && y)
wide_more true true wide e = e
wide_more true false wide e = refl
wide_more false true wide e = e
wide_more false false wide e = refl

-- ---- what is held of the open row

module _ (H : ℕ) (line : Line) (p : ℕ) (horizon : H ≤ most_held) (closed : List ℕ) (list : List Configuration) (d t v : ℕ)
    (o : Opened H line.slot line.numbers line.entries line.nominal line.wide closed list (d ∷ t ∷ [])) (pv : p ≡ held v) where
  abbrev numbers : List ℕ
  numbers = line.numbers

  abbrev c : Configuration
  c = configuration d t v

  eight : length closed ≡ entry_slot
  eight = third_closed o.shaped

  at_entry : get_or numbers entry_slot 0 ≡ held d
  at_entry = departure-held numbers closed d t eight o.ten line.slot o.slot_is o.numbers_are

  at_travel : get_or numbers entry_travel_slot 0 ≡ held t
  at_travel = travel_held numbers closed d t eight o.ten line.slot o.slot_is o.numbers_are

  at_before : (k : ℕ) → k < entry_slot → get_or numbers k 0 ≡ held (get_or closed k 0)
  at_before = before-held numbers closed d t eight o.ten line.slot o.slot_is o.numbers_are

  wide_is' : cond (in_range H (entry_of numbers p)) line.wide true ≡ not (every (in_range H) (list ++ c ∷ []))
  wide_is' =
      rw (at_entry, at_travel, pv, every_more (in_range H) list c)
      (ap (λ (y : Bool). cond y line.wide true) (range_held H c horizon) ∙ wide_more (every (in_range H) list) (in_range H c) line.wide o.wide_is)

  hit_is : same (nominal_of numbers) (entry_of numbers p) ≡ same_held (nominal_of closed) c
  hit_is = rw (at_before nominal_slot (omega arith), at_before nominal_travel_slot (omega arith), at_before nominal_profile_slot (omega arith), at_entry, at_travel, pv)

  few : length list ≤ most_listed → line.entries ≡ length list
  few h = o.entries_are ∙ omega arith

  opened-over : (wide : Bool) → most_listed < line.entries → wide ≡ not (every (in_range H) (list ++ c ∷ []))
      → Opened H entry_slot numbers line.entries line.nominal wide closed (list ++ c ∷ []) []
  opened-over wide h w =
      let many : most_listed < length list = omega (arith, o.entries_are) in
      record {
        shaped = in_first eight;
        slot_is = sym eight ∙ ap length (sym (append-nil closed));
        ten = o.ten;
        numbers_are = eight_held numbers closed d t eight o.ten line.slot o.slot_is o.numbers_are;
        entries_are = rw (length_snoc list c) (omega (arith, o.entries_are));
        wide_is = w;
        nominal_is = λ k. absurd (omega (arith, length_snoc list c));
      }

  opened_in : (wide : Bool) (nominal : ℕ) → line.entries ≤ most_listed → wide ≡ not (every (in_range H) (list ++ c ∷ []))
      → nominal ≡ cond (ltb line.nominal line.entries) line.nominal (cond (same_held (nominal_of closed) c) line.nominal (line.entries + 1))
      → Opened H entry_slot numbers (line.entries + 1) nominal wide closed (list ++ c ∷ []) []
  opened_in wide nominal h w n =
      let less : length list ≤ most_listed = omega (arith, o.entries_are) in
      record {
        shaped = in_first eight;
        slot_is = sym eight ∙ ap length (sym (append-nil closed));
        ten = o.ten;
        numbers_are = eight_held numbers closed d t eight o.ten line.slot o.slot_is o.numbers_are;
        entries_are = rw (length_snoc list c) (omega (arith, few less));
        wide_is = w;
        nominal_is = λ k. n ∙ rw (few less, o.nominal_is less) (leading_snoc (same_held (nominal_of closed)) list c);
      }

-- ---- and of the table

module _ (H : ℕ) (lent table : List ℕ) (before : List Row) (list : List Configuration) (d t v : ℕ) (horizon : H ≤ most_held)
    (long : length table ≡ length lent) (kept : Kept H lent table before list) where
  abbrev written : List Configuration → List ℕ
  written l = flat configuration_numbers (configurations_of before ++ l)

  written-length : (l : List Configuration) → length (written l) ≡ (listed before + length l) * configuration_width
  written-length l =
      flat-length configuration_numbers configuration_width (λ x. refl) (configurations_of before ++ l)
      ∙ ap (λ (n : ℕ). n * configuration_width) (length-append (configurations_of before) l ∙ ap (λ (n : ℕ). n + length l) (configurations_length before))

  written-more : written (list ++ configuration d t v ∷ []) ≡ written list ++ d ∷ t ∷ v ∷ []
  written-more =
      ap (flat configuration_numbers) (sym (append_assoc (configurations_of before) list (configuration d t v ∷ [])))
      ∙ flat_append configuration_numbers (configurations_of before ++ list) (configuration d t v ∷ [])

  kept_in_lem : (k : ℕ) → k ≡ listed before + length list
      → Kept H lent (stored_at configuration_width k (held d ∷ held t ∷ held v ∷ []) table) before (list ++ configuration d t v ∷ [])
  kept_in_lem k e ranged few room =
      let c : Configuration = configuration d t v in
      let one : length (list ++ c ∷ []) ≡ suc (length list) = length_snoc list c in
      let same : table ≡ over (written list) lent = kept (every_front (in_range H) list c ranged) (omega arith) (omega arith) in
      let right = exact H c horizon (every-last (in_range H) list c ranged) in
      let at : k * configuration_width ≡ length (written list) = ap (λ (n : ℕ). n * configuration_width) e ∙ sym (written-length list) in
      let inside : length (written list) + 3 ≤ length lent = omega (arith, written-length list) in
      stored_fits configuration_width k (held d ∷ held t ∷ held v ∷ []) table (omega arith)
      ∙ rw (right.0, right.1, right.2, at, same, written-more) (over-more (written list) lent (d ∷ t ∷ v ∷ []) inside)

-- ---- both ways through the code

-- entries past the limit are only tested for range
pub entry_over : (H : ℕ) (line : Line) (p : ℕ) (table : List ℕ) (wide : Bool) → most_listed < line.entries
    → wide ≡ cond (in_range H (entry_of line.numbers p)) line.wide true
    → Entered H line p (line_with line entry_slot line.numbers line.entries line.nominal wide) table table
entry_over H line p table wide h w =
    record {
      entered = λ lent legs place before closed list d t v g pv.
          let o : Opened H line.slot line.numbers line.entries line.nominal line.wide closed list (d ∷ t ∷ []) = g.opened in
          record {
            horizon = g.horizon;
            going = g.going;
            placed = g.placed;
            opened = opened-over H line p g.horizon closed list d t v o pv wide h (w ∙ wide_is' H line p g.horizon closed list d t v o pv);
            rowed = g.rowed;
            long = g.long;
            kept = λ ranged few room. absurd (omega (arith, o.entries_are, length_snoc list (configuration d t v)));
          };
      next_entry = refl;
      no_fault = refl;
    }

pub entry_in : (H : ℕ) (line : Line) (p : ℕ) (table table' : List ℕ) (wide hit : Bool) (nominal : ℕ) → line.entries ≤ most_listed
    → wide ≡ cond (in_range H (entry_of line.numbers p)) line.wide true
    → hit ≡ same (nominal_of line.numbers) (entry_of line.numbers p)
    → nominal ≡ cond (ltb line.nominal line.entries) line.nominal (cond hit line.nominal (line.entries + 1))
    → table' ≡ stored_at configuration_width (line.configurations + line.entries) (configuration_numbers (entry_of line.numbers p)) table
    → length table' ≡ length table
    → Entered H line p (line_with line entry_slot line.numbers (line.entries + 1) nominal wide) table table'
entry_in H line p table table' wide hit nominal h w i n s l =
    record {
      entered = λ lent legs place before closed list d t v g pv.
          let o : Opened H line.slot line.numbers line.entries line.nominal line.wide closed list (d ∷ t ∷ []) = g.opened in
          let less : length list ≤ most_listed = omega (arith, o.entries_are) in
          let k : line.configurations + line.entries ≡ listed before + length list = omega (arith, g.rowed.configurations_are_lem, o.entries_are) in
          let q : table' ≡ stored_at configuration_width (line.configurations + line.entries) (held d ∷ held t ∷ held v ∷ []) table =
          s ∙ rw (at_entry H line p g.horizon closed list d t v o pv, at_travel H line p g.horizon closed list d t v o pv, pv) in
          record {
            horizon = g.horizon;
            going = g.going;
            placed = g.placed;
            opened = opened_in H line p g.horizon closed list d t v o pv wide nominal h (w ∙ wide_is' H line p g.horizon closed list d t v o pv)
                (n ∙ ap (λ (y : Bool). cond (ltb line.nominal line.entries) line.nominal (cond y line.nominal (line.entries + 1))) (i ∙ hit_is H line p g.horizon closed list d t v o pv));
            rowed = g.rowed;
            long = l ∙ g.long;
            kept = rw q (kept_in_lem H lent.configurations table before list d t v g.horizon g.long g.kept (line.configurations + line.entries) k);
          };
      next_entry = refl;
      no_fault = refl;
    }
