-- Where a field begins, by the code's line and by the machine. Assumes nothing.
use Prim.Native.Nat.{ℕ, suc, ◌+◌, ◌≤◌}
use mathlib.Core.Path.{◌≡◌, refl, ap, sym, ◌∙◌}
use mathlib.Core.Bool.{Bool, true, false, cond, ◌||◌}
use mathlib.Core.List.{List, [], ◌∷◌, ◌++◌, append-nil}
use native.Mathlib.Omega.{arith}
use lib.Dec.{leb, eqb}
use lib.ListN.{length}
use borrow.Author.Tests.{le-leb, eq-eqb, ne_eqb}
use Rattle.rules.specs.Timetable.{Row}
use Rattle.rules.specs.declared.sizes.Configuration.{Configuration}
use Rattle.csv_machine.specs.Number as Row
use Rattle.timetable_row.specs.declared.line.Line.{Line}
use Rattle.timetable_row.specs.declared.number.Number.{Number}
use Rattle.timetable_row.specs.Slots.{nominal_slot, entry_slot}
use Rattle.timetable.specs.Open.{Open, opens_field, open_begins}
use Rattle.timetable.specs.Held.{number_held, Shaped, in_head, in_first, in_second, in_third, Tables, InLine}
use Rattle.timetable.specs.Text.{field_begins, line_begins}
use Rattle.timetable.proofs.Close.{entry_slot_lem}
use Rattle.timetable.proofs.Fields.{not-empty}

-- ---- where a field begins

pub field_head : (slot entries : ℕ) → slot ≤ nominal_slot → true ≡ field_begins slot entries
field_head slot entries h = rw (le-leb slot nominal_slot h)

-- an empty number: by the slot and the entries
empty-begins : (slot entries : ℕ) (closed : List ℕ) (list : List Configuration) (entry : List ℕ) → Shaped closed list entry → slot ≡ length (closed ++ entry)
    → (entries ≡ 0 → length list ≡ 0) → (length list ≡ 0 → entries ≡ 0) → field_begins slot entries ≡ opens_field closed list entry Row.empty
empty-begins slot entries closed list entry (in_head h) s f g =
    let q : slot ≡ length closed = s ∙ ap length (append-nil closed) in
    rw q (go (leb (length closed) nominal_slot))
  where
    go : (t : Bool) → cond t true (cond (eqb (length closed) entry_slot) (eqb entries 0) false) ≡ (t || eqb (length closed) entry_slot)
    go true = refl
    go false = rw (ne_eqb (length closed) entry_slot (λ e. omega arith))
empty-begins slot entries closed [] entry (in_first h) s f g =
    let q : slot ≡ entry_slot = s ∙ entry_slot_lem closed [] 0 h refl in
    rw (q, h, eq-eqb entries 0 (g refl))
empty-begins slot entries closed (c ∷ list) entry (in_first h) s f g =
    let q : slot ≡ entry_slot = s ∙ entry_slot_lem closed [] 0 h refl in
    rw (q, ne_eqb entries 0 (λ e. let z : suc (length list) ≡ 0 = f e in omega arith))
empty-begins slot entries closed [] (d ∷ []) (in_second h) s f g =
    let q : slot ≡ entry_slot + 1 = s ∙ entry_slot_lem closed (d ∷ []) 1 h refl in
    rw q
empty-begins slot entries closed (c ∷ list) (d ∷ []) (in_second h) s f g =
    let q : slot ≡ entry_slot + 1 = s ∙ entry_slot_lem closed (d ∷ []) 1 h refl in
    rw q
empty-begins slot entries closed [] (d ∷ t ∷ []) (in_third h) s f g =
    let q : slot ≡ entry_slot + 2 = s ∙ entry_slot_lem closed (d ∷ t ∷ []) 2 h refl in
    rw q
empty-begins slot entries closed (c ∷ list) (d ∷ t ∷ []) (in_third h) s f g =
    let q : slot ≡ entry_slot + 2 = s ∙ entry_slot_lem closed (d ∷ t ∷ []) 2 h refl in
    rw q

begins-held : (line : Line) (number : Number) (closed : List ℕ) (list : List Configuration) (entry : List ℕ) (m : Row.Number) → Shaped closed list entry
    → line.slot ≡ length (closed ++ entry) → (line.entries ≡ 0 → length list ≡ 0) → (length list ≡ 0 → line.entries ≡ 0) → number ≡ number_held m
    → line_begins line number ≡ opens_field closed list entry m
begins-held line number closed list entry Row.empty s e f g n = rw n (empty-begins line.slot line.entries closed list entry s e f g)
begins-held line number closed list entry Row.zero s e f g n =
    rw n (sym (not-empty closed list entry Row.zero (λ q. let z : ◌≡◌ {A = ℕ} 0 1 = cc in omega arith)))
begins-held line number closed list entry (Row.digits v) s e f g n =
    rw n (sym (not-empty closed list entry (Row.digits v) (λ q. let z : ◌≡◌ {A = ℕ} 0 1 = cc in omega arith)))

pub begins_is : (H : ℕ) (lent : Tables) (line : Line) (now : Tables) (place : ℕ) (before : List Row) (o : Open) (number : Number)
    → InLine H lent line now place before o.closed o.list o.entry → number ≡ number_held o.number → line_begins line number ≡ open_begins o
begins_is H lent line now place before o number g n =
    begins-held line number o.closed o.list o.entry o.number g.opened.shaped g.opened.slot_is
    (λ e. omega (arith, g.opened.entries_are)) (λ e. omega (arith, g.opened.entries_are)) n
