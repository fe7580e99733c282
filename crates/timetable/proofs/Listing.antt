-- Whole entries at once lead where their bytes lead: three numbers, each closed by its byte. Assumes nothing.
use Prim.Native.Nat.{ℕ, ◌+◌, ◌-◌, ◌≤◌, ◌<◌}
use mathlib.Core.Path.{◌≡◌, refl, ap, sym, ◌∙◌}
use mathlib.Core.Bool.{true, false}
use mathlib.Core.List.{List}
use native.Mathlib.Omega.{arith}
use lib.ListN.{length, get_or, set}
use Rattle.std.specs.Prelude.{Option, Some, None}
use Rattle.rules.specs.Bytes.{line_feed, space, underscore}
use Rattle.timetable_row.specs.declared.line.Line.{Line}
use Rattle.timetable_row.specs.declared.number.Number.TheVariants.{Empty}
use Rattle.csv_marks.specs.declared.Mark.{Mark}
use Rattle.csv_marks.specs.Turns.{takes, plain_under}
use Rattle.csv_marks.proofs.Follow.{plain_other}
use Rattle.timetable_entry.specs.declared.Spotted.{Spotted}
use Rattle.timetable_entry.specs.Spots.{NumberAt, EntryAt, Spots, spots}
use Rattle.timetable_row.specs.Slots.{entry_slot, separator_of}
use Rattle.timetable.specs.Held.{line_with, open_entry, tables, Entered, Closed}
use Rattle.timetable.specs.Text.{Signed, Leads}
use Rattle.timetable.specs.Entries.{Begun, Lists}
use Rattle.timetable.proofs.Close.{close_slot, close_entry_lem}
use Rattle.timetable.proofs.Ended.{sign_close}
use Rattle.timetable.proofs.Turn.{taken_forward, led_none, led_signed}

-- ---- an entry that was spotted

entry_of : {part : List ℕ} {from : ℕ} {r : Option Spotted} (x : Spotted) → Spots part from r → r ≡ Some x → EntryAt part from x.departure x.travel x.profile x.next
entry_of {part} {from} {r} x c e = go (rw e at c)
  where
    go : Spots part from (Some x) → EntryAt part from x.departure x.travel x.profile x.next
    go (spots n) = n

number_forward : {part : List ℕ} {from closes v next : ℕ} → NumberAt part from closes v next → (from < next) × (next ≤ length part)
number_forward {part} {from} n =
    (omega (arith, taken_forward Empty part from n.number n.number_is, n.behind), omega (arith, n.inside, n.behind))

entry_forward : {part : List ℕ} {from d t p next : ℕ} → EntryAt part from d t p next → (from < next) × (next ≤ length part)
entry_forward e =
    (omega (arith, (number_forward e.departure).0, (number_forward e.travel).0, (number_forward e.profile).0), (number_forward e.profile).1)

-- ---- a number of an entry, and its byte

module _ {H read : ℕ} {part : List ℕ} {from : ℕ} {line₀ : Line} {legs₀ table₀ legs table : List ℕ} {i : ℕ} {line : Line}
    {mark : Mark} (led : Leads H read part from mark Empty line₀ (tables legs₀ table₀) i mark Empty line (tables legs table)) (clear : line.fault ≡ None) (open_mark : takes mark ≡ true) where
  led_closed : {closes v next : ℕ} (line' : Line) (table' : List ℕ) → NumberAt part i closes v next → plain_under mark closes ≡ true → (closes ≡ line_feed → ⊥) → Closed H line v closes line' table table'
      → Leads H read part from mark Empty line₀ (tables legs₀ table₀) next mark Empty line' (tables legs table')
  led_closed {closes} {v} {next} line' table' n plain other closed =
      let at : ℕ = read + n.number.next in
      let b : ℕ = get_or part n.number.next 0 in
      let closed' : Closed H line v b line' table table' = rw n.byte closed in
      let signed : Signed H line n.number.number b at line' (tables legs table) (tables legs table') =
      sign_close H line line' n.number.number b at legs table table' false v (sym n.digits) refl n.value (λ q. other (sym n.byte ∙ q)) closed' in
      rw n.behind
      (led_signed H read part from mark Empty line₀ (tables legs₀ table₀) i mark Empty line (tables legs table) led n.number at line' (tables legs table') open_mark clear
      (omega (arith, taken_forward Empty part i n.number n.number_is, n.inside)) n.number_is n.inside refl (ap (plain_under mark) n.byte ∙ plain) signed)

-- ---- the entry

module _ {H read : ℕ} {part : List ℕ} {from : ℕ} {line₀ : Line} {legs₀ table₀ legs table : List ℕ} {i : ℕ} {line : Line}
    {mark : Mark} (led : Leads H read part from mark Empty line₀ (tables legs₀ table₀) i mark Empty line (tables legs table)) (clear : line.fault ≡ None) (open_mark : takes mark ≡ true)
    (slot : line.slot ≡ entry_slot) where
  led_entry : {d t p next : ℕ} (line' : Line) (table' : List ℕ) → EntryAt part i d t p next
      → Entered H (open_entry line d t) p line' table table'
      → Leads H read part from mark Empty line₀ (tables legs₀ table₀) next mark Empty line' (tables legs table')
  led_entry {d} {t} {p} {next} line' table' e entered =
      let line₁ : Line = line_with line (line.slot + 1) (set line.numbers line.slot d) line.entries line.nominal line.wide in
      let line₂ : Line = line_with line₁ (line₁.slot + 1) (set line₁.numbers line₁.slot t) line.entries line.nominal line.wide in
      let same : line₂ ≡ open_entry line d t =
      ap (λ (s : ℕ). line_with line (s + 1 + 1) (set (set line.numbers s d) (s + 1) t) line.entries line.nominal line.wide) slot in
      let first : Closed H line d underscore line₁ table table = close_slot H line d underscore table underscore (ap separator_of (sym slot)) refl (omega arith) in
      let second : Closed H line₁ t underscore line₂ table table =
      close_slot H line₁ t underscore table underscore (ap (λ (s : ℕ). separator_of (s + 1)) (sym slot)) refl (omega arith) in
      let third : Closed H line₂ p space line' table table' =
      close_entry_lem H line₂ p space table space (ap (λ (s : ℕ). separator_of (s + 1 + 1)) (sym slot)) refl line' table' (omega arith) (rw same entered) in
      let join : plain_under mark underscore ≡ true = plain_other mark underscore open_mark refl refl refl refl in
      let led₁ = led_closed led clear open_mark line₁ table e.departure join (λ q. omega arith) first in
      let led₂ = led_closed led₁ clear open_mark line₂ table e.travel join (λ q. omega arith) second in
      led_closed led₂ clear open_mark line' table' e.profile (plain_other mark space open_mark refl refl refl refl) (λ q. omega arith) third

-- ---- entries

pub record Listing (H : ℕ) (part : List ℕ) (from : ℕ) (table₀ : List ℕ) (line₀ : Line) (table : List ℕ) (line : Line) (i : ℕ) : Type 0 where
  pub forward : from ≤ i
  pub inside : i ≤ length part
  pub clear : line.fault ≡ None
  pub at_entry : line.slot ≡ entry_slot
  pub long : length table ≡ length table₀
  pub listed : (read : ℕ) (mark : Mark) (legs : List ℕ) → takes mark ≡ true
      → Leads H read part from mark Empty line₀ (tables legs table₀) i mark Empty line (tables legs table)

pub listing : (H : ℕ) (part : List ℕ) (from : ℕ) (table : List ℕ) (line : Line) → Begun part from line → line.slot ≡ entry_slot → Listing H part from table line table line from
listing H part from table line b s =
    record {
      forward = omega arith;
      inside = b.within;
      clear = b.clear;
      at_entry = s;
      long = refl;
      listed = λ read mark legs open_mark. led_none H read part from mark Empty line (tables legs table);
    }

module _ {H : ℕ} {part : List ℕ} {from : ℕ} {table₀ : List ℕ} {line₀ : Line} {table : List ℕ} {line : Line} {i : ℕ} (g : Listing H part from table₀ line₀ table line i) where
  pub listing_next : {r : Option Spotted} (s : Spotted) (line' : Line) (table' : List ℕ) → Spots part i r → r ≡ Some s
      → Entered H (open_entry line s.departure s.travel) s.profile line' table table'
      → length table' ≡ length table → Listing H part from table₀ line₀ table' line' s.next
  listing_next s line' table' found e entered l =
      let x = entry_of s found e in
      record {
        forward = omega (arith, g.forward, (entry_forward x).0);
        inside = (entry_forward x).1;
        clear = entered.no_fault ∙ g.clear;
        at_entry = entered.next_entry;
        long = l ∙ g.long;
        listed = λ read mark legs open_mark. led_entry (g.listed read mark legs open_mark) g.clear open_mark g.at_entry line' table' x entered;
      }

  pub listing_less : {r : Option Spotted} (s : Spotted) → Spots part i r → r ≡ Some s → length part - s.next < length part - i
  listing_less s found e = let x = entry_of s found e in omega (arith, (entry_forward x).0, (entry_forward x).1)

  pub listing_over : Lists H line₀ part from (record { line = line; next = i }) table₀ table
  listing_over = record { forward = g.forward; inside = g.inside; clear = g.clear; listed = g.listed }

pub lists_none : (H : ℕ) (part : List ℕ) (from : ℕ) (table : List ℕ) (line : Line) → Begun part from line → Lists H line part from (record { line = line; next = from }) table table
lists_none H part from table line b =
    record {
      forward = omega arith;
      inside = b.within;
      clear = b.clear;
      listed = λ read mark legs open_mark. led_none H read part from mark Empty line (tables legs table);
    }

pub begun : (part : List ℕ) (from : ℕ) (line : Line) → from ≤ length part → line.fault ≡ None → Begun part from line
begun part from line h c = record { within = h; clear = c }

pub ruleset entering = (listing, listing_next, listing_less, listing_over, lists_none, begun)
