-- Which refusals there are. Assumes nothing.
use Prim.Native.Nat.{ℕ, ◌+◌}
use mathlib.Core.Path.{◌≡◌, refl, sym, ap, ◌∙◌}
use mathlib.Core.Bool.{Bool, true, false, cond, ◌&&◌}
use mathlib.Core.List.{List, [], ◌∷◌, ◌++◌}
use native.Mathlib.Omega.{arith}
use lib.Dec.{leb, ltb, eqb}
use lib.ListN.{length}
use lib.IntN.{ℤ}
use Rattle.rules.specs.Limits.{most_text, most_events, most_nodes, most_time}
use Rattle.rules.specs.Lists.{any}
use Rattle.rules.specs.Answers.{Judged, wrong, right, Reading, refused, good, refusal, bad_header, bad_row, out_of_range, too_many, unknown_name, no_room, duties_file, too_long}
use Rattle.rules.specs.Bytes.{line_feed, split_on, less_return}
use Rattle.rules.specs.Rows.{RowFault, heads, on_row, rows_from, headed, csv_of}
use Rattle.rules.specs.Duties.{duties_names, Event, form_of, is_known, with_nodes, nodes_of, judge_form, row_of, events_of, broken, node_room, duties_judged, duties_from, duties_checked}
use Rattle.rules.specs.declared.answers.Refusal.{Refusal}
use Rattle.rules.specs.declared.answers.Told.TheVariants.{Refused}
use Rattle.duties_theorems.specs.Refusals.{numbers, OfDuties}
use Rattle.duties_theorems.specs.Outcomes.{Outcome}
use Rattle.std.specs.Prelude.{Option, Some, None}

by : (k n : ℕ) → any (eqb k) numbers ≡ true → ◌≡◌ {A = Judged Event} (wrong k) (wrong n) → any (eqb n) numbers ≡ true
by k n h e = let q : k ≡ n = cc in ap (λ (x : ℕ). any (eqb x) numbers) (sym q) ∙ h

not_right : {e : Event} {n : ℕ} {A : Type 0} → right e ≡ wrong n → A
not_right q = let z : ◌≡◌ {A = ℕ} 0 1 = cc in absurd (omega arith)

module _ (room : ℕ) where
  -- a row's
  row_number : (before : List Event) (o : Option Event) (n : ℕ) → judge_form room before o ≡ wrong n → any (eqb n) numbers ≡ true
  row_number before None n q = by bad_row n refl q
  row_number before (Some e) n q =
      tests
      (leb e.seq most_time && (leb e.start most_time && leb e.end most_time))
      (ltb (length before) most_events && leb (length (with_nodes (nodes_of before) e)) most_nodes)
      (is_known e.type)
      (leb (length (with_nodes (nodes_of before) e)) room)
      q
    where
      tests : (a c k r : Bool) → cond a (cond c (cond k (cond r (right e) (wrong no_room)) (wrong unknown_name)) (wrong too_many)) (wrong out_of_range) ≡ wrong n → any (eqb n) numbers ≡ true
      tests false c k r q = by out_of_range n refl q
      tests true false k r q = by too_many n refl q
      tests true true false r q = by unknown_name n refl q
      tests true true true false q = by no_room n refl q
      tests true true true true q = not_right q

  abbrev Fine : Reading (List Event) → Type 0
  Fine (refused r) = OfDuties r
  Fine (good es) = Unit {0}

  rows_fine : (place : ℕ) (before : List Event) (lines : List (List ℕ)) → Fine (rows_from duties_file (row_of room) place before lines)
  rows_fine place before [] = tt
  rows_fine place before ([] ∷ []) = tt
  rows_fine place before ((b ∷ s) ∷ []) = record { file = refl; number = refl }
  rows_fine place before (line ∷ next ∷ lines) = go (row_of room before (less_return line)) refl (λ e. rows_fine (place + length line + 1) (before ++ e ∷ []) (next ∷ lines))
    where
      go : (j : Judged Event) → row_of room before (less_return line) ≡ j → ((e : Event) → Fine (rows_from duties_file (row_of room) (place + length line + 1) (before ++ e ∷ []) (next ∷ lines)))
          → Fine (on_row duties_file (row_of room) place j (λ row. rows_from duties_file (row_of room) (place + length line + 1) (before ++ row ∷ []) (next ∷ lines)))
      go (wrong n) q ih = record { file = refl; number = row_number before (form_of (less_return line)) n q }
      go (right e) q ih = ih e

  headed_fine : (lines : List (List ℕ)) → Fine (headed duties_file (row_of room) duties_names lines)
  headed_fine [] = record { file = refl; number = refl }
  headed_fine (line ∷ []) = record { file = refl; number = refl }
  headed_fine (line ∷ next ∷ lines) = go (heads duties_names line)
    where
      go : (t : Bool) → Fine (cond t (rows_from duties_file (row_of room) (length line + 1) [] (next ∷ lines)) (refused (refusal bad_header duties_file 0)))
      go true = rows_fine (length line + 1) [] (next ∷ lines)
      go false = record { file = refl; number = refl }

  events_fine : (text : List ℕ) → Fine (events_of room text)
  unfolding events_of csv_of
  events_fine text = go (leb (length text) most_text)
    where
      go : (t : Bool) → Fine (cond t (headed duties_file (row_of room) duties_names (split_on line_feed text)) (refused (refusal too_long duties_file 0)))
      go true = headed_fine (split_on line_feed text)
      go false = record { file = refl; number = refl }

checked_refused : (text t : List ℕ) (z : List ℤ) (r : Refusal) → (duties_checked text t z).answer ≡ Refused r → OfDuties r
unfolding duties_checked
checked_refused text t z r e = go (events_of (node_room text t z) text) (events_fine (node_room text t z) text) e
  where
    on : (es : List Event) (f : Option RowFault) → (duties_judged text t z es f).answer ≡ Refused r → OfDuties r
    on es None e = let w : ◌≡◌ {A = ℕ} 0 1 = cc in absurd (omega arith)
    on es (Some f) e = let w : ◌≡◌ {A = ℕ} 0 1 = cc in absurd (omega arith)

    go : (x : Reading (List Event)) → Fine (node_room text t z) x → (duties_from text t z x).answer ≡ Refused r → OfDuties r
    go (refused q) h e = let w : q ≡ r = cc in record { file = ap (λ (x : Refusal). x.file) (sym w) ∙ h.file; number = ap (λ (x : Refusal). any (eqb x.number) numbers) (sym w) ∙ h.number }
    go (good es) h e = on es (broken es) e

-- THE REFUSALS of any outcome
pub refusal_of : {text : List ℕ} (k : Outcome text) (r : Refusal) → k.result.answer ≡ Refused r → OfDuties r
refusal_of {text} k r e = checked_refused text k.lent_nodes k.lent_balance r (sym k.keeps.answer ∙ e)
