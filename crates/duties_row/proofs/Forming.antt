-- The form of a row by its line: what the definition reads is what the code asks for. Assumes nothing.
use Prim.Native.Nat.{ℕ, zero, suc, ◌+◌}
use mathlib.Core.Path.{◌≡◌, refl, sym, ap, ◌∙◌}
use mathlib.Core.Bool.{Bool, true, false, cond, ◌&&◌}
use mathlib.Core.List.{List, [], ◌∷◌, map}
use native.Mathlib.Omega.{arith}
use lib.Dec.{leb, ltb, eqb}
use lib.ListN.{length, get_or}
use Rattle.rules.specs.Lists.{◌>>=◌, each, every}
use Rattle.std.specs.Prelude.{is_some, Option, Some, None}
use Rattle.rules.specs.Answers.{wrong, right, bad_row, out_of_range, too_many, unknown_name, no_room}
use Rattle.rules.specs.Bytes.{comma, split_on, content_of, whole_of}
use Rattle.rules.specs.Limits.{most_events, most_nodes}
use Rattle.rules.specs.Duties.{columns, Event, is_known, with_nodes, nodes_of, ten_of, form_of, judge_form, row_of, place_in, duty_column, start_text_column, end_text_column, from_column, to_column, type_column, seq_column, start_column, end_column}
use Rattle.duties_fields.specs.Fields.{or_empty, content_in, sound}
use Rattle.duties_row.specs.Rowed.{or_zero, is_named, has_wholes, is_row, event_in, in_range, line_fault, count_fault, or_fault, judged_by}

abbrev inside : List ℕ → List ℕ
inside f = or_empty (content_of f)

-- ---- contents

each-sound : (ps : List (List ℕ)) → each content_of ps ≡ cond (every sound ps) (Some (map inside ps)) None
each-sound [] = refl
each-sound (p ∷ ps) = go (content_of p) (each content_of ps) (every sound ps) (each-sound ps)
  where
    go : (o : Option (List ℕ)) (r : Option (List (List ℕ))) (t : Bool) → r ≡ cond t (Some (map inside ps)) None
        → (o >>= (λ y. r >>= (λ ys. Some (y ∷ ys)))) ≡ cond (is_some o && t) (Some (or_empty o ∷ map inside ps)) None
    go None r t e = refl
    go (Some y) r true e = rw e
    go (Some y) r false e = rw e

map_at : (ps : List (List ℕ)) (k : ℕ) → get_or (map inside ps) k [] ≡ inside (get_or ps k [])
map_at [] zero = refl
map_at [] (suc k) = refl
map_at (p ∷ ps) zero = refl
map_at (p ∷ ps) (suc k) = map_at ps k

map_long : (ps : List (List ℕ)) → length (map inside ps) ≡ length ps
map_long [] = refl
map_long (p ∷ ps) = ap suc (map_long ps)

-- ---- the form

module _ (line : List ℕ) where
  abbrev made : Option ℕ → Option ℕ → Option ℕ → Option Event
  made a b c =
      a >>= (λ seq. b >>= (λ start. c >>= (λ end.
      Some
      (record {
        duty = content_in duty_column line;
        seq = seq;
        start = start;
        start_text = content_in start_text_column line;
        end = end;
        end_text = content_in end_text_column line;
        from = content_in from_column line;
        to = content_in to_column line;
        type = content_in type_column line;
        from_at = place_in from_column line;
        to_at = place_in to_column line;
      }))))

  ten : ten_of line (map inside (split_on comma line))
      ≡ cond (eqb (length (split_on comma line)) columns && is_named line) (made (whole_of (content_in seq_column line)) (whole_of (content_in start_column line)) (whole_of (content_in end_column line))) None
  ten = simp (map_at, map_long)

  pub form_of_lem : form_of line ≡ cond (is_row line) (Some (event_in line)) None
  form_of_lem =
      ap (λ (o : Option (List (List ℕ))). o >>= ten_of line) (each-sound (split_on comma line))
      ∙ go (every sound (split_on comma line))
    where
      zero_add : (n : ℕ) → 0 + n ≡ n
      zero_add n = omega arith

      fin : (l n : Bool) (a b c : Option ℕ)
          → cond (l && n) (made a b c) None
          ≡ cond (l && (n && (is_some a && (is_some b && is_some c)))) (Some (record {
            duty = content_in duty_column line;
            seq = or_zero a;
            start = or_zero b;
            start_text = content_in start_text_column line;
            end = or_zero c;
            end_text = content_in end_text_column line;
            from = content_in from_column line;
            to = content_in to_column line;
            type = content_in type_column line;
            from_at = place_in from_column line;
            to_at = place_in to_column line;
          })) None
      fin false n a b c = refl
      fin true false a b c = refl
      fin true true None b c = refl
      fin true true (Some x) None c = refl
      fin true true (Some x) (Some y) None = refl
      fin true true (Some x) (Some y) (Some z) = refl

      go : (t : Bool) → (cond t (Some (map inside (split_on comma line))) None >>= ten_of line)
          ≡ cond ((t && eqb (0 + length (split_on comma line)) columns) && (is_named line && has_wholes line)) (Some (event_in line)) None
      go false = refl
      go true =
          ten
          ∙ fin (eqb (length (split_on comma line)) columns) (is_named line) (whole_of (content_in seq_column line)) (whole_of (content_in start_column line)) (whole_of (content_in end_column line))
          ∙ ap (λ (n : ℕ). cond (eqb n columns && (is_named line && has_wholes line)) (Some (event_in line)) None) (sym (zero_add (length (split_on comma line))))

-- ---- the judgement: the lowest fault of the line, then of the counts

module _ (room : ℕ) (before : List Event) (line : List ℕ) where
  abbrev after : ℕ
  after = length (with_nodes (nodes_of before) (event_in line))

  pub row_judged : row_of room before line ≡ judged_by (or_fault (line_fault line) (count_fault line (length before) after room)) (event_in line)
  row_judged = ap (judge_form room before) (form_of_lem line) ∙ go (is_row line) (in_range line) (ltb (length before) most_events && leb after most_nodes) (is_known (content_in type_column line)) (leb after room)
    where
      go : (f r c k n : Bool) → judge_form room before (cond f (Some (event_in line)) None) ≡ judged_by (or_fault (cond f (cond (in_range line) 0 out_of_range) bad_row) (count_fault line (length before) after room)) (event_in line)
      go false r c k n = refl
      go true r c k n = on (in_range line) (ltb (length before) most_events && leb after most_nodes) (is_known (content_in type_column line)) (leb after room)
        where
          on : (r c k n : Bool) → cond r (cond c (cond k (cond n (right (event_in line)) (wrong no_room)) (wrong unknown_name)) (wrong too_many)) (wrong out_of_range) ≡ judged_by (or_fault (cond r 0 out_of_range) (cond c (cond k (cond n 0 no_room) unknown_name) too_many)) (event_in line)
          on false c k n = refl
          on true false k n = refl
          on true true false n = refl
          on true true true false = refl
          on true true true true = refl
