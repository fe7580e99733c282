-- The header goes on to a place of the part, right or not.
use Rattle.std.specs.Prelude.{ℕ, ◌+◌, ◌-◌, ◌≤◌, ◌<◌, ◌≡◌, Bool, true, cond, Option, Some, None, Result, Ok, Err, List, [], ◌∷◌, ltb, eqb, length, get_or, drop}
use Rattle.rules.specs.Answers.{bad_header}
use Rattle.rules.specs.Bytes.{comma, joined}
use Rattle.rules.specs.Rows.{header_of, heads}
use Rattle.csv_machine.specs.Fold.{fold}
use Rattle.csv_machine.specs.Names.{Named, named}
use Rattle.csv_machine.specs.Machine.{in_header, in_row, Faulty}
use Rattle.csv_machine.specs.Contents.{Contents, Reached}
use Rattle.csv_marks.specs.declared.Mark.{Mark}
use Rattle.csv_marks.specs.declared.Act.{Act}
use Rattle.csv_marks.specs.declared.Act.TheVariants.{To, Content, Broken}
use Rattle.csv_marks.specs.Turns.{marked, turned}
use Rattle.csv_header.specs.declared.Headed.{Headed}
use Rattle.csv_header.specs.declared.Stepped.{Stepped}

abbrev pub headed : (next head : ℕ) → Mark → Headed
headed next head mark = record { next = next; head = head; mark = mark }

-- a name begins there
abbrev pub begins_in : List ℕ → ℕ → Bool
begins_in names k = cond (eqb k 0) true (eqb (get_or names (k - 1) 0) comma)

-- after a byte: one of the contents must be the header's
abbrev pub stepped_by : (k : ℕ) (same : Bool) → Act → Option Stepped
stepped_by k same (To m) = Some (record { head = k; mark = m })
stepped_by k same (Content m) = cond same (Some (record { head = k + 1; mark = m })) None
stepped_by k same Broken = None

abbrev pub stepped_in : List ℕ → Mark → (k b : ℕ) → Option Stepped
stepped_in names mark k b = stepped_by k (eqb b (get_or names k 0)) (turned mark b (begins_in names k))

abbrev pub after_step : {A : Type 0} → Option Stepped → (Stepped → A) → A → A
after_step None goes stops = stops
after_step (Some x) goes stops = goes x

-- k bytes of the header went before; the part is at place i
abbrev pub compared_from : (names : List ℕ) → Mark → (k i : ℕ) → List ℕ → Result Headed Headed
compared_from names mark k i [] = Ok (headed i k mark)
compared_from names mark k i (b ∷ s) =
    cond (ltb k (length names))
    (after_step (stepped_in names mark k b) (λ x. compared_from names x.mark x.head (i + 1) s) (Err (headed i k mark)))
    (Ok (headed i k mark))

-- where the header ends in a text's lines, LF or CR LF too; 0 where the first line is not the header or lacks its LF
abbrev pub end_in : (names : List (List ℕ)) → List (List ℕ) → ℕ
end_in names [] = 0
end_in names (line ∷ []) = 0
end_in names (line ∷ next ∷ lines) = cond (heads names line) (length line + 1) 0

-- ---- beside the machines of names and of a text

-- the names' machine after k of the header's bytes
abbrev pub name_at : (names : List (List ℕ)) → ℕ → Named
name_at names k = named (begins_in (header_of names) k) (drop k (joined comma names))

-- what a part that follows k bytes of the header does to a text, of which n bytes went before: it differs, it is the header's whole, or the header ends in it
pub record Headings {A O : Type 0} (c : Contents A O) (step : Reached A O → ℕ → Reached A O) (part : List ℕ) (mark : Mark) (k n : ℕ) (r : Result Headed Headed) : Type 0 where
  pub differs : (h : Headed) → r ≡ Err h → Faulty bad_header 0 (fold step (in_header n (marked mark (name_at c.names k))) part)
  pub goes_on : (h : Headed) → r ≡ Ok h → h.head < length (header_of c.names)
      → fold step (in_header n (marked mark (name_at c.names k))) part ≡ in_header (n + length part) (marked h.mark (name_at c.names h.head))
  pub is_over : (h : Headed) → r ≡ Ok h → length (header_of c.names) ≤ h.head
      → fold step (in_row (n + h.next) (n + h.next) [] (marked h.mark c.start)) (drop h.next part) ≡ fold step (in_header n (marked mark (name_at c.names k))) part
