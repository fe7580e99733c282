-- The rows that are read, one step of the pass after the other. Assumes nothing.
use Prim.Native.Nat.{ℕ, ◌+◌, ◌-◌, ◌≤◌, ◌<◌}
use mathlib.Core.Path.{◌≡◌, refl, ap, ◌∙◌}
use mathlib.Core.Bool.{Bool, true, false, cond}
use mathlib.Core.List.{List, [], ◌∷◌, ◌++◌}
use native.Mathlib.Omega.{arith}
use lib.Dec.{eqb}
use lib.ListN.{length, take, drop, length-drop, drop_of_length-le}
use lib.Seq.{length-take-le}
use Rattle.rules.specs.Answers.{wrong, right, refused, good, refusal, bad_row, duties_file}
use Rattle.rules.specs.Bytes.{line_feed, split_on, onto, less_return}
use Rattle.rules.specs.Rows.{on_row, last_line, rows_from}
use Rattle.text_read.specs.Places.{up_to}
use Rattle.text_read.proofs.Laws.{pieces_next, pieces-last}
use Rattle.duties.specs.Steps.{left_at}
use Rattle.rules.specs.Duties.{Event, with_nodes, nodes_from, nodes_of, row_of}

pub split_some : (P : List (List ℕ) → Type 0) (sep : ℕ) (s : List ℕ) → ((p : List ℕ) (ps : List (List ℕ)) → P (p ∷ ps)) → P (split_on sep s)
split_some P sep [] k = k [] []
split_some P sep (b ∷ s) k = go (eqb b sep) (split_on sep s)
  where
    go : (t : Bool) (ps : List (List ℕ)) → P (cond t ([] ∷ ps) (onto b ps))
    go true ps = k [] ps
    go false [] = k (b ∷ []) []
    go false (p ∷ ps) = k (b ∷ p) ps

nodes_more : (N : List (List ℕ)) (es : List Event) (e : Event) → nodes_from N (es ++ e ∷ []) ≡ with_nodes (nodes_from N es) e
nodes_more N [] e = refl
nodes_more N (f ∷ es) e = nodes_more (with_nodes N f) es e

pub nodes_next : (es : List Event) (e : Event) → nodes_of (es ++ e ∷ []) ≡ with_nodes (nodes_of es) e
nodes_next = nodes_more []

module _ (room : ℕ) (text : List ℕ) where
  module _ (place end : ℕ) (before : List Event) (q : end ≡ place + up_to line_feed (drop place text)) where
    abbrev line : List ℕ
    line = take (end - place) (drop place text)

    on_row_lem : place ≤ length text → end < length text
        → left_at room text place before ≡ on_row duties_file (row_of room) place (row_of room before (less_return line)) (λ e. left_at room text (end + 1) (before ++ e ∷ []))
    on_row_lem h l =
        ap (rows_from duties_file (row_of room) place before) (pieces_next text line_feed place end q l)
        ∙ split_some
        (λ ps. rows_from duties_file (row_of room) place before (line ∷ ps)
        ≡ on_row duties_file (row_of room) place (row_of room before (less_return line)) (λ e. rows_from duties_file (row_of room) (end + 1) (before ++ e ∷ []) ps))
        line_feed
        (drop (end + 1) text)
        (λ p ps. ap (λ (k : ℕ). on_row duties_file (row_of room) place (row_of room before (less_return line)) (λ e. rows_from duties_file (row_of room) k (before ++ e ∷ []) (p ∷ ps))) next)
      where
        long : length line ≡ end - place
        long = length-take-le (end - place) (drop place text) (omega (arith, length-drop place text))

        next : place + length line + 1 ≡ end + 1
        next = omega (arith, long)

    -- a good row is passed
    pub row_good : place ≤ length text → end < length text → (e : Event) → row_of room before (less_return line) ≡ right e → left_at room text place before ≡ left_at room text (end + 1) (before ++ e ∷ [])
    row_good h l e r = on_row_lem h l ∙ rw r

    -- a row at fault ends the reading
    pub row_wrong : place ≤ length text → end < length text → (n : ℕ) → row_of room before (less_return line) ≡ wrong n → left_at room text place before ≡ refused (refusal n duties_file place)
    row_wrong h l n r = on_row_lem h l ∙ rw r

    -- a row that lacks its LF
    pub row_open : place < length text → length text ≤ end → left_at room text place before ≡ refused (refusal bad_row duties_file place)
    row_open h l = ap (rows_from duties_file (row_of room) place before) (pieces-last text line_feed place end q l) ∙ go (drop place text) (omega (arith, length-drop place text))
      where
        go : (s : List ℕ) → 0 < length s → last_line duties_file (row_of room) place before s ≡ refused (refusal bad_row duties_file place)
        go [] k = absurd (omega arith)
        go (b ∷ s) k = refl

  -- nothing is left
  pub rows_end : (place : ℕ) (before : List Event) → length text ≤ place → left_at room text place before ≡ good before
  rows_end place before h = ap (λ (s : List ℕ). rows_from duties_file (row_of room) place before (split_on line_feed s)) (drop_of_length-le text {i = place} h)
