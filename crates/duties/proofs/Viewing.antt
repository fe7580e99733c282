-- The nodes that the table shows, when a name is put behind them. Assumes nothing.
use Prim.Native.Nat.{ℕ, zero, suc, ◌+◌, ◌*◌, ◌≤◌, ◌<◌}
use mathlib.Core.Path.{◌≡◌, refl, sym, ap, ap₂, ◌∙◌}
use mathlib.Core.Bool.{Bool, true, false, cond}
use mathlib.Core.List.{List, [], ◌∷◌, ◌++◌}
use native.Mathlib.Omega.{arith}
use native.Mathlib.Numerals.{add-one}
use lib.ListN.{length, get_or, set, length-set, length-append}
use lib.Seq.{get_or-set_same, get_or-set_other}
use Rattle.rules.specs.Lists.{any, same_list}
use Rattle.rules.specs.Duties.{Event, with_name, nodes_of, row_of, from_column, to_column}
use Rattle.duties_fields.specs.Fields.{part_of, content_in}
use Rattle.duties_row.specs.Rowed.{event_in, judged_by, or_fault, line_fault, count_fault}
use Rattle.duties_row.proofs.Forming.{row_judged}
use Rattle.duties_nodes.specs.Nodes.{name_at, names_from, view, with_both, Puts}
use Rattle.duties.specs.Steps.{row_fault}
use Rattle.rules.specs.Limits.{node_width}

-- ---- `row_fault`

module _ (N : List (List ℕ)) (rows room : ℕ) (line : List ℕ) (f : ℕ) (p : f ≡ line_fault line) where
  pub step_line : (f ≡ 0 → ⊥) → f ≡ row_fault N rows room line
  step_line n = go f n ∙ ap (λ (x : ℕ). or_fault x (count_fault line rows (length (with_both N (content_in from_column line) (content_in to_column line))) room)) p
    where
      go : (x : ℕ) → (x ≡ 0 → ⊥) → x ≡ or_fault x (count_fault line rows (length (with_both N (content_in from_column line) (content_in to_column line))) room)
      go zero h = absurd (h refl)
      go (suc x) h = refl

  pub step_counts : f ≡ 0 → (k : ℕ) → k ≡ length (with_both N (content_in from_column line) (content_in to_column line)) → (r : ℕ) → r ≡ count_fault line rows k room → r ≡ row_fault N rows room line
  step_counts z k q r e =
      e
      ∙ ap (λ (x : ℕ). count_fault line rows x room) q
      ∙ ap (λ (x : ℕ). or_fault x (count_fault line rows (length (with_both N (content_in from_column line) (content_in to_column line))) room)) (sym z ∙ p)

-- what the definition judges is what `row_fault` answers
pub step_judged : (room : ℕ) (before : List Event) (line : List ℕ) (r rows : ℕ) (N : List (List ℕ)) → rows ≡ length before → N ≡ nodes_of before → r ≡ row_fault N rows room line
    → row_of room before line ≡ judged_by r (event_in line)
step_judged room before line r rows N p q e =
    row_judged room before line ∙ sym (ap (λ (x : ℕ). judged_by x (event_in line)) (e ∙ ap₂ (λ (x : List (List ℕ)) (k : ℕ). row_fault x k room line) q p))

-- ---- the table's view

module _ (text : List ℕ) where
  names_more : (t : List ℕ) (i n : ℕ) → names_from text t i (suc n) ≡ names_from text t i n ++ name_at text t (i + n) ∷ []
  names_more t i zero = let z : i + 0 ≡ i = omega arith in ap (λ (k : ℕ). name_at text t k ∷ []) (sym z)
  names_more t i (suc n) =
      let z : i + 1 + n ≡ i + suc n = omega arith in
      ap (λ (x : List (List ℕ)). name_at text t i ∷ x) (names_more t (i + 1) n ∙ ap (λ (k : ℕ). names_from text t (i + 1) n ++ name_at text t k ∷ []) z)

  -- only the numbers before are looked at
  names_same : (t u : List ℕ) (m i n : ℕ) → i + n ≤ m → ((j : ℕ) → j < m * node_width → get_or u j 0 ≡ get_or t j 0) → names_from text u i n ≡ names_from text t i n
  names_same t u m i zero h same = refl
  names_same t u m i (suc n) h same =
      ap₂ ◌∷◌ (ap₂ (λ (a b : ℕ). part_of text a b) (same (i * node_width) (omega arith)) (same (i * node_width + 1) (omega arith))) (names_same t u m (i + 1) n (omega arith) same)

  -- a name that stands at its place is put
  module _ (t : List ℕ) (n : ℕ) (name : List ℕ) (at : ℕ) (there : part_of text at (length name) ≡ name) where
    abbrev u : List ℕ
    u = set (set t (n * node_width) at) (suc (n * node_width)) (length name)

    kept : (j : ℕ) → j < n * node_width → get_or u j 0 ≡ get_or t j 0
    kept j h =
        get_or-set_other (set t (n * node_width) at) (suc (n * node_width)) j (length name) 0 (λ e. absurd (omega arith))
        ∙ get_or-set_other t (n * node_width) j at 0 (λ e. absurd (omega arith))

    first : n * node_width + 2 ≤ length t → get_or u (n * node_width) 0 ≡ at
    first room =
        get_or-set_other (set t (n * node_width) at) (suc (n * node_width)) (n * node_width) (length name) 0 (λ e. absurd (omega arith))
        ∙ get_or-set_same t (n * node_width) at 0 (omega arith)

    second : n * node_width + 2 ≤ length t → get_or u (n * node_width + 1) 0 ≡ length name
    second room =
        ap (λ (k : ℕ). get_or u k 0) (add-one (n * node_width))
        ∙ get_or-set_same (set t (n * node_width) at) (suc (n * node_width)) (length name) 0 (omega (arith, length-set t (n * node_width) at))

    shown : n * node_width + 2 ≤ length t → name_at text u n ≡ name
    shown room = ap₂ (λ (a b : ℕ). part_of text a b) (first room) (second room) ∙ there

    more : n * node_width + 2 ≤ length t → view text u (suc n) ≡ view text t n ++ name ∷ []
    more room =
        let z : 0 + n ≡ n = omega arith in
        names_more u 0 n
        ∙ ap₂ (λ (x : List (List ℕ)) (y : List ℕ). x ++ y ∷ []) (names_same t u n 0 n (omega arith) kept) (ap (name_at text u) z ∙ shown room)

    -- after `put_node` the table shows the nodes with the name
    pub put_shows : (r : ℕ) (t' : List ℕ) → length (view text t n) ≡ n → r * node_width ≤ length t → Puts text t n name at r t' → view text t' r ≡ with_name (view text t n) name
    put_shows r t' long room p = go (any (same_list name) (view text t n)) refl
      where
        go : (b : Bool) → any (same_list name) (view text t n) ≡ b → view text t' r ≡ with_name (view text t n) name
        go true e =
            let a : t' ≡ t = p.table ∙ rw e in
            let c : r ≡ n = p.count ∙ rw e long in
            ap₂ (view text) a c ∙ sym (rw e)
        go false e =
            let a : t' ≡ u = p.table ∙ rw e in
            let c : r ≡ length (view text t n) + 1 = p.count ∙ rw e (length-append (view text t n) (name ∷ [])) in
            let d : r ≡ suc n = omega arith in
            ap₂ (view text) a d ∙ more (omega arith) ∙ sym (rw e)

-- ---- `put_both`

pub not_fewer : (N : List (List ℕ)) (x : List ℕ) → length N ≤ length (with_name N x)
not_fewer N x = go (any (same_list x) N)
  where
    go : (b : Bool) → length N ≤ length (cond b N (N ++ x ∷ []))
    go true = omega arith
    go false = omega (arith, length-append N (x ∷ []))
