-- Constraints of which none is of a lower kind than the one before it stand by kind and then by file as they are. Assumes nothing.
use Prim.Native.Nat.{ℕ, zero, suc, ◌+◌, ◌≤◌, ◌<◌}
use mathlib.Core.Path.{◌≡◌, refl, ap, ◌∙◌}
use mathlib.Core.List.{List, [], ◌∷◌, map}
use native.Mathlib.Omega.{arith}
use lib.ListN.{length, get_or, drop}
use borrow.Author.Tests.{ne_eqb}
use Rattle.rules.specs.Limits.{constraint_width}
use Rattle.rules.specs.Lists.{flat, over}
use Rattle.rules.specs.Kinds.{headway, single_track, dwell, turnaround, connection}
use Rattle.rules.specs.Constraints.{of_kind, ordered, constraint_numbers}
use Rattle.rules.specs.declared.sizes.Constraint.{Constraint}
use Rattle.rules.specs.Verdict.{All}
use Rattle.rules.proofs.Truth.{all_map}
use Rattle.rules_theorems.proofs.Ordered.{OfKind}
use Rattle.tables_ids.specs.Column.{column}
use Rattle.tables_ids.proofs.Column.{column-length, column-at}
use Rattle.tables_ids.proofs.Written.{column-written}
use Rattle.constraints_tables.specs.Places.{Upward}
use Rattle.constraints_tables.proofs.Places.{constraint_long}

-- ---- the kinds of constraints that stand in a table

abbrev kinds_of : List Constraint → List ℕ
kinds_of = map (λ c. c.kind)

abbrev Up : List ℕ → Type 0
Up ks = (i : ℕ) → i + 1 < length ks → get_or ks i 0 ≤ get_or ks (i + 1) 0

kinds_held : (cs : List Constraint) (t : List ℕ) → column constraint_width (length cs) (over (flat constraint_numbers cs) t) ≡ kinds_of cs
unfolding over
kinds_held cs t = column-written constraint_numbers constraint_width (omega arith) constraint_long cs (drop (length (flat constraint_numbers cs)) t)

kinds_up : (cs : List Constraint) (t table : List ℕ) → table ≡ over (flat constraint_numbers cs) t → Upward (length cs) table → Up (kinds_of cs)
kinds_up cs t table is up = rw (ap (column constraint_width (length cs)) is ∙ kinds_held cs t) at read
  where
    read : Up (column constraint_width (length cs) table)
    read i h =
        let low : i + 1 < length cs = rw (column-length constraint_width (length cs) table) at h in
        let first = column-at constraint_width (length cs) table i (omega arith) in
        let second = column-at constraint_width (length cs) table (i + 1) low in
        omega (arith, up i low, first, second)

up_rest : (c : Constraint) (cs : List Constraint) → Up (kinds_of (c ∷ cs)) → Up (kinds_of cs)
up_rest c cs up i h =
    let next : suc i + 1 ≡ suc (i + 1) = omega arith in
    rw next at (up (suc i) (omega arith))

-- ---- none is of a lower kind than one before it

not_lower : (c : Constraint) (cs : List Constraint) → Up (kinds_of (c ∷ cs)) → All (λ x. c.kind ≤ x.kind) cs
not_lower c [] up = tt
not_lower c (d ∷ cs) up =
    let first : c.kind ≤ d.kind = up 0 (omega arith) in
    (first, all_map (λ x. d.kind ≤ x.kind) (λ x. c.kind ≤ x.kind) (λ x h. omega arith) cs (not_lower d cs (up_rest c (d ∷ cs) up)))

none_of : (k : ℕ) (cs : List Constraint) → All (λ x. k < x.kind) cs → of_kind k cs ≡ []
none_of k [] h = refl
none_of k (x ∷ cs) h = rw (ne_eqb x.kind k (λ q. omega (arith, h.0))) (none_of k cs h.1)

-- so the first stays the first
first_stays : (c : Constraint) (cs : List Constraint) → OfKind c → All (λ x. c.kind ≤ x.kind) cs → ordered (c ∷ cs) ≡ c ∷ ordered cs
unfolding ordered
first_stays c cs known h = go c.kind refl known.from_first_kind known.to_last_kind
  where
    below : (k : ℕ) → k < c.kind → of_kind k cs ≡ []
    below k l = none_of k cs (all_map (λ x. c.kind ≤ x.kind) (λ x. k < x.kind) (λ x q. omega arith) cs h)

    go : (k : ℕ) → c.kind ≡ k → headway ≤ k → k ≤ connection → ordered (c ∷ cs) ≡ c ∷ ordered cs
    go zero e low high = absurd (omega arith)
    go (suc zero) e low high = rw e
    go (suc (suc zero)) e low high = rw (e, below headway (omega arith))
    go (suc (suc (suc zero))) e low high = rw (e, below headway (omega arith), below single_track (omega arith))
    go (suc (suc (suc (suc zero)))) e low high = rw (e, below headway (omega arith), below single_track (omega arith), below dwell (omega arith))
    go (suc (suc (suc (suc (suc zero))))) e low high = rw (e, below headway (omega arith), below single_track (omega arith), below dwell (omega arith), below turnaround (omega arith))
    go (suc (suc (suc (suc (suc (suc k)))))) e low high = absurd (omega arith)

all_stay : (cs : List Constraint) → All OfKind cs → Up (kinds_of cs) → ordered cs ≡ cs
unfolding ordered
all_stay [] known up = refl
all_stay (c ∷ cs) known up =
    first_stays c cs known.0 (not_lower c cs up) ∙ ap (λ (l : List Constraint). c ∷ l) (all_stay cs known.1 (up_rest c cs up))

pub upward_ordered : (cs : List Constraint) (t table : List ℕ) → All OfKind cs → table ≡ over (flat constraint_numbers cs) t → Upward (length cs) table → ordered cs ≡ cs
upward_ordered cs t table known is up = all_stay cs known (kinds_up cs t table is up)
