-- Where entries go in the constraint table, and what stands there then.
use Rattle.std.specs.Prelude.{ℕ, ◌+◌, ◌*◌, ◌≤◌, ◌<◌, Bool, cond, List, [], ◌∷◌, get_or, set}
use Rattle.std.proofs.lemmas.List.Edits.{sets}
use Rattle.rules.specs.Limits.{most_constraints, constraint_width}
use Rattle.rules.specs.Lists.{flat, over}
use Rattle.rules.specs.Kinds.{headway, single_track, dwell, turnaround}
use Rattle.rules.specs.Constraints.{constraint_numbers}
use Rattle.rules.specs.declared.sizes.Constraint.{Constraint}

-- ---- entry by entry: each kind has its next place

abbrev pub bumped : (next : List ℕ) → (kind : ℕ) → List ℕ
bumped next kind = set next kind (get_or next kind 0 + 1)

abbrev pub nexts : (next : List ℕ) → List Constraint → List ℕ
nexts next [] = next
nexts next (c ∷ cs) = nexts (bumped next c.kind) cs

-- no entry is put past this place
abbrev pub last_place : ℕ
last_place = (most_constraints + most_constraints) * constraint_width

-- an entry goes to the next place of its kind
abbrev pub placed : (next : List ℕ) → Constraint → (table : List ℕ) → List ℕ
placed next c table = sets table (get_or next c.kind 0 * constraint_width) (constraint_numbers c)

abbrev pub writes : (next table : List ℕ) → List Constraint → List ℕ
writes next table [] = table
writes next table (c ∷ cs) = writes (bumped next c.kind) (placed next c table) cs

-- so in a walk that sorts, and in file order in one that does not
abbrev pub written : (sorts : Bool) → (next table : List ℕ) → List Constraint → List ℕ
written sorts next table cs = cond sorts (writes next table cs) (over (flat constraint_numbers cs) table)

-- n constraints stand by kind: none is of a lower kind than the one before it
abbrev pub Upward : (n : ℕ) (table : List ℕ) → Type 0
Upward n table = (i : ℕ) → i + 1 < n → get_or table (i * constraint_width) 0 ≤ get_or table ((i + 1) * constraint_width) 0

-- kinds 1 to 5 by how many each has: how many are before the last kind, and where each starts
abbrev pub before_last : List ℕ → ℕ
before_last counts =
    let n : ℕ → ℕ = λ k. get_or counts k 0 in
    n headway + (n single_track + (n dwell + n turnaround))

abbrev pub starts_of : List ℕ → List ℕ
starts_of counts =
    let n : ℕ → ℕ = λ k. get_or counts k 0 in
    0
    ∷ 0
    ∷ n headway
    ∷ (n headway + n single_track)
    ∷ (n headway + n single_track + n dwell)
    ∷ (n headway + n single_track + n dwell + n turnaround)
    ∷ []
