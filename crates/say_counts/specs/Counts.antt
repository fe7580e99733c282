-- How much the tables hold.
use Rattle.std.specs.Prelude.{ℕ, zero, suc, ◌+◌, ◌/◌, List, ltb, length}
use Rattle.rules.specs.Limits.{constraint_width, unsigned_fill}
use Rattle.rules.specs.Lists.{lead}
use Rattle.rules.specs.declared.sizes.Constraint.{Constraint}
use Rattle.tables_views.specs.View.{profile_at, constraint_at, constraints_in}
use Rattle.text_read.specs.Places.{up_to}

-- where the samples of the last of n profiles end
abbrev pub samples_in : ℕ → (profiles : List ℕ) → ℕ
samples_in zero t = 0
samples_in (suc n) t = (profile_at t n).first + (profile_at t n).count

-- the records in front, up to the first of this kind or a greater one
abbrev pub kinds_below : (kind : ℕ) → List Constraint → List Constraint
kinds_below kind = lead (λ c. ltb c.kind kind)

-- the record at a position within its kind's list: the table, which ends at the first fill number, has them by kind
abbrev pub record_at : (constraints : List ℕ) → (kind position : ℕ) → Constraint
record_at t kind position = constraint_at t (length (kinds_below kind (constraints_in (up_to unsigned_fill t / constraint_width) t)) + position)
