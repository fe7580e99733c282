-- What is found of a record, and the row that it holds back, in the terms of the code. Assumes nothing.
use Prim.Native.Nat.{ℕ, suc, ◌-◌}
use mathlib.Core.Path.{◌≡◌, refl, ap₂, ◌∙◌}
use mathlib.Core.Bool.{Bool, true, false, cond}
use mathlib.Core.List.{List, [], ◌∷◌}
use lib.Dec.{leb}
use Rattle.rules.specs.Kinds.{Inequality}
use Rattle.rules.specs.Earliest.{Late, held_back, late_from}
use Rattle.rules.specs.declared.sizes.Configuration.{Configuration}
use Rattle.rules.specs.declared.sizes.Constraint.{Constraint}
use Rattle.std.specs.Prelude.{Ok, Err, Option, Some, None}
use Rattle.verdict.specs.Found.{Finding, fails, shortfall_of, finding_from}
use Rattle.earliest_search.specs.Searching.{found_by}

-- what a finding says of a late row
abbrev pub late_of : Constraint → Finding → Option Late
late_of c (Ok i) = None
late_of c (Err f) = Some (record { row = held_back c f.inequality; by = f.short })

-- after i inequalities that hold
pub late_found : (c : Constraint) (i : ℕ) (qs : List Inequality) → late_from c (suc i) qs ≡ late_of c (finding_from i qs)
late_found c i [] = refl
late_found c i (q ∷ qs) = go (late_found c (suc i) qs) (leb q.left q.right)
  where
    go : late_from c (suc (suc i)) qs ≡ late_of c (finding_from (suc i) qs) → (b : Bool)
        → cond b (late_from c (suc (suc i)) qs) (Some (record { row = held_back c (suc i); by = q.left - q.right }))
        ≡ late_of c (cond b (finding_from (suc i) qs) (fails (suc i) (shortfall_of q)))
    go e true = e
    go e false = refl

pub found_of_lem : (c : Constraint) (one two a b : Configuration) → one ≡ a → two ≡ b → (v : Finding) → v ≡ found_by c one two → v ≡ found_by c a b
found_of_lem c one two a b e f v h = h ∙ ap₂ (found_by c) e f
