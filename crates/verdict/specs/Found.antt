-- The inequalities of a record up to the first that fails, as the code has them: how many hold, or which one fails and by how much.
use Rattle.std.specs.Prelude.{ℕ, suc, ◌-◌, cond, Result, Ok, Err, List, [], ◌∷◌, leb}
use Rattle.rules.specs.Kinds.{Inequality}
use Rattle.verdict.specs.declared.records.Failing.{Failing}

-- how many hold, or the one that fails
abbrev pub Finding : Type 0
Finding = Result ℕ Failing

abbrev pub fails : (inequality short : ℕ) → Finding
fails i m = Err (record { inequality = i; short = m })

-- left minus right: 0 where the inequality holds
abbrev pub shortfall_of : Inequality → ℕ
shortfall_of q = q.left - q.right

-- after i inequalities that hold
abbrev pub finding_from : ℕ → List Inequality → Finding
finding_from i [] = Ok i
finding_from i (q ∷ qs) = cond (leb q.left q.right) (finding_from (suc i) qs) (fails (suc i) (shortfall_of q))

abbrev pub finding_of : List Inequality → Finding
finding_of = finding_from 0

-- how many were tested
abbrev pub tests_in : Finding → ℕ
tests_in (Ok i) = i
tests_in (Err f) = f.inequality
