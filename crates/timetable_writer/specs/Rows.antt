-- Rows and their lists as they stand in the draft's tables, and as bytes.
use Rattle.std.specs.Prelude.{ℕ, zero, suc, ◌+◌, List, [], ◌∷◌, ◌++◌, map}
use Rattle.rules.specs.Lists.{flat}
use Rattle.rules.specs.Bytes.{spelled, joined, space, comma}
use Rattle.rules.specs.Energy.{tabulate}
use Rattle.rules.specs.Timetable.{Row, row}
use Rattle.rules.specs.Merge.{spelled_configuration}
use Rattle.rules.specs.declared.sizes.Configuration.{Configuration}
use Rattle.rules.specs.declared.sizes.Leg.{Leg}
use Rattle.tables_views.specs.View.{configuration_at}

-- a list, one space between
abbrev pub spelled_list : List Configuration → List ℕ
spelled_list cs = joined space (map spelled_configuration cs)

-- entry j of a list: a space stands before each but the first
abbrev pub spelled_entry : ℕ → Configuration → List ℕ
spelled_entry zero c = spelled_configuration c
spelled_entry (suc j) c = space ∷ spelled_configuration c

-- as many entries of the table as the count says, from the first on
abbrev pub list_from : (configurations : List ℕ) → (first count : ℕ) → List Configuration
list_from configurations first count = tabulate count (λ j. configuration_at configurations (first + j))

-- the five ids, a comma after each
abbrev pub spelled_ids : Leg → List ℕ
spelled_ids l = flat (λ n. spelled n ++ comma ∷ []) (l.id ∷ l.train ∷ l.track ∷ l.start ∷ l.end ∷ [])

-- a leg's row, with a nominal, and the list that the table has for it
abbrev pub row_of : (configurations : List ℕ) → Leg → Configuration → Row
row_of configurations l c = row l.id l.train l.track l.start l.end c (list_from configurations l.first l.count)
