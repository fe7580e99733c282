-- The refusals of the duties: 2, 3, 4, 5, 6, 10 and 16, with file 6.
use Rattle.std.specs.Prelude.{ℕ, ◌≡◌, true, List, [], ◌∷◌, eqb}
use Rattle.rules.specs.Lists.{any}
use Rattle.rules.specs.Answers.{too_long, bad_header, bad_row, out_of_range, too_many, unknown_name, no_room, duties_file}
use Rattle.rules.specs.declared.answers.Refusal.{Refusal}

abbrev pub numbers : List ℕ
numbers = too_long ∷ bad_header ∷ bad_row ∷ out_of_range ∷ too_many ∷ unknown_name ∷ no_room ∷ []

pub record OfDuties (r : Refusal) : Type 0 where
  pub file : r.file ≡ duties_file
  pub number : any (eqb r.number) numbers ≡ true
