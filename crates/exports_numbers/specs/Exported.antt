-- What an export promises: an outcome that keeps the entry's promise, told in numbers.
use Rattle.std.specs.Prelude.{ℕ, ◌≡◌, List}

pub record Exported {R : Type 0} (Promise : R → Type 0) (numbers_of : R → List ℕ) (numbers : List ℕ) : Type 0 where
  pub outcome : R
  pub keeps : Promise outcome
  pub tells : numbers ≡ numbers_of outcome
