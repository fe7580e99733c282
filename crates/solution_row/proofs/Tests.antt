-- Whether an id is new: a law for each return. Assumes nothing.
use Prim.Native.Nat.{ℕ, ◌≤◌, ◌<◌}
use mathlib.Core.Path.{◌≡◌, sym, ◌∙◌}
use mathlib.Core.Bool.{Bool, true, false}
use mathlib.Core.List.{List}
use native.Mathlib.Omega.{arith}
use borrow.Author.Tests.{le-leb, lt-leb}
use Rattle.rules.specs.Limits.{configuration_width}
use Rattle.tables_ids.specs.Column.{Records, column, place_of}
use Rattle.tables_ids.proofs.Places.{some_there, none_there}
use Rattle.std.specs.Prelude.{Option, Some, None}
use Rattle.solution_row.specs.Against.{is_known}
use Rattle.solution_row.specs.Tests.{new_after, Earlier}

module _ (rows above id : ℕ) (choices : List ℕ) where
  pub new_above : above ≤ id → true ≡ new_after rows above id choices
  new_above h = rw (le-leb above id h)

  -- what is said to be fresh is
  pub new_known : (fresh : Option ℕ) (t : Bool) → id < above → Earlier rows fresh choices → t ≡ is_known fresh id → t ≡ true → true ≡ new_after rows above id choices
  new_known fresh t h before e is = rw (lt-leb above id h, before.lacks id (sym e ∙ is))

  module _ (f : Option ℕ) (h : id < above) (e : f ≡ place_of id (column configuration_width rows choices)) where
    pub new_found : (i : ℕ) → f ≡ Some i → false ≡ new_after rows above id choices
    new_found i q = rw (lt-leb above id h, some_there id (column configuration_width rows choices) f e i q)

    pub new_nothing : f ≡ None → true ≡ new_after rows above id choices
    new_nothing q = rw (lt-leb above id h, none_there id (column configuration_width rows choices) f e q)

pub three_wide : {rows : ℕ} {fresh : Option ℕ} {choices : List ℕ} → Earlier rows fresh choices → Records configuration_width rows choices
three_wide before = record { one = omega arith; whole = before.held }
