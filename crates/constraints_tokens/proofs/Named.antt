-- What a word stands for in a table: a test that passes chooses its row, and one that fails goes on. Assumes nothing.
use Prim.Native.Nat.{ℕ}
use mathlib.Core.Path.{◌≡◌, refl}
use mathlib.Core.Bool.{Bool, true, false, cond}
use mathlib.Core.List.{List}
use Rattle.std.proofs.Common.{Bor, Option, Some}
use Rattle.std.specs.Option.{option_map, unwrap_or}

pub row_chosen : (b : Bool) (row : Bor (List ℕ) × ℕ) (rest : Option (Bor (List ℕ) × ℕ)) (other : ℕ)
    → unwrap_or (option_map (λ x. x.1) (cond b (Some row) rest)) other ≡ cond b row.1 (unwrap_or (option_map (λ x. x.1) rest) other)
row_chosen true row rest other = refl
row_chosen false row rest other = refl
