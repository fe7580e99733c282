-- Lists by number: how many there are. Assumes nothing.
use Prim.Native.Nat.{ℕ, suc, ◌+◌, ◌≤◌}
use mathlib.Core.Bool.{Bool, true, false, cond}
use mathlib.Core.List.{List, [], ◌∷◌}
use native.Mathlib.Omega.{arith}
use native.Mathlib.Numerals.{add-one}
use lib.ListN.{length}
use Rattle.rules.specs.Lists.{same_list}
use Rattle.rules.specs.Kinds.{subnets, number_from, list_names, list_named}

-- a known list is one of six
number_within : (n : ℕ) (names : List (List ℕ)) (word : List ℕ) → number_from (suc n) names word ≤ n + length names
number_within n [] word = omega arith
number_within n (name ∷ names) word = go (same_list name word) (rw (← add-one (suc n)) at (number_within (suc n) names word))
  where
    go : (t : Bool) → number_from (suc n + 1) names word ≤ suc n + length names
        → cond t (suc n) (number_from (suc n + 1) names word) ≤ n + suc (length names)
    go true h = omega arith
    go false h = omega arith

pub list_within : (word : List ℕ) → list_named word ≤ subnets
unfolding list_named
list_within word = number_within 0 list_names word
