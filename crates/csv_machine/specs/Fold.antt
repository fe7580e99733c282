-- A machine that takes bytes one by one.
use Rattle.std.specs.Prelude.{ℕ, List, [], ◌∷◌, Option, Some}
use Rattle.rules.specs.Lists.{◌>>=◌}

abbrev pub fold : {S : Type 0} → (S → ℕ → S) → S → List ℕ → S
fold step st [] = st
fold step st (b ∷ bs) = fold step (step st b) bs

-- one that may stop: nothing comes after a byte that may not stand there
abbrev pub run : {S : Type 0} → (S → ℕ → Option S) → S → List ℕ → Option S
run step st [] = Some st
run step st (b ∷ bs) = step st b >>= (λ next. run step next bs)
