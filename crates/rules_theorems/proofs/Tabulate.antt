-- A list of the values of a function: a fact about each, two lists together; the array of quarter sums. Assumes nothing.
use Prim.Native.Nat.{ℕ, zero, suc, ◌<◌}
use mathlib.Core.Path.{◌≡◌, refl, ap}
use mathlib.Core.List.{List, ◌∷◌}
use lib.ListN.{length, get_or}
use lib.IntN.{pos}
use Rattle.rules.specs.Limits.{most_quarters}
use Rattle.rules.specs.Verdict.{All}
use Rattle.rules.specs.Merge.{zipped}
use Rattle.rules.specs.Energy.{tabulate, quarter, quarter_sums}
pub use Rattle.rules.proofs.Lists.{tabulate-length, tabulate-at, tabulate_ext}

pub tabulate_all : {A : Type 0} (P : A → Type 0) (n : ℕ) (f : ℕ → A) → ((i : ℕ) → P (f i)) → All P (tabulate n f)
tabulate_all P zero f h = tt
tabulate_all P (suc n) f h = (h 0, tabulate_all P n (λ i. f (suc i)) (λ i. h (suc i)))

-- two lists of values, taken together place by place
pub tabulate-zipped : {A B C : Type 0} (g : A → B → C) (n : ℕ) (f : ℕ → A) (k : ℕ → B) → zipped g (tabulate n f) (tabulate n k) ≡ tabulate n (λ i. g (f i) (k i))
tabulate-zipped g zero f k = refl
tabulate-zipped {C = C} g (suc n) f k = ap (λ (l : List C). g (f 0) (k 0) ∷ l) (tabulate-zipped g n (λ i. f (suc i)) (λ i. k (suc i)))

-- the 196 quarter sums as one array
pub quarters_length : (f : ℕ → ℕ) (H : ℕ) → length (quarter_sums f H) ≡ most_quarters
quarters_length f H = tabulate-length most_quarters (λ k. pos (quarter f H k))

pub quarters_at : (f : ℕ → ℕ) (H k : ℕ) → k < most_quarters → get_or (quarter_sums f H) k (pos 0) ≡ pos (quarter f H k)
quarters_at f H k = tabulate-at most_quarters (λ k. pos (quarter f H k)) (pos 0) k
