-- A pass over all records, and the passes. Assumes nothing.
use Prim.Native.Nat.{ℕ, ◌≤◌, ◌<◌}
use native.Mathlib.Omega.{arith}
use mathlib.Core.Path.{◌≡◌, subst}
use mathlib.Core.Bool.{Bool, true, false}
use mathlib.Core.List.{List}
use lib.ListN.{length}
use Rattle.rules.specs.Verdict.{Kept, Acceptable}
use Rattle.rules.specs.declared.sizes.Configuration.{Configuration}
use Rattle.tables_views.specs.View.{constraint_at, constraints_in}
use Rattle.earliest_search.specs.Searching.{chosen_in, ahead_in, Moved, Searching, NoSolution, Passed}
use Rattle.earliest_search.specs.declared.rounds.Turn.TheVariants as turn
use Rattle.earliest_search.proofs.Moving.{tabulate-every, timed_in_stays}
use Rattle.earliest_search.proofs.Visits.{kept_not-raised, kept_not_never}

module _ (n m : ℕ) (legs₀ configurations constraints : List ℕ) where
  -- i records looked at
  pub record Passing (quiet : Bool) (i : ℕ) (legs : List ℕ) : Type 0 where
    pub within : i ≤ m
    pub long : length legs ≡ length legs₀
    pub searching : Searching n m legs configurations constraints
    pub moved : Moved n legs₀ legs
    pub still : quiet ≡ true → (legs ≡ legs₀) × ((j : ℕ) → j < i → Kept (chosen_in n legs₀ configurations) (constraint_at constraints j))
    pub loud : quiet ≡ false → ahead_in n legs configurations < ahead_in n legs₀ configurations

  no_more : (legs : List ℕ) → Moved n legs₀ legs → NoSolution n m legs configurations constraints → NoSolution n m legs₀ configurations constraints
  no_more legs h k = subst (λ os. (s : List Configuration) → Acceptable os (constraints_in m constraints) s → ⊥) (timed_in_stays n legs₀ legs h configurations) k

  module _ (quiet : Bool) (i : ℕ) (legs : List ℕ) (p : Passing quiet i legs) where
    pub pass_ends_kept : m ≤ i → quiet ≡ true → Passed n m legs₀ configurations constraints turn.Kept legs
    pass_ends_kept h e =
        record {
          kept = λ q. ((p.still e).0, tabulate-every (Kept (chosen_in n legs₀ configurations)) m (constraint_at constraints) (λ j l. (p.still e).1 j (omega arith)));
          raised = λ q. absurd (kept_not-raised q);
          never = λ q. absurd (kept_not_never q);
        }

  -- the passes
  pub record Raising (legs : List ℕ) : Type 0 where
    pub long : length legs ≡ length legs₀
    pub searching : Searching n m legs configurations constraints
    pub moved : Moved n legs₀ legs
