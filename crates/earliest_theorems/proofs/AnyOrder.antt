-- A search may go in any order: from the soonest offers on, choices that pass over no solution and keep all records are the earliest. Assumes nothing.
use Prim.Native.Nat.{ℕ, zero, suc, ◌<◌}
use native.Mathlib.Omega.{arith}
use mathlib.Core.Path.{◌≡◌, ap, subst}
use mathlib.Core.List.{List, [], ◌∷◌}
use lib.ListN.{length}
use Rattle.rules.specs.Energy.{tabulate}
use Rattle.rules.specs.Timetable.{Row}
use Rattle.rules.specs.Verdict.{All, Kept, Offered, Acceptable}
use Rattle.rules.specs.Earliest.{timed_rows, soonest, earliest}
use Rattle.rules.specs.declared.sizes.Configuration.{Configuration}
use Rattle.rules.specs.declared.sizes.Constraint.{Constraint}
use Rattle.earliest_theorems.specs.Statement.{NoLater, FirstListed, Earliest, Proposal}
use Rattle.earliest_theorems.specs.Search.{Picked, Low}
use Rattle.earliest_theorems.proofs.Soonest.{picked}
use Rattle.earliest_theorems.proofs.Proposed.{timed-offered, to_timed, proposal, earliest_one, none_exactly}
use Rattle.std.specs.Prelude.{Option, Some, None}

module _ (rows : List Row) (cs : List Constraint) (named : All (λ (c : Constraint). (c.first < length rows) × (c.second < length rows)) cs) where
  -- WHATEVER THE ORDER
  pub low_kept : (x : List Configuration) → Low (timed_rows rows) cs x → All (Kept x) cs → earliest rows cs ≡ Some x
  low_kept x w k = go (earliest rows cs) (proposal rows cs named)
    where
      mine : Earliest rows cs x
      mine =
          let o = (timed-offered rows x).0 w.offered in
          record {
            solution = record { accepted = record { offered = o.0; kept = k }; travels = o.1 };
            least = λ s h. w.low s (to_timed rows cs named s h);
            listed = w.firsts;
          }

      go : (o : Option (List Configuration)) → Proposal rows cs o → o ≡ Some x
      go None h = absurd (h x mine.solution)
      go (Some y) h = ap Some (earliest_one rows cs named y x h mine)

  pub never_none : ((s : List Configuration) → Acceptable (timed_rows rows) cs s → ⊥) → earliest rows cs ≡ None
  never_none h = (none_exactly rows cs named).1 (λ s k. h s (to_timed rows cs named s k))

-- each row's soonest offer: no solution has any leg leaving sooner
pub record Begins (os : List (List Configuration)) (x : List Configuration) : Type 0 where
  pub offered : Offered os x
  pub firsts : FirstListed os x
  pub low : (s : List Configuration) → Offered os s → NoLater x s

pub soonest-begins : (n : ℕ) (f : ℕ → List Configuration) (g : ℕ → Configuration) → ((i : ℕ) → i < n → soonest 0 (f i) ≡ Some (g i)) → Begins (tabulate n f) (tabulate n g)
soonest-begins zero f g h = record { offered = tt; firsts = tt; low = nil }
  where
    nil : (s : List Configuration) → Offered [] s → NoLater [] s
    nil [] k = tt
    nil (b ∷ s) k = absurd k
soonest-begins (suc n) f g h =
    let p : Picked 0 (f 0) (Some (g 0)) = subst (Picked 0 (f 0)) (h 0 (omega arith)) (picked 0 (f 0)) in
    let q = soonest-begins n (λ i. f (suc i)) (λ i. g (suc i)) (λ i l. h (suc i) (omega arith)) in
    record { offered = (p.0, q.offered); firsts = (p.3, q.firsts); low = most p q }
  where
    most : Picked 0 (f 0) (Some (g 0)) → Begins (tabulate n (λ i. f (suc i))) (tabulate n (λ i. g (suc i))) → (s : List Configuration) → Offered (tabulate (suc n) f) s → NoLater (tabulate (suc n) g) s
    most p q [] k = absurd k
    most p q (e ∷ s) k = (p.2 e k.0 (omega arith), q.low s k.1)
