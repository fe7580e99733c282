-- What recuperation spares: drawn and given back are before and lost; drawn less lost is the sum of all chosen samples. Assumes nothing.
use Prim.Native.Nat.{ℕ, suc, ◌+◌}
use native.Mathlib.Omega.{arith}
use mathlib.Core.Path.{◌≡◌, refl, sym, ap, ◌∙◌}
use mathlib.Core.Bool.{true, cond}
use mathlib.Core.List.{List, [], ◌∷◌}
use lib.ListN.{length}
use lib.IntN.{ℤ, pos, ◌+ℤ◌, ◌-ℤ◌, +ℤ_assoc, +ℤ_comm}
use borrow.Author.Tests.{lt-ltb}
use Rattle.rules.specs.Lists.{sum_of}
use Rattle.rules.specs.Verdict.{All}
use Rattle.rules.specs.Energy.{sum_to, above, below, leg_at, is_home, power, before, before_at, drawn_at, drawn, lost}
use Rattle.rules.specs.declared.sizes.Configuration.{Configuration}
use Rattle.rules_theorems.specs.Sized.{Sized, Fits, IsPlaced, Placed, returned, sum_of_z, chosen}
use Rattle.rules_theorems.proofs.Sums.{sum_ext, sum_zero, sum_add, sum_swap}
use Rattle.rules_theorems.proofs.Parts.{parts_add, parts_are, list_parts, add_cancel, sub_of_add}
use Rattle.rules_theorems.proofs.Runs.{legs-sum}
use Rattle.rules_theorems.proofs.Energies.{stands, home_sum, before-seconds, drawn-seconds}
use Rattle.std.specs.Prelude.{Option, Some, None}

module _ (samples : ℕ → List ℤ) where
  placed_stands : (n : ℕ) (u : Option ℕ) → IsPlaced n u → stands n u ≡ true
  placed_stands n None h = absurd h
  placed_stands n (Some u) h = lt-ltb u n h

  home_once : (f : ℤ → ℕ) → f (pos 0) ≡ 0 → (n : ℕ) (u : Option ℕ) (x : ℤ) → IsPlaced n u
      → sum_to (λ s. f (cond (is_home samples u s) x (pos 0))) n ≡ f x
  home_once f z n u x h = home_sum samples f z n u x ∙ rw (placed_stands n u h)

  -- at each second: what the subnets draw, and what the legs give back
  second_balance : (n t : ℕ) (homes : List (Option ℕ)) (cs : List Configuration) → length homes ≡ length cs → All (IsPlaced n) homes
      → sum_to (λ s. above (power samples homes cs s t)) n + sum_of (λ c. below (leg_at samples c t)) cs
      ≡ sum_to (λ s. below (power samples homes cs s t)) n + sum_of (λ c. above (leg_at samples c t)) cs
  second_balance n t [] [] l h = omega (arith, sum_zero (λ s. 0) n (λ i k. refl))
  second_balance n t [] (c ∷ cs) l h = absurd (never l)
    where
      never : 0 ≡ suc (length cs) → ⊥
      never e = omega arith
  second_balance n t (u ∷ us) [] l h = absurd (never l)
    where
      never : suc (length us) ≡ 0 → ⊥
      never e = omega arith
  second_balance n t (u ∷ us) (c ∷ cs) l h =
      let x : ℤ = leg_at samples c t in
      let own : ℕ → ℤ = λ s. cond (is_home samples u s) x (pos 0) in
      let rest : ℕ → ℤ = λ s. power samples us cs s t in
      let both : sum_to (λ s. above (own s +ℤ rest s) + (below (own s) + below (rest s))) n
      ≡ sum_to (λ s. below (own s +ℤ rest s) + (above (own s) + above (rest s))) n
      = sum_ext (λ s. above (own s +ℤ rest s) + (below (own s) + below (rest s))) (λ s. below (own s +ℤ rest s) + (above (own s) + above (rest s))) n
      (λ s k. parts_add (own s) (rest s)) in
      omega (
        arith,
        both,
        sum_add (λ s. above (own s +ℤ rest s)) (λ s. below (own s) + below (rest s)) n,
        sum_add (λ s. below (own s)) (λ s. below (rest s)) n,
        sum_add (λ s. below (own s +ℤ rest s)) (λ s. above (own s) + above (rest s)) n,
        sum_add (λ s. above (own s)) (λ s. above (rest s)) n,
        home_once above refl n u x h.0,
        home_once below refl n u x h.0,
        second_balance n t us cs (omega arith) h.1,
      )

  -- drawn and given back are before recuperation and lost
  pub drawn_and_returned : (n H : ℕ) (homes : List (Option ℕ)) (cs : List Configuration) → Sized samples cs → Fits H cs → Placed n homes cs
      → drawn samples homes n cs H + returned samples cs ≡ lost samples homes n cs H + before samples cs
  drawn_and_returned n H homes cs s h p =
      let draws : ℕ → ℕ = drawn_at samples homes n cs in
      let loses : ℕ → ℕ = λ t. sum_to (λ s. below (power samples homes cs s t)) n in
      let gives : ℕ → ℕ = λ t. sum_of (λ c. below (leg_at samples c t)) cs in
      let each : sum_to (λ t. draws t + gives t) H ≡ sum_to (λ t. loses t + before_at samples cs t) H
      = sum_ext (λ t. draws t + gives t) (λ t. loses t + before_at samples cs t) H (λ t k. second_balance n t homes cs p.0 p.1) in
      omega (
        arith,
        each,
        sum_add draws gives H,
        sum_add loses (before_at samples cs) H,
        drawn-seconds samples homes n cs H,
        sum_swap (λ t s. below (power samples homes cs s t)) H n,
        legs-sum samples below refl H cs s.powered h,
        before-seconds samples H cs s h,
      )

  chosen_parts : (cs : List Configuration) → chosen samples cs +ℤ pos (returned samples cs) ≡ pos (before samples cs)
  chosen_parts =
      list_parts (λ c. sum_of_z (λ x. x) (samples c.profile)) (λ c. sum_of below (samples c.profile)) (λ c. sum_of above (samples c.profile))
      (λ c. list_parts (λ x. x) below above parts_are (samples c.profile))

  -- drawn less lost is the sum of all chosen samples
  pub balance : (n H : ℕ) (homes : List (Option ℕ)) (cs : List Configuration) → Sized samples cs → Fits H cs → Placed n homes cs
      → pos (drawn samples homes n cs H) -ℤ pos (lost samples homes n cs H) ≡ chosen samples cs
  balance n H homes cs s h p =
      let d : ℤ = pos (drawn samples homes n cs H) in
      let l : ℤ = pos (lost samples homes n cs H) in
      let r : ℤ = pos (returned samples cs) in
      let z : ℤ = chosen samples cs in
      let e : d +ℤ r ≡ (z +ℤ l) +ℤ r
      = ap pos (drawn_and_returned n H homes cs s h p) ∙ ap (λ w. l +ℤ w) (sym (chosen_parts cs)) ∙ sym (+ℤ_assoc l z r)
      ∙ ap (λ w. w +ℤ r) (+ℤ_comm l z) in
      sym (sub_of_add z l d (sym (add_cancel d (z +ℤ l) r e)))
