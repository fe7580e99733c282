-- What stands in the constraint table after one entry more: by the next places of the kinds, or in file order. Assumes nothing.
use Prim.Native.Nat.{ℕ, ◌+◌, ◌*◌, ◌≤◌}
use mathlib.Core.Path.{◌≡◌, refl, ap, sym, ◌∙◌}
use mathlib.Core.Bool.{Bool, true, false, cond}
use mathlib.Core.List.{List, [], ◌∷◌, ◌++◌}
use native.Mathlib.Omega.{arith}
use lib.ListN.{length, get_or}
use lib.Seq.{sets}
use Rattle.rules.specs.Limits.{constraint_width}
use Rattle.rules.specs.Lists.{flat, over}
use Rattle.rules.specs.Constraints.{constraint_numbers}
use Rattle.rules.specs.declared.sizes.Constraint.{Constraint}
use Rattle.rules.proofs.Lists.{flat_append, flat-length, over-more}
use Rattle.constraints_tables.specs.Places.{bumped, nexts, placed, writes, written}
use Rattle.constraints_tables.proofs.Putting.{counted_low}

pub constraint_long : (c : Constraint) → length (constraint_numbers c) ≡ constraint_width
constraint_long c = refl

pub nexts-more : (next : List ℕ) (cs : List Constraint) (c : Constraint) → nexts next (cs ++ c ∷ []) ≡ bumped (nexts next cs) c.kind
nexts-more next [] c = refl
nexts-more next (x ∷ cs) c = nexts-more (bumped next x.kind) cs c

writes_more : (next t : List ℕ) (cs : List Constraint) (c : Constraint) → writes next t (cs ++ c ∷ []) ≡ placed (nexts next cs) c (writes next t cs)
writes_more next t [] c = refl
writes_more next t (x ∷ cs) c = writes_more (bumped next x.kind) (placed next x t) cs c

pub written-more : (sorts : Bool) (next t : List ℕ) (cs : List Constraint) (c : Constraint) → (length cs + 1) * constraint_width ≤ length t
    → written sorts next t (cs ++ c ∷ [])
    ≡ sets (written sorts next t cs) (cond sorts (get_or (nexts next cs) c.kind 0) (length cs) * constraint_width) (constraint_numbers c)
written-more true next t cs c h = writes_more next t cs c
written-more false next t cs c h =
    let size : length (flat constraint_numbers cs) ≡ length cs * constraint_width = flat-length constraint_numbers constraint_width constraint_long cs in
    let fits : length (flat constraint_numbers cs) + length (constraint_numbers c) ≤ length t = omega (arith, size) in
    ap (λ (w : List ℕ). over w t) (flat_append constraint_numbers cs (c ∷ []))
    ∙ sym (over-more (flat constraint_numbers cs) t (constraint_numbers c) fits)
    ∙ ap (λ (k : ℕ). sets (over (flat constraint_numbers cs) t) k (constraint_numbers c)) size

-- no place is further on than there were constraints
pub nexts_low : (next : List ℕ) (cs : List Constraint) (k : ℕ) → get_or (nexts next cs) k 0 ≤ get_or next k 0 + length cs
nexts_low next [] k = omega arith
nexts_low next (c ∷ cs) k = omega (arith, nexts_low (bumped next c.kind) cs k, counted_low next c.kind k)
