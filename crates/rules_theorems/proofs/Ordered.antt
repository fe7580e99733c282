-- The table of constraints, by kind and then by file, holds the same constraints as the file. Assumes nothing.
use Prim.Native.Nat.{ℕ, zero, suc, ◌+◌, ◌≤◌}
use mathlib.Core.Path.{◌≡◌, refl, sym, ◌∙◌}
use mathlib.Core.Bool.{Bool, true, false, cond}
use mathlib.Core.List.{List, [], ◌∷◌}
use native.Mathlib.Omega.{arith}
use lib.Dec.{eqb}
use lib.ListN.{length}
use borrow.Author.Tests.{eq-eqb}
use Rattle.rules.specs.Lists.{sum_of}
use Rattle.rules.specs.Kinds.{headway, single_track, dwell, turnaround, connection}
use Rattle.rules.specs.Constraints.{of_kind, ordered, Document}
use Rattle.rules.specs.declared.sizes.Constraint.{Constraint}
use Rattle.rules.specs.Verdict.{All}
use Rattle.rules.proofs.Truth.{all_map, all_append, all_front}
use Rattle.rules_theorems.specs.LawfulDocument.{LawfulConstraint, LawfulDocument}
use Rattle.rules_theorems.proofs.All.{all_second, all_only, only_all}
use Rattle.rules_theorems.proofs.Sums.{sum-append, sum_ones}

-- what holds of each constraint of the file holds of each of the table
module _ (P : Constraint → Type 0) where
  kind_keeps : (kind : ℕ) (cs : List Constraint) → All P cs → All P (of_kind kind cs)
  kind_keeps kind cs h = all_only P (λ c. eqb c.kind kind) cs h

  pub ordered_keeps : (cs : List Constraint) → All P cs → All P (ordered cs)
  unfolding ordered
  ordered_keeps cs h =
      all_append P (of_kind headway cs) _ (kind_keeps headway cs h)
      (all_append P (of_kind single_track cs) _ (kind_keeps single_track cs h)
      (all_append P (of_kind dwell cs) _ (kind_keeps dwell cs h)
      (all_append P (of_kind turnaround cs) _ (kind_keeps turnaround cs h) (kind_keeps connection cs h))))

-- ---- the other way round, and each stands in it as often

-- one of the five kinds
pub record OfKind (c : Constraint) : Type 0 where
  pub from_first_kind : headway ≤ c.kind
  pub to_last_kind : c.kind ≤ connection

-- what holds of each of the five kinds holds of any
any_kind : (Q : ℕ → Type 0) → Q headway → Q single_track → Q dwell → Q turnaround → Q connection → (kind : ℕ) → headway ≤ kind → kind ≤ connection → Q kind
any_kind Q a b c d e zero low high = absurd (omega arith)
any_kind Q a b c d e (suc zero) low high = a
any_kind Q a b c d e (suc (suc zero)) low high = b
any_kind Q a b c d e (suc (suc (suc zero))) low high = c
any_kind Q a b c d e (suc (suc (suc (suc zero)))) low high = d
any_kind Q a b c d e (suc (suc (suc (suc (suc zero))))) low high = e
any_kind Q a b c d e (suc (suc (suc (suc (suc (suc kind)))))) low high = absurd (omega arith)

-- what holds of each constraint of the table holds of each of the file
module _ (P : Constraint → Type 0) where
  abbrev Gives : ℕ → List Constraint → Type 0
  Gives kind = All (λ c. c.kind ≡ kind → P c)

  kind_gives : (kind : ℕ) (cs : List Constraint) → All P (of_kind kind cs) → Gives kind cs
  kind_gives kind cs h =
      all_map (λ c. eqb c.kind kind ≡ true → P c) (λ c. c.kind ≡ kind → P c) (λ c k e. k (eq-eqb c.kind kind e)) cs (only_all P (λ c. eqb c.kind kind) cs h)

  kinds_give : (cs : List Constraint) → All OfKind cs → Gives headway cs → Gives single_track cs → Gives dwell cs → Gives turnaround cs → Gives connection cs → All P cs
  kinds_give [] h k l m n o = tt
  kinds_give (c ∷ cs) h k l m n o = (
    any_kind (λ kind. c.kind ≡ kind → P c) k.0 l.0 m.0 n.0 o.0 c.kind h.0.from_first_kind h.0.to_last_kind refl,
    kinds_give cs h.1 k.1 l.1 m.1 n.1 o.1,
  )

  pub ordered-gives : (cs : List Constraint) → All OfKind cs → All P (ordered cs) → All P cs
  unfolding ordered
  ordered-gives cs h k₁ =
      let k₂ = all_second P (of_kind headway cs) _ k₁ in
      let k₃ = all_second P (of_kind single_track cs) _ k₂ in
      let k₄ = all_second P (of_kind dwell cs) _ k₃ in
      let k₅ = all_second P (of_kind turnaround cs) (of_kind connection cs) k₄ in
      kinds_give cs h
      (kind_gives headway cs (all_front P (of_kind headway cs) _ k₁))
      (kind_gives single_track cs (all_front P (of_kind single_track cs) _ k₂))
      (kind_gives dwell cs (all_front P (of_kind dwell cs) _ k₃))
      (kind_gives turnaround cs (all_front P (of_kind turnaround cs) _ k₄))
      (kind_gives connection cs k₅)

-- a kind's share of a number
abbrev share : (n kind of : ℕ) → ℕ
share n kind of = cond (eqb of kind) n 0

shares : (n of : ℕ) → headway ≤ of → of ≤ connection
    → share n headway of + (share n single_track of + (share n dwell of + (share n turnaround of + share n connection of))) ≡ n
shares n =
    any_kind (λ of. share n headway of + (share n single_track of + (share n dwell of + (share n turnaround of + share n connection of))) ≡ n)
    (omega arith) (omega arith) (omega arith) (omega arith) (omega arith)

module _ (f : Constraint → ℕ) where
  kind_more : (kind : ℕ) (c : Constraint) (cs : List Constraint) → sum_of f (of_kind kind (c ∷ cs)) ≡ share (f c) kind c.kind + sum_of f (of_kind kind cs)
  kind_more kind c cs = go (eqb c.kind kind)
    where
      go : (t : Bool) → sum_of f (cond t (c ∷ of_kind kind cs) (of_kind kind cs)) ≡ cond t (f c) 0 + sum_of f (of_kind kind cs)
      go true = refl
      go false = omega arith

  sum_kinds : (cs : List Constraint)
      → sum_of f (ordered cs)
      ≡ sum_of f (of_kind headway cs)
      + (sum_of f (of_kind single_track cs) + (sum_of f (of_kind dwell cs) + (sum_of f (of_kind turnaround cs) + sum_of f (of_kind connection cs))))
  unfolding ordered
  sum_kinds cs = simp sum-append

  -- whatever is summed over the constraints, the table and the file have the same sum
  pub ordered-sum : (cs : List Constraint) → All OfKind cs → sum_of f (ordered cs) ≡ sum_of f cs
  unfolding ordered
  ordered-sum [] h = refl
  ordered-sum (c ∷ cs) h =
      let rest = ordered-sum cs h.1 in
      let kinds = sum_kinds cs in
      let all = shares (f c) c.kind h.0.from_first_kind h.0.to_last_kind in
      sum_kinds (c ∷ cs)
      ∙ omega (arith, kind_more headway c cs, kind_more single_track c cs, kind_more dwell c cs, kind_more turnaround c cs, kind_more connection c cs)

pub ordered-length : (cs : List Constraint) → All OfKind cs → length (ordered cs) ≡ length cs
ordered-length cs h = sym (sum_ones (ordered cs)) ∙ ordered-sum (λ c. 1) cs h ∙ sum_ones cs

-- a lawful constraint has one of the five kinds
pub document_kinds : (legs : List ℕ) (constraints tracks : ℕ) (d : Document) → LawfulDocument legs constraints tracks d → All OfKind d.constraints
document_kinds legs constraints tracks d h =
    all_map (LawfulConstraint legs) OfKind (λ c k. record { from_first_kind = k.from_first_kind; to_last_kind = k.to_last_kind }) d.constraints
    h.tables.constraints_lawful.each

-- so the table of a document that was read is as long as its list
pub table-length : (legs : List ℕ) (constraints tracks : ℕ) (d : Document) → LawfulDocument legs constraints tracks d
    → length (ordered d.constraints) ≡ length d.constraints
table-length legs constraints tracks d h = ordered-length d.constraints (document_kinds legs constraints tracks d h)
