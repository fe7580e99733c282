-- A record's kind by the constant table: its row gives its inequalities; another number than a kind's has one, which cannot hold. Assumes nothing.
use Prim.Native.Nat.{suc, ◌-◌, ◌≤◌, ◌<◌}
use native.Mathlib.Omega.{arith}
use mathlib.Core.Path.{◌≡◌, sym, ap, ap₂, ◌∙◌}
use mathlib.Core.List.{List}
use Rattle.rules.specs.Kinds.{Inequality, headway, connection, Rule, no_rule, rule_of, by_anchors}
use Rattle.rules.specs.Verdict.{choice_at, inequalities}
use Rattle.rules.specs.declared.kinds.Kind.{Kind}
use Rattle.rules.specs.declared.sizes.Configuration.{Configuration}
use Rattle.rules.specs.declared.sizes.Constraint.{Constraint}
use Rattle.rules.proofs.KindRule.{kind_at, kinds_rule, before_kinds, past_kinds}
use Rattle.verdict.specs.Found.{Finding, fails, finding_of}

-- ---- a record over the choices of its two rows

module _ (c : Constraint) (one two : Configuration) where
  abbrev inequalities_of : Kind → List Inequality
  inequalities_of row = by_anchors row c.low c.high c.connection one two

  abbrev found : Finding
  found = finding_of (rule_of c.kind c.low c.high c.connection one two)

  -- by another rule for its kind
  other : (rule : Rule) → rule_of c.kind ≡ rule → finding_of (rule c.low c.high c.connection one two) ≡ found
  other rule e = sym (ap (λ (r : Rule). finding_of (r c.low c.high c.connection one two)) e)

  pub no_kind_lem : c.kind < headway → fails 1 1 ≡ found
  no_kind_lem h = other no_rule (before_kinds c.kind h)

  pub no_such_kind : connection < c.kind → fails 1 1 ≡ found
  no_such_kind h = other no_rule (past_kinds c.kind h)

  -- row is what was read, v what was found of it
  pub by_table_lem : 1 ≤ c.kind → c.kind ≤ connection → (row : Kind) → row ≡ kind_at (c.kind - 1) → (v : Finding) → v ≡ finding_of (inequalities_of row) → v ≡ found
  by_table_lem l h row er v ev =
      let e : suc (c.kind - 1) ≡ c.kind = omega arith in
      ev
      ∙ ap (λ (k : Kind). finding_of (inequalities_of k)) er
      ∙ ap finding_of (kinds_rule c.low c.high c.connection one two (c.kind - 1))
      ∙ ap (λ k. finding_of (rule_of k c.low c.high c.connection one two)) e

-- one and two are the choices that s has for its rows
pub by_choices : (s : List Configuration) (c : Constraint) (one two : Configuration) → one ≡ choice_at s c.first → two ≡ choice_at s c.second
    → (v : Finding) → v ≡ finding_of (rule_of c.kind c.low c.high c.connection one two) → v ≡ finding_of (inequalities s c)
by_choices s c one two e₁ e₂ v ev =
    ev ∙ ap₂ (λ (x : Configuration) (y : Configuration). finding_of (rule_of c.kind c.low c.high c.connection x y)) e₁ e₂
