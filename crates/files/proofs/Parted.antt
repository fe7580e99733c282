-- A part that is refused, and one that is read. Assumes nothing.
use Prim.Native.Nat.{ℕ}
use mathlib.Core.Path.{◌≡◌, refl, sym, ◌∙◌}
use native.Mathlib.Omega.{arith}
use Rattle.rules.specs.Answers.{Reading, refused, good}
use Rattle.rules.specs.declared.answers.Refusal.{Refusal}
use Rattle.rules_theorems.proofs.GoodText.{never_good}
use Rattle.tables_lent.specs.declared.Counts.{Counts}
use Rattle.tables_lent.specs.Filing.{filed_by}
use Rattle.files.specs.Parts.{Part}
use Rattle.std.specs.Prelude.{Result, Ok, Err}

-- what was read, by a reader's answer that is told of no refusal
pub record WasRead {A B : Type 0} (tell : Reading A → B) (answer : B) (read : Reading A) : Type 0 where
  pub what : A
  pub was : read ≡ good what
  pub told : answer ≡ tell (good what)

pub was_read : {A B : Type 0} (tell : Reading A → B) (answer : B) → ((r : Refusal) → answer ≡ tell (refused r) → ⊥) → (read : Reading A) → answer ≡ tell read → WasRead tell answer read
was_read tell answer other (refused r) e = absurd (other r e)
was_read tell answer other (good x) e = record { what = x; was = refl; told = e }

-- what a part read, by its answer
pub record WasGood {A : Type 0} (read : Reading A) (counts : A → Counts) (Written : A → Type 0) (k : Counts) : Type 0 where
  pub what : A
  pub was : read ≡ good what
  pub counted : k ≡ counts what
  pub there : Written what

module _ {A : Type 0} {read : Reading A} {counts : A → Counts} {Written : A → Type 0} where
  pub part_refused : (r : Refusal) → read ≡ refused r → Part read counts Written (Err r)
  part_refused r e = record { answers = rw e; writes = λ x g. never_good r x (sym e ∙ g) }

  pub part_good : {k : Counts} (x : A) → read ≡ good x → k ≡ counts x → Written x → Part read counts Written (Ok k)
  part_good x e q w = record { answers = rw (e, q); writes = λ y g. let same : x ≡ y = cc in rw (← same) w }

  pub whole_good : (a : Result Counts Refusal) (k : Counts) → Part read counts Written a → a ≡ Ok k → WasGood read counts Written k
  whole_good a k p e = go read refl (sym e ∙ p.answers)
    where
      go : (o : Reading A) → read ≡ o → Ok k ≡ filed_by counts o → WasGood read counts Written k
      go (refused r) q f = let z : ◌≡◌ {A = ℕ} 0 1 = cc in absurd (omega arith)
      go (good x) q f = record { what = x; was = q; counted = cc; there = p.writes x q }

  pub refused_refused : (a : Result Counts Refusal) (r : Refusal) → Part read counts Written a → a ≡ Err r → read ≡ refused r
  refused_refused a r p e = go read refl (sym e ∙ p.answers)
    where
      go : (o : Reading A) → read ≡ o → Err r ≡ filed_by counts o → read ≡ refused r
      go (refused s) q f = let same : r ≡ s = cc in rw same q
      go (good x) q f = let z : ◌≡◌ {A = ℕ} 0 1 = cc in absurd (omega arith)
