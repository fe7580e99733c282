-- What was read, by the answer; and a refusal by its three numbers. Assumes nothing.
use Prim.Native.Nat.{ℕ}
use mathlib.Core.Path.{◌≡◌, refl, sym}
use native.Mathlib.Omega.{arith}
use Rattle.rules.specs.Answers.{refusal, Reading, refused, good}
use Rattle.rules.specs.Reading.{Files}
use Rattle.rules.specs.declared.answers.Refusal.{Refusal}
use Rattle.tables_lent.specs.declared.Counts.{Counts}
use Rattle.tables_lent.specs.Filing.{counts_of, filed_of}
use Rattle.std.specs.Prelude.{Ok, Err}

-- a refusal by its three numbers
pub same-refusal : {A : Type 0} (r : Refusal) {number file place : ℕ} → number ≡ r.number → r.file ≡ file → place ≡ r.place
    → ◌≡◌ {A = Reading A} (refused r) (refused (refusal number file place))
same-refusal r n f p i = refused (record { number = sym n i; file = f i; place = sym p i })

-- the files, and that the counts are theirs
pub record WasFiled (o : Reading Files) (k : Counts) : Type 0 where
  pub files : Files
  pub was : o ≡ good files
  pub counted : k ≡ counts_of files

pub was_filed : (o : Reading Files) (k : Counts) → Ok k ≡ filed_of o → WasFiled o k
was_filed (refused r) k e = let z : ◌≡◌ {A = ℕ} 0 1 = cc in absurd (omega arith)
was_filed (good f) k e = record { files = f; was = refl; counted = cc }

pub not_filed : (o : Reading Files) (r : Refusal) → Err r ≡ filed_of o → o ≡ refused r
not_filed (refused s) r e = cc
not_filed (good f) r e = let z : ◌≡◌ {A = ℕ} 0 1 = cc in absurd (omega arith)
