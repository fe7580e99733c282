-- Lists of which each element keeps something after those before it. Assumes nothing.
use Prim.Native.Nat.{ℕ}
use mathlib.Core.Path.{◌≡◌}
use mathlib.Core.Bool.{false, not}
use mathlib.Core.List.{List, [], ◌∷◌, ◌++◌, append-nil, append_assoc}
use lib.Dec.{T, eqb}
use borrow.Author.Tests.{eqb-false, not-true}
use Rattle.rules.specs.Lists.{any}
use Rattle.rules.specs.Verdict.{All}
use Rattle.rules.proofs.Truth.{is_true, all_map}
use Rattle.rules_theorems.specs.Lists.{EachAfter, Distinct}
use Rattle.rules_theorems.proofs.All.{none_passes, pairs_more}

module _ {A : Type 0} (P : List A → A → Type 0) where
  -- what holds of the elements before, and of one more after each, holds of all
  pub each_keeps : (Q : List A → Type 0) → ((before : List A) (x : A) → P before x → Q before → Q (before ++ x ∷ []))
      → (before xs : List A) → EachAfter P before xs → Q before → Q (before ++ xs)
  each_keeps Q step before [] h q = rw append-nil q
  each_keeps Q step before (x ∷ xs) h q = rw append_assoc at (each_keeps Q step (before ++ x ∷ []) xs h.1 (step before x h.0 q))

  -- what follows of each element by itself
  pub each_all : (Q : A → Type 0) → ((before : List A) (x : A) → P before x → Q x) → (before xs : List A) → EachAfter P before xs → All Q xs
  each_all Q f before [] h = tt
  each_all Q f before (x ∷ xs) h = (f before x h.0, each_all Q f (before ++ x ∷ []) xs h.1)

-- one thing follows from another
pub each_map : {A : Type 0} (P Q : List A → A → Type 0) → ((before : List A) (x : A) → P before x → Q before x) → (before xs : List A) → EachAfter P before xs → EachAfter Q before xs
each_map P Q f before [] h = tt
each_map P Q f before (x ∷ xs) h = (f before x h.0, each_map P Q f (before ++ x ∷ []) xs h.1)

-- two things of each
pub each_two : {A : Type 0} (P Q : List A → A → Type 0) (before xs : List A) → EachAfter P before xs → EachAfter Q before xs → EachAfter (λ b x. P b x × Q b x) before xs
each_two P Q before [] h k = tt
each_two P Q before (x ∷ xs) h k = ((h.0, k.0), each_two P Q (before ++ x ∷ []) xs h.1 k.1)

-- ---- keys of which none was seen before are distinct

pub new_distinct : {A : Type 0} (key : A → ℕ) (xs : List A) → EachAfter (λ before x. T (not (any (λ b. eqb (key b) (key x)) before))) [] xs → Distinct key xs
new_distinct {A = A} key xs new = each_keeps (λ before x. T (not (any (λ b. eqb (key b) (key x)) before))) (Distinct key) more [] xs new tt
  where
    more : (before : List A) (x : A) → T (not (any (λ b. eqb (key b) (key x)) before)) → Distinct key before → Distinct key (before ++ x ∷ [])
    more before x unseen distinct =
        pairs_more (λ a b. key a ≡ key b → ⊥) before x distinct
        (all_map (λ b. eqb (key b) (key x) ≡ false) (λ b. key b ≡ key x → ⊥) (λ b. eqb-false (key b) (key x)) before
        (none_passes (λ b. eqb (key b) (key x)) before (not-true _ (is_true _ unseen))))
