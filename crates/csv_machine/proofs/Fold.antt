-- Laws of every machine that takes bytes one by one: a text in parts, and a loop over a text. Assumes nothing.
use Prim.Native.Nat.{ℕ, ◌+◌, ◌≤◌, ◌<◌}
use mathlib.Core.Path.{◌≡◌, refl}
use mathlib.Core.List.{List, [], ◌∷◌, ◌++◌, foldl}
use native.Mathlib.Numerals.{add-one}
use lib.ListN.{length, get_or, drop, drop_of_length-le}
use lib.Seq.{drop-cons}
use Rattle.rules.specs.Lists.{◌>>=◌, flat}
use Rattle.csv_machine.specs.Fold.{fold, run}
use Rattle.std.specs.Prelude.{Option, Some, None}

-- the text that parts make, one after the other
abbrev pub whole : List (List ℕ) → List ℕ
whole = flat (λ part. part)

module _ {S : Type 0} (step : S → ℕ → S) where
  -- a text in two parts
  pub fold-append : (st : S) (s t : List ℕ) → fold step st (s ++ t) ≡ fold step (fold step st s) t
  fold-append st [] t = refl
  fold-append st (b ∷ s) t = fold-append (step st b) s t

  -- a text in any parts: how it is cut makes no difference
  pub fold_parts : (st : S) (parts : List (List ℕ)) → fold step st (whole parts) ≡ foldl (fold step) st parts
  fold_parts st [] = refl
  fold_parts st (part ∷ parts) = rw (fold-append st part (whole parts)) (fold_parts (fold step st part) parts)

  -- a loop's turn: what is left from i on is the byte at i, and then what is left from i + 1 on
  pub fold-drop : (st : S) (s : List ℕ) (i : ℕ) → i < length s → fold step st (drop i s) ≡ fold step (step st (get_or s i 0)) (drop (i + 1) s)
  fold-drop st s i h = rw (add-one, drop-cons s i 0 h)

  -- a loop's end: nothing is left
  pub fold_end : (st : S) (s : List ℕ) (i : ℕ) → length s ≤ i → fold step st (drop i s) ≡ st
  fold_end st s i h = rw (drop_of_length-le s h)

module _ {S : Type 0} (step : S → ℕ → Option S) where
  -- a text in two parts, for a machine that may stop
  pub run-append : (st : S) (s t : List ℕ) → run step st (s ++ t) ≡ run step st s >>= (λ next. run step next t)
  run-append st [] t = refl
  run-append st (b ∷ s) t = go (step st b) (λ next. run-append next s t)
    where
      go : (o : Option S) → ((next : S) → run step next (s ++ t) ≡ run step next s >>= (λ last. run step last t))
          → o >>= (λ next. run step next (s ++ t)) ≡ o >>= (λ next. run step next s) >>= (λ next. run step next t)
      go None rest = refl
      go (Some next) rest = rest next
