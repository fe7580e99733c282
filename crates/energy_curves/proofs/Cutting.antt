-- A run cut to a window: the samples before it and past it are passed over, and those within are added one place after the other. Assumes nothing.
use Prim.Native.Nat.{ℕ, zero, suc, ◌+◌, ◌*◌, ◌-◌, ◌≤◌, ◌<◌, min}
use native.Mathlib.Omega.{arith}
use native.Mathlib.Nat.{add-zero, min-le_left, min-le_right}
use mathlib.Core.Path.{◌≡◌, refl, sym, ap, ap₂, ◌∙◌}
use mathlib.Core.Bool.{Bool, true, false}
use mathlib.Core.List.{List, [], ◌∷◌}
use lib.Dec.{leb, ltb}
use lib.ListN.{length, take, drop, length-take, length-drop, drop_of_length-le}
use lib.Seq.{take_all, take-length, take-nil}
use lib.IntN.{ℤ, nat_abs}
use borrow.Author.Tests.{leb-true, leb-false, ltb-true, ltb-false}
use Rattle.rules.specs.Verdict.{All}
use Rattle.rules.specs.Limits.{most_kw}
use Rattle.rules_theorems.specs.Laying.{add_at, laid_run}
use Rattle.rules_theorems.proofs.Laying.{run_skip, run_past, one_in}
use Rattle.energy_curves.specs.Room.{added_from, AddRoom, WindowRoom}

-- ---- lists

-- no more than there are
pub take_cut : {A : Type 0} (n : ℕ) (xs : List A) → take (min (length xs) n) xs ≡ take n xs
take_cut {A} n xs = go (leb (length xs) n) refl
  where
    go : (b : Bool) → leb (length xs) n ≡ b → take (min (length xs) n) xs ≡ take n xs
    go true e =
        let m : min (length xs) n ≡ length xs = omega (arith, leb-true (length xs) n e) in
        rw m (take-length xs) ∙ sym (take_all n xs (leb-true (length xs) n e))
    go false e =
        let m : min (length xs) n ≡ n = omega (arith, leb-false (length xs) n e) in
        rw m

module _ {A : Type 0} (Q : A → Type 0) where
  pub all_take : (n : ℕ) (xs : List A) → All Q xs → All Q (take n xs)
  all_take zero xs h = tt
  all_take (suc n) [] h = tt
  all_take (suc n) (x ∷ xs) h = (h.0, all_take n xs h.1)

  pub all_drop : (n : ℕ) (xs : List A) → All Q xs → All Q (drop n xs)
  all_drop zero xs h = h
  all_drop (suc n) [] h = tt
  all_drop (suc n) (x ∷ xs) h = all_drop n xs h.1

-- ---- places, of n samples from second s on

-- a sample that is not the last before second f falls on it or past it
falls_past : (n s f a : ℕ) → a ≡ min n (f - s) → a < n → f ≤ s + a
falls_past n s f a h l = omega arith

less_both : (n m a : ℕ) → min n m - a ≡ min (n - a) (m - a)
less_both n m a = omega arith

apart : (w s a : ℕ) → w - s - a ≡ w - (s + a)
apart w s a = omega arith

-- a part that ends by the window's end is no longer than what is left of it
part_short : (s f z a e : ℕ) → f ≤ s + a → a < e → e ≤ f + z - s → s + a - f + (e - a) ≤ z
part_short s f z a e h l k = omega arith

part-fits : (k b m r z P : ℕ) → m ≤ r → b + r ≤ z → k + z ≤ P → k + b + m ≤ P
part-fits k b m r z P hm hr h_p = omega arith

-- ---- one run, from second `start` on

module _ (from size u : ℕ) where
  -- within the window, up to its end
  inside : (t : ℕ) (xs P : List ℤ) → from ≤ t → laid_run from size u t xs P ≡ added_from (u * size + (t - from)) (take (from + size - t) xs) P
  inside t [] P h = sym (ap (λ ys. added_from (u * size + (t - from)) ys P) (take-nil (from + size - t)))
  inside t (x ∷ xs) P h = go (ltb t (from + size)) refl (inside (suc t) xs (add_at P (u * size + (t - from)) x) (omega arith))
    where
      go : (b : Bool) → ltb t (from + size) ≡ b
          → laid_run from size u (suc t) xs (add_at P (u * size + (t - from)) x)
          ≡ added_from (u * size + (suc t - from)) (take (from + size - suc t) xs) (add_at P (u * size + (t - from)) x)
          → laid_run from size u t (x ∷ xs) P ≡ added_from (u * size + (t - from)) (take (from + size - t) (x ∷ xs)) P
      go true e ih =
          let left : from + size - t ≡ suc (from + size - suc t) = omega (arith, ltb-true t (from + size) e) in
          let next : u * size + (suc t - from) ≡ suc (u * size + (t - from)) = omega arith in
          ap (laid_run from size u (suc t) xs) (one_in from size u t x P h (ltb-true t (from + size) e))
          ∙ ih
          ∙ ap (λ i. added_from i (take (from + size - suc t) xs) (add_at P (u * size + (t - from)) x)) next
          ∙ sym (ap (λ n. added_from (u * size + (t - from)) (take n (x ∷ xs)) P) left)
      go false e ih =
          let none_left : from + size - t ≡ 0 = omega (arith, ltb-false t (from + size) e) in
          run_past from size u t (x ∷ xs) P (ltb-false t (from + size) e)
          ∙ sym (ap (λ n. added_from (u * size + (t - from)) (take n (x ∷ xs)) P) none_left)

  skipped : (a start : ℕ) (xs P : List ℤ) → a ≤ from - start → laid_run from size u start xs P ≡ laid_run from size u (start + a) (drop a xs) P
  skipped zero start xs P h = sym (ap (λ t. laid_run from size u t xs P) (add-zero start))
  skipped (suc a) start xs P h = run_skip from size (suc a) u start xs P (omega arith)

  module _ (start : ℕ) (xs P : List ℤ) (a e : ℕ) (ha : a ≡ min (length xs) (from - start)) (he : e ≡ min (length xs) (from + size - start)) where
    past : a < e → from ≤ start + a
    past h = falls_past (length xs) start from a ha (below_all (length xs) (from + size - start) e he h)
      where
        below_all : (n m e : ℕ) → e ≡ min n m → a < e → a < n
        below_all n m e k h = omega arith

    -- some samples fall into the window
    pub run_cut : a < e → (P' : List ℤ) → P' ≡ added_from (u * size + (start + a - from)) (take (e - a) (drop a xs)) P
        → P' ≡ laid_run from size u start xs P
    run_cut h P' added =
        added
        ∙ ap (λ ys. added_from (u * size + (start + a - from)) ys P) (ap (λ n. take n (drop a xs)) within ∙ take_cut (from + size - (start + a)) (drop a xs))
        ∙ sym (skipped a start xs P (omega arith) ∙ inside (start + a) (drop a xs) P (past h))
      where
        within : e - a ≡ min (length (drop a xs)) (from + size - (start + a))
        within =
            ap (λ k. k - a) he
            ∙ less_both (length xs) (from + size - start) a
            ∙ ap₂ min (sym (length-drop a xs)) (apart (from + size) start a)

    -- none does
    pub run_outside : e ≤ a → P ≡ laid_run from size u start xs P
    run_outside h = sym (skipped a start xs P (omega arith) ∙ go (leb (length xs) a) refl)
      where
        go : (b : Bool) → leb (length xs) a ≡ b → laid_run from size u (start + a) (drop a xs) P ≡ P
        go true k = ap (λ ys. laid_run from size u (start + a) ys P) (drop_of_length-le xs (leb-true (length xs) a k))
        go false k = run_past from size u (start + a) (drop a xs) P (omega (arith, leb-false (length xs) a k))

    -- there is room for those that fall into it
    pub cut_room : WindowRoom from size u P xs → a < e
        → (u * size + (start + a - from) + length (take (e - a) (drop a xs)) ≤ length P) × AddRoom P (take (e - a) (drop a xs))
    cut_room r h = (
      part-fits (u * size) (start + a - from) (length (take (e - a) (drop a xs))) (e - a) size (length P) short (part_short start from size a e (past h) h by_end) r.row,
      record {
        low = r.add.low;
        moderate = all_take (λ x. nat_abs x ≤ most_kw) (e - a) (drop a xs) (all_drop (λ x. nat_abs x ≤ most_kw) a xs r.add.moderate);
      },
    )
      where
        short : length (take (e - a) (drop a xs)) ≤ e - a
        short = rw (length-take (e - a) (drop a xs)) (min-le_left (e - a) (length (drop a xs)))

        by_end : e ≤ from + size - start
        by_end = rw he (min-le_right (length xs) (from + size - start))
