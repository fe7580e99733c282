-- The table that the legs' samples are added into, leg after leg, is the curve table of its window of seconds. Assumes nothing.
use Prim.Native.Nat.{ℕ, zero, suc, ◌+◌, ◌*◌, ◌-◌, ◌/◌, ◌%◌, ◌≤◌, ◌<◌}
use native.Mathlib.Omega.{arith}
use native.Mathlib.Nat.{mul-le-mul_right, mod-lt, div-add-mod', div-lt_iff_lt-mul, add-zero}
use mathlib.Core.Path.{◌≡◌, refl, sym, ap, ap₂, ◌∙◌, subst}
use mathlib.Core.Bool.{Bool, true, false, cond, ◌&&◌, and-false}
use mathlib.Core.List.{List, [], ◌∷◌}
use lib.Dec.{leb, ltb, eqb}
use lib.ListN.{length, get_or, drop, length-set, replicate, length-replicate, get_or-replicate}
use lib.Seq.{get_or-set_same, get_or-set_other, ext_get_or}
use lib.IntN.{ℤ, pos, ◌+ℤ◌, +ℤ_idl, +ℤ_idr, +ℤ_assoc}
use borrow.Author.Tests.{leb-true, ltb-true, ltb-false, eqb-true, eqb-false, le-leb, lt-leb, lt-ltb, le-ltb, ne_eqb}
use Rattle.rules.specs.Verdict.{All}
use Rattle.rules.specs.Energy.{leg_at, is_home, power, curves_in}
use Rattle.rules.specs.declared.sizes.Configuration.{Configuration}
use Rattle.rules_theorems.specs.Sized.{Powered, Sized}
use Rattle.rules_theorems.specs.Laying.{add_at, in_window, laid_one, laid_run, laid_home, laid_all}
use Rattle.rules_theorems.proofs.Runs.{run_at, leg_is-run, run-first}
use Rattle.rules_theorems.proofs.Tabulate.{tabulate-length, tabulate-at}
use Rattle.std.specs.Prelude.{Option, Some, None}

-- ---- one number

add_length : (P : List ℤ) (i : ℕ) (x : ℤ) → length (add_at P i x) ≡ length P
add_length P i x = length-set P i (get_or P i (pos 0) +ℤ x)

-- two places of a table of rows of one size are one place only where row and column are the same
place_row : (size u s i j : ℕ) → i < size → j < size → u * size + i ≡ s * size + j → u ≡ s
place_row size u s i j hi hj e = go (ltb u s) refl (ltb s u) refl
  where
    go : (a : Bool) → ltb u s ≡ a → (b : Bool) → ltb s u ≡ b → u ≡ s
    go true e₁ b e₂ = absurd (less (mul-le-mul_right size (ltb-true u s e₁)))
      where
        less : suc u * size ≤ s * size → ⊥
        less h = omega arith
    go false e₁ true e₂ = absurd (less (mul-le-mul_right size (ltb-true s u e₂)))
      where
        less : suc s * size ≤ u * size → ⊥
        less h = omega arith
    go false e₁ false e₂ = omega (arith, ltb-false u s e₁, ltb-false s u e₂)

positive : (n size : ℕ) {i : ℕ} → i < n * size → 0 < size
positive n zero h = omega arith
positive n (suc size) h = omega arith

module _ (from size : ℕ) where
  one_length : (u t : ℕ) (x : ℤ) (P : List ℤ) → length (laid_one from size u t x P) ≡ length P
  one_length u t x P = go (in_window from size t)
    where
      go : (b : Bool) → length (cond b (add_at P (u * size + (t - from)) x) P) ≡ length P
      go true = add_length P (u * size + (t - from)) x
      go false = refl

  -- a sample is added at its own subnet and second, and nowhere else
  one_at : (u t : ℕ) (x : ℤ) (P : List ℤ) (s j : ℕ) → u * size + size ≤ length P → j < size
      → get_or (laid_one from size u t x P) (s * size + j) (pos 0)
      ≡ get_or P (s * size + j) (pos 0) +ℤ cond (eqb u s) (cond (eqb t (from + j)) x (pos 0)) (pos 0)
  one_at u t x P s j room h = go (eqb u s) refl (eqb t (from + j)) refl
    where
      here : ℤ
      here = get_or P (s * size + j) (pos 0)

      -- elsewhere
      other : (u * size + (t - from) ≡ s * size + j → leb from t ≡ true → ltb t (from + size) ≡ true → ⊥)
          → get_or (laid_one from size u t x P) (s * size + j) (pos 0) ≡ here +ℤ pos 0
      other apart = out (leb from t) refl (ltb t (from + size)) refl
        where
          out : (a : Bool) → leb from t ≡ a → (b : Bool) → ltb t (from + size) ≡ b
              → get_or (cond (a && b) (add_at P (u * size + (t - from)) x) P) (s * size + j) (pos 0) ≡ here +ℤ pos 0
          out true e₁ true e₂ =
              get_or-set_other P (u * size + (t - from)) (s * size + j) (get_or P (u * size + (t - from)) (pos 0) +ℤ x) (pos 0) (λ e. apart (sym e) e₁ e₂)
              ∙ sym (+ℤ_idr here)
          out true e₁ false e₂ = sym (+ℤ_idr here)
          out false e₁ b e₂ = sym (+ℤ_idr here)

      go : (a : Bool) → eqb u s ≡ a → (b : Bool) → eqb t (from + j) ≡ b
          → get_or (laid_one from size u t x P) (s * size + j) (pos 0) ≡ here +ℤ cond a (cond b x (pos 0)) (pos 0)
      go true e true e' =
          let p : u * size + (t - from) ≡ s * size + j = ap (λ v. v * size + (t - from)) (eqb-true u s e) ∙ column in
          rw (le-leb from t (omega (arith, eqb-true t (from + j) e')), lt-ltb t (from + size) (omega (arith, eqb-true t (from + j) e')), p)
          (get_or-set_same P (s * size + j) (here +ℤ x) (pos 0) (omega (arith, p, eqb-true t (from + j) e')))
        where
          column : s * size + (t - from) ≡ s * size + j
          column = omega (arith, eqb-true t (from + j) e')
      go true e false e' = other (λ p e₁ e₂. eqb-false t (from + j) e' (same p e₁))
        where
          same : u * size + (t - from) ≡ s * size + j → leb from t ≡ true → t ≡ from + j
          same p e₁ = omega (arith, leb-true from t e₁, p, ap (λ v. v * size) (eqb-true u s e))
      go false e b e' =
          other (λ p e₁ e₂. eqb-false u s e (place_row size u s (t - from) j (inner e₁ e₂) h p))
        where
          inner : leb from t ≡ true → ltb t (from + size) ≡ true → t - from < size
          inner e₁ e₂ = omega (arith, leb-true from t e₁, ltb-true t (from + size) e₂)

  -- ---- one run

  pub run_length : (u t : ℕ) (xs P : List ℤ) → length (laid_run from size u t xs P) ≡ length P
  run_length u t [] P = refl
  run_length u t (x ∷ xs) P = run_length u (suc t) xs (laid_one from size u t x P) ∙ one_length u t x P

  -- each entry gets what the run takes at its second
  pub run-at : (u t : ℕ) (xs P : List ℤ) (s j : ℕ) → u * size + size ≤ length P → j < size
      → get_or (laid_run from size u t xs P) (s * size + j) (pos 0)
      ≡ get_or P (s * size + j) (pos 0) +ℤ cond (eqb u s) (run_at t xs (from + j)) (pos 0)
  run-at u t [] P s j room h = sym (ap (λ z. get_or P (s * size + j) (pos 0) +ℤ z) (nothing (eqb u s) (leb t (from + j))) ∙ +ℤ_idr (get_or P (s * size + j) (pos 0)))
    where
      nothing : (a b : Bool) → cond a (cond b (pos 0) (pos 0)) (pos 0) ≡ pos 0
      nothing true true = refl
      nothing true false = refl
      nothing false b = refl
  run-at u t (x ∷ xs) P s j room h =
      run-at u (suc t) xs (laid_one from size u t x P) s j (omega (arith, one_length u t x P)) h
      ∙ ap (λ z. z +ℤ cond (eqb u s) (run_at (suc t) xs (from + j)) (pos 0)) (one_at u t x P s j room h)
      ∙ +ℤ_assoc here (cond (eqb u s) (cond (eqb t (from + j)) x (pos 0)) (pos 0)) (cond (eqb u s) (run_at (suc t) xs (from + j)) (pos 0))
      ∙ ap (λ z. here +ℤ z) (joined (eqb u s) (eqb t (from + j)) refl)
      ∙ ap (λ z. here +ℤ cond (eqb u s) z (pos 0)) (sym (run-first t x xs (from + j)))
    where
      here : ℤ
      here = get_or P (s * size + j) (pos 0)

      joined : (a b : Bool) → eqb t (from + j) ≡ b
          → cond a (cond b x (pos 0)) (pos 0) +ℤ cond a (run_at (suc t) xs (from + j)) (pos 0) ≡ cond a (cond b x (run_at (suc t) xs (from + j))) (pos 0)
      joined false b e = refl
      joined true true e = rw (lt-leb (suc t) (from + j) (omega (arith, eqb-true t (from + j) e))) (+ℤ_idr x)
      joined true false e = +ℤ_idl (run_at (suc t) xs (from + j))

  -- the samples before the window, and those past it, may be passed over
  pub run_skip : (k u t : ℕ) (xs P : List ℤ) → t + k ≤ from → laid_run from size u t xs P ≡ laid_run from size u (t + k) (drop k xs) P
  run_skip zero u t xs P h = rw (add-zero t)
  run_skip (suc k) u t [] P h = refl
  run_skip (suc k) u t (x ∷ xs) P h =
      let e : t + suc k ≡ suc t + k = omega arith in
      rw (lt-leb from t (omega arith), e) (run_skip k u (suc t) xs P (omega arith))

  pub run_past : (u t : ℕ) (xs P : List ℤ) → from + size ≤ t → laid_run from size u t xs P ≡ P
  run_past u t [] P h = refl
  run_past u t (x ∷ xs) P h =
      rw (le-ltb t (from + size) h, and-false (leb from t)) (run_past u (suc t) xs P (omega arith))

  pub one_in : (u t : ℕ) (x : ℤ) (P : List ℤ) → from ≤ t → t < from + size → laid_one from size u t x P ≡ add_at P (u * size + (t - from)) x
  one_in u t x P h k = rw (le-leb from t h, lt-ltb t (from + size) k)

  -- ---- all legs

  module _ (samples : ℕ → List ℤ) (n : ℕ) where
    pub home_length : (u : Option ℕ) (t : ℕ) (xs P : List ℤ) → length (laid_home from size n u t xs P) ≡ length P
    home_length None t xs P = refl
    home_length (Some u) t xs P = go (ltb u n)
      where
        go : (b : Bool) → length (cond b (laid_run from size u t xs P) P) ≡ length P
        go true = run_length u t xs P
        go false = refl

    pub all_length : (homes : List (Option ℕ)) (cs : List Configuration) (P : List ℤ) → length (laid_all from size samples n homes cs P) ≡ length P
    all_length [] cs P = refl
    all_length (u ∷ us) [] P = refl
    all_length (u ∷ us) (c ∷ cs) P =
        all_length us cs (laid_home from size n u c.departure (samples c.profile) P)
        ∙ home_length u c.departure (samples c.profile) P

    leg-at : (u : Option ℕ) (c : Configuration) (P : List ℤ) (s j : ℕ) → Powered samples c → length P ≡ n * size → s < n → j < size
        → get_or (laid_home from size n u c.departure (samples c.profile) P) (s * size + j) (pos 0)
        ≡ get_or P (s * size + j) (pos 0) +ℤ cond (is_home samples u s) (leg_at samples c (from + j)) (pos 0)
    leg-at None c P s j p l hs h = sym (+ℤ_idr (get_or P (s * size + j) (pos 0)))
    leg-at (Some u) c P s j p l hs h = go (ltb u n) refl
      where
        xs : List ℤ
        xs = samples c.profile

        here : ℤ
        here = get_or P (s * size + j) (pos 0)

        go : (b : Bool) → ltb u n ≡ b
            → get_or (cond b (laid_run from size u c.departure xs P) P) (s * size + j) (pos 0) ≡ here +ℤ cond (eqb u s) (leg_at samples c (from + j)) (pos 0)
        go true e =
            run-at u c.departure xs P s j (omega (arith, l, mul-le-mul_right size (ltb-true u n e))) h
            ∙ ap (λ z. here +ℤ cond (eqb u s) z (pos 0)) (sym (leg_is-run samples c (from + j) p.counted))
        go false e = rw (ne_eqb u s (apart (ltb-false u n e))) (sym (+ℤ_idr here))
          where
            apart : n ≤ u → u ≡ s → ⊥
            apart k q = omega arith

    pub all_at : (homes : List (Option ℕ)) (cs : List Configuration) (P : List ℤ) (s j : ℕ) → All (Powered samples) cs → length P ≡ n * size → s < n → j < size
        → get_or (laid_all from size samples n homes cs P) (s * size + j) (pos 0) ≡ get_or P (s * size + j) (pos 0) +ℤ power samples homes cs s (from + j)
    all_at [] cs P s j p l hs h = sym (+ℤ_idr (get_or P (s * size + j) (pos 0)))
    all_at (u ∷ us) [] P s j p l hs h = sym (+ℤ_idr (get_or P (s * size + j) (pos 0)))
    all_at (u ∷ us) (c ∷ cs) P s j p l hs h =
        all_at us cs (laid_home from size n u c.departure (samples c.profile) P) s j p.1 (home_length u c.departure (samples c.profile) P ∙ l) hs h
        ∙ ap (λ z. z +ℤ power samples us cs s (from + j)) (leg-at u c P s j p.0 l hs h)
        ∙ +ℤ_assoc (get_or P (s * size + j) (pos 0)) (cond (is_home samples u s) (leg_at samples c (from + j)) (pos 0)) (power samples us cs s (from + j))

    -- from a table of zeros, leg after leg: the curves, subnet by subnet
    pub curves-laid : (homes : List (Option ℕ)) (cs : List Configuration) → Sized samples cs
        → laid_all from size samples n homes cs (replicate (n * size) (pos 0)) ≡ curves_in samples from size n homes cs
    curves-laid homes cs sized = ext_get_or (pos 0) table (curves_in samples from size n homes cs) (len ∙ sym (tabulate-length (n * size) P)) at
      where
        zeros : List ℤ
        zeros = replicate (n * size) (pos 0)

        table : List ℤ
        table = laid_all from size samples n homes cs zeros

        P : ℕ → ℤ
        P i = power samples homes cs (i / size) (from + i % size)

        len : length table ≡ n * size
        len = all_length homes cs zeros ∙ length-replicate (n * size) (pos 0)

        at : (i : ℕ) → i < length table → get_or table i (pos 0) ≡ get_or (curves_in samples from size n homes cs) i (pos 0)
        at i h =
            let k : i < n * size = subst (λ m. i < m) len h in
            let w : 0 < size = positive n size k in
            let e : i / size * size + i % size ≡ i = div-add-mod' i size in
            ap (λ m. get_or table m (pos 0)) (sym e)
            ∙ all_at homes cs zeros (i / size) (i % size) sized.powered (length-replicate (n * size) (pos 0)) ((div-lt_iff_lt-mul w).1 k) (mod-lt i w)
            ∙ ap (λ m. get_or zeros m (pos 0) +ℤ P i) e
            ∙ ap (λ z. z +ℤ P i) (get_or-replicate (n * size) i (pos 0) (pos 0) k)
            ∙ +ℤ_idl (P i)
            ∙ sym (tabulate-at (n * size) P (pos 0) i k)

    -- where P(s, from + j) stands in the table
    pub curves-at : (homes : List (Option ℕ)) (cs : List Configuration) (s j : ℕ) → s < n → j < size
        → get_or (curves_in samples from size n homes cs) (s * size + j) (pos 0) ≡ power samples homes cs s (from + j)
    curves-at homes cs s j hs h =
        let i : ℕ = s * size + j in
        let k : i < n * size = omega (arith, mul-le-mul_right size hs) in
        let e : i / size * size + i % size ≡ i = div-add-mod' i size in
        let row : i / size ≡ s = place_row size (i / size) s (i % size) j (mod-lt i (omega arith)) h e in
        let column : i % size ≡ j = omega (arith, ap (λ v. v * size) row) in
        tabulate-at (n * size) (λ i. power samples homes cs (i / size) (from + i % size)) (pos 0) i k
        ∙ ap₂ (λ u r. power samples homes cs u (from + r)) row column
