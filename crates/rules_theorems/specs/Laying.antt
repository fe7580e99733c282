-- How the curve table is made in place, over the seconds from .. from + size - 1: leg after leg, each sample whose second lies in the window is added.
use Rattle.std.specs.Prelude.{ℕ, suc, ◌+◌, ◌*◌, ◌-◌, ◌≤◌, Bool, cond, ◌&&◌, List, [], ◌∷◌, leb, ltb, get_or, set, ℤ, pos, ◌+ℤ◌, nat_abs, Option, Some, None}
use Rattle.rules.specs.Limits.{most_kw}
use Rattle.rules.specs.declared.sizes.Configuration.{Configuration}

abbrev pub add_at : List ℤ → ℕ → ℤ → List ℤ
add_at P i x = set P i (get_or P i (pos 0) +ℤ x)

module _ (from size : ℕ) where
  abbrev pub in_window : ℕ → Bool
  in_window t = leb from t && ltb t (from + size)

  -- one sample, of subnet u at second t
  abbrev pub laid_one : (u t : ℕ) → ℤ → List ℤ → List ℤ
  laid_one u t x P = cond (in_window t) (add_at P (u * size + (t - from)) x) P

  -- the samples of a run in subnet u, from second t on
  abbrev pub laid_run : (u t : ℕ) → List ℤ → List ℤ → List ℤ
  laid_run u t [] P = P
  laid_run u t (x ∷ xs) P = laid_run u (suc t) xs (laid_one u t x P)

  -- a run whose home is none of the n subnets adds nothing
  abbrev pub laid_home : (n : ℕ) → Option ℕ → (t : ℕ) → List ℤ → List ℤ → List ℤ
  laid_home n None t xs P = P
  laid_home n (Some u) t xs P = cond (ltb u n) (laid_run u t xs P) P

  abbrev pub laid_all : (ℕ → List ℤ) → (n : ℕ) → List (Option ℕ) → List Configuration → List ℤ → List ℤ
  laid_all samples n [] cs P = P
  laid_all samples n (u ∷ us) [] P = P
  laid_all samples n (u ∷ us) (c ∷ cs) P =
      laid_all samples n us cs (laid_home n u c.departure (samples c.profile) P)

-- ---- how great the numbers are while the table is made

-- no number is past b
abbrev pub Within : ℕ → List ℤ → Type 0
Within b P = (i : ℕ) → nat_abs (get_or P i (pos 0)) ≤ b

-- a run is being added to numbers within b: those from place i on are as they were
pub record Rising (b i : ℕ) (P : List ℤ) : Type 0 where
  pub all : Within (b + most_kw) P
  pub ahead : (k : ℕ) → i ≤ k → nat_abs (get_or P k (pos 0)) ≤ b
