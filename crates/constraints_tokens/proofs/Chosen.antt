-- A test that passes chooses the first of two, and one that fails the second. Assumes nothing.
use mathlib.Core.Path.{◌≡◌, sym, ◌∙◌}
use mathlib.Core.Bool.{Bool, true, false, cond}

-- t is what the code's test said, r what it was chosen for
module _ {A : Type 0} (x y : A) {r : A} {t b : Bool} (e : t ≡ b) where
  pub chosen : t ≡ true → r ≡ x → r ≡ cond b x y
  chosen is q = go b (sym e ∙ is)
    where
      go : (b : Bool) → b ≡ true → r ≡ cond b x y
      go true h = q
      go false h = cc

  pub passed : t ≡ false → r ≡ y → r ≡ cond b x y
  passed is q = go b (sym e ∙ is)
    where
      go : (b : Bool) → b ≡ false → r ≡ cond b x y
      go true h = cc
      go false h = q
