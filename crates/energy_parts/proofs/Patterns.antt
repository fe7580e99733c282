-- A double that differs from itself is no number. Assumes nothing.
use mathlib.Core.Path.{◌≡◌, sym, subst, ◌∙◌}
use mathlib.Core.Bool.{true, false, not, true≢false}
use lib.Dec.{T}
use lib.Ieee.{Float, nan, inf, fin, binary64, ne, is_nan, to_bits}
use lib.Ieee.Compare.{differs_from_itself, nan_differs}

pub no_number_lem : (x : Float) → ne x x ≡ true → to_bits binary64 nan ≡ to_bits binary64 x
no_number_lem x e = rw (differs_from_itself x (subst T (sym e) tt))

pub number : (x : Float) → ne x x ≡ false → T (not (is_nan x))
unfolding is_nan
number nan e = absurd (true≢false (sym nan_differs ∙ e))
number (inf s) e = tt
number (fin s m d) e = tt
