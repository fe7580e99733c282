-- A signed number that is small enough fits its width. Assumes nothing.
use Prim.Native.Nat.{◌≤◌, ◌<◌, ◌^◌}
use native.Mathlib.Omega.{arith}
use lib.IntN.{ℤ, pos, negsuc, nat_abs}
use lib.Signed.{mag}
use mir.Syntax.{w32, w64}
use mir.Val.{SFits}

mag_size : (z : ℤ) → mag z ≤ nat_abs z
mag_size (pos n) = omega arith
mag_size (negsuc n) = omega arith

pub fits-small : {z : ℤ} → nat_abs z < 2 ^ 31 → SFits w32 z
fits-small {z} h = record { sfits = omega (arith, mag_size z) }

pub fits_long : {z : ℤ} → nat_abs z < 2 ^ 63 → SFits w64 z
fits_long {z} h = record { sfits = omega (arith, mag_size z) }
