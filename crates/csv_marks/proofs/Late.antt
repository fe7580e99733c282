-- A byte may be left once: then contents follow. So a loop over bytes that are taken or left ends. Assumes nothing.
use Prim.Native.Nat.{ℕ, ◌≤◌}
use mathlib.Core.Path.{◌≡◌, refl}
use mathlib.Core.Bool.{true, false, true≢false, false≢true}
use native.Mathlib.Omega.{arith}
use Rattle.csv_marks.specs.declared.Mark.{Mark}
use Rattle.csv_marks.specs.declared.Mark.TheVariants.{Bare, Within, Behind, Returned}
use Rattle.csv_marks.specs.Turns.{takes}

abbrev pub late : Mark → ℕ
late Bare = 0
late Within = 0
late Behind = 1
late Returned = 1

pub late_most : (m : Mark) → late m ≤ 1
late_most Bare = omega arith
late_most Within = omega arith
late_most Behind = omega arith
late_most Returned = omega arith

pub late_open : (m : Mark) → takes m ≡ true → late m ≡ 0
late_open Bare t = refl
late_open Within t = refl
late_open Behind t = absurd (false≢true t)
late_open Returned t = absurd (false≢true t)

pub late_shut : (m : Mark) → takes m ≡ false → late m ≡ 1
late_shut Bare t = absurd (true≢false t)
late_shut Within t = absurd (true≢false t)
late_shut Behind t = refl
late_shut Returned t = refl
