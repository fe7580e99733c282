-- The code's number stays near the machine's. Assumes nothing.
use Rattle.std.specs.Prelude.{Some, None}
use Prim.Native.Nat.{ℕ, ◌+◌, ◌*◌, ◌-◌, ◌≤◌, min}
use mathlib.Core.Path.{◌≡◌}
use native.Mathlib.Omega.{arith}
use borrow.Author.Tests.{eq-eqb, ne_eqb}
use Rattle.rules.specs.Bytes.{digit_zero, digit_nine}
use Rattle.rules.proofs.Numbers.{digit_in}
use Rattle.csv_machine.specs.Number.{empty, zero, digits}
use Rattle.profiles_row.specs.declared.number.Number.{Number}
use Rattle.profiles_row.specs.declared.number.Number.TheVariants.{Empty, Zero, Digits}
use Rattle.profiles_row.specs.Near.{cap, empty_near, zero_near, digits_near, next_near, next_broken, Pushes, end_near, end-broken, Ends}

-- ---- one digit more

module _ (b : ℕ) (l : digit_zero ≤ b) (h : b ≤ digit_nine) where
  first_zero : b ≡ digit_zero → Pushes Empty b (Some Zero)
  first_zero z empty empty_near = rw (digit_in b l h, eq-eqb b digit_zero z) (next_near zero_near)
  first_zero z zero x = elim x [ ]
  first_zero z (digits _) x = elim x [ ]

  first_digit : (b ≡ digit_zero → ⊥) → Pushes Empty b (Some (Digits (b - digit_zero)))
  first_digit z empty empty_near = let q : b - digit_zero ≡ min (b - digit_zero) cap = omega arith in rw (digit_in b l h, ne_eqb b digit_zero z) (next_near (digits_near q))
  first_digit z zero x = elim x [ ]
  first_digit z (digits _) x = elim x [ ]

  needless : Pushes Zero b None
  needless zero zero_near = next_broken
  needless empty x = elim x [ ]
  needless (digits _) x = elim x [ ]

  next_digit : (v w : ℕ) → w ≡ min (v * 10 + (b - digit_zero)) cap → Pushes (Digits v) b (Some (Digits w))
  next_digit v w e (digits n) (digits_near q) =
      let k : w ≡ min (n * 10 + (b - digit_zero)) cap = omega arith in rw (digit_in b l h) (next_near (digits_near k))
  next_digit v w e empty x = elim x [ ]
  next_digit v w e zero x = elim x [ ]

-- ---- the end

no_end : Ends Empty None
no_end empty empty_near = end-broken
no_end zero x = elim x [ ]
no_end (digits _) x = elim x [ ]

zero_end : Ends Zero (Some 0)
zero_end zero zero_near = let q : 0 ≡ min 0 cap = omega arith in end_near q
zero_end empty x = elim x [ ]
zero_end (digits _) x = elim x [ ]

digits_end : (v : ℕ) → Ends (Digits v) (Some v)
digits_end v (digits n) (digits_near q) = end_near q
digits_end v empty x = elim x [ ]
digits_end v zero x = elim x [ ]

-- ---- by the code's number

module _ {n : Number} where
  pub pushes_zero : (b : ℕ) → n ≡ Empty → digit_zero ≤ b → b ≤ digit_nine → b ≡ digit_zero → Pushes n b (Some Zero)
  pushes_zero b e l h z = rw e (first_zero b l h z)

  pub pushes_first : (b : ℕ) → n ≡ Empty → digit_zero ≤ b → b ≤ digit_nine → (b ≡ digit_zero → ⊥) → Pushes n b (Some (Digits (b - digit_zero)))
  pushes_first b e l h z = rw e (first_digit b l h z)

  pub pushes_none : (b : ℕ) → n ≡ Zero → digit_zero ≤ b → b ≤ digit_nine → Pushes n b None
  pushes_none b e l h = rw e (needless b l h)

  pub pushes_next : (b v w : ℕ) → n ≡ Digits v → digit_zero ≤ b → b ≤ digit_nine → w ≡ min (v * 10 + (b - digit_zero)) cap → Pushes n b (Some (Digits w))
  pushes_next b v w e l h q = rw e (next_digit b l h v w q)

  pub ends_none : n ≡ Empty → Ends n None
  ends_none e = rw e no_end

  pub ends_zero : n ≡ Zero → Ends n (Some 0)
  ends_zero e = rw e zero_end

  pub ends_digits : (v : ℕ) → n ≡ Digits v → Ends n (Some v)
  ends_digits v e = rw e (digits_end v)

pub ruleset ways = (pushes_zero, pushes_first, pushes_none, pushes_next, ends_none, ends_zero, ends_digits)
