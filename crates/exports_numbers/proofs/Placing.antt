-- What is told, from the two lists of values that are put in place of numbers. Assumes nothing.
use Prim.Native.Nat.{ℕ, ◌+◌, ◌≤◌}
use native.Mathlib.Nat.{zero-add}
use mathlib.Core.Path.{◌≡◌, sym, ap, ◌∙◌}
use mathlib.Core.List.{List, ◌++◌, append_assoc}
use lib.ListN.{length, drop, replicate}
use lib.Seq.{take-length, take_at, drop-append-le, drop-append-add, paste}
use Rattle.rules.specs.Lists.{over}
use Rattle.rules.proofs.Lists.{over-length}
use Rattle.rules.specs.declared.answers.Tally.{Tally}
use Rattle.exports_numbers.specs.Numbers.{lent_values, lent_tests, lent_numbers, padded, tally_numbers, told}

-- ---- the values in front of 0s, and then the tests behind them

module _ (values tests : List ℕ) (fit : length values ≤ lent_values) where
  abbrev front : List ℕ
  front = padded lent_values values

  front_long : length front ≡ lent_values
  front_long = over-length values (replicate lent_values 0) fit

  front_placed : paste (replicate lent_numbers 0) 0 values (length values) ≡ front ++ replicate lent_tests 0
  unfolding over
  front_placed =
      rw (take-length values, zero-add (length values))
      (ap (λ (l : List ℕ). values ++ l) (drop-append-le (length values) (replicate lent_values 0) (replicate lent_tests 0) fit)
      ∙ sym (append_assoc values (drop (length values) (replicate lent_values 0)) (replicate lent_tests 0)))

  tests-placed : paste (front ++ replicate lent_tests 0) lent_values tests (length tests) ≡ front ++ padded lent_tests tests
  unfolding over
  tests-placed =
      let rest : drop (lent_values + length tests) (front ++ replicate lent_tests 0) ≡ drop (length tests) (replicate lent_tests 0) =
      rw front_long at (drop-append-add front (replicate lent_tests 0) (length tests)) in
      rw (take_at front (replicate lent_tests 0) lent_values front_long, take-length tests, rest) (append_assoc front tests (drop (length tests) (replicate lent_tests 0)))

pub told-placed : (values : List ℕ) (t : Tally) {numbers tests all : List ℕ} → length values ≤ lent_values
    → numbers ≡ paste (replicate lent_numbers 0) 0 values (length values) → tests ≡ tally_numbers t
    → all ≡ paste numbers lent_values tests (length tests) → all ≡ told values t
told-placed values t fit n e a =
    a ∙ (λ j. paste ((n ∙ front_placed values (tally_numbers t) fit) j) lent_values (e j) (length (e j))) ∙ tests-placed values (tally_numbers t) fit
