-- One step of adding a list into a table, number by number: what is left to add, what lies ahead, and that each sum fits. Assumes nothing.
use Prim.Native.Nat.{ℕ, zero, suc, ◌+◌, ◌≤◌, ◌<◌, ◌^◌}
use native.Mathlib.Omega.{arith}
use native.Mathlib.Numerals.{add-one}
use native.Mathlib.Nat.{add-zero}
use mathlib.Core.Path.{◌≡◌, refl, sym, ap, ap₂, ◌∙◌}
use mathlib.Core.Logic.{◌≢◌}
use mathlib.Core.List.{List, [], ◌∷◌}
use lib.ListN.{length, get_or, set, drop, length-set, drop_of_length-le}
use lib.Seq.{drop-cons, get_or-set_other}
use lib.IntN.{ℤ, pos, nat_abs, ◌+ℤ◌}
use mir.Syntax.{w32}
use mir.Val.{SFits, to_z, of_z}
use mir.Facts.{to_z-of_z}
use Rattle.rules.specs.Limits.{most_kw}
use Rattle.rules.specs.Verdict.{All}
use Rattle.rules_theorems.specs.Laying.{add_at, Within}
use Rattle.rules_theorems.proofs.Parts.{size-part}
use Rattle.rules_theorems.proofs.Sizes.{fits-small}
use Rattle.energy_curves.specs.Room.{added_from, most_before, AddRoom}

-- a bound on each is a bound at each place
pub all_within : (b : ℕ) (xs : List ℤ) → All (λ x. nat_abs x ≤ b) xs → Within b xs
all_within b [] h i = omega arith
all_within b (x ∷ xs) h zero = h.0
all_within b (x ∷ xs) h (suc i) = all_within b xs h.1 i

-- j of the numbers are added
pub record Adding (P₀ : List ℤ) (i : ℕ) (xs : List ℤ) (P : List ℤ) (j : ℕ) : Type 0 where
  pub within : j ≤ length xs
  pub long : length P ≡ length P₀
  pub rest : added_from (i + j) (drop j xs) P ≡ added_from i xs P₀
  pub ahead : (k : ℕ) → i + j ≤ k → get_or P k (pos 0) ≡ get_or P₀ k (pos 0)

pub none_added : (P₀ : List ℤ) (i : ℕ) (xs : List ℤ) → Adding P₀ i xs P₀ 0
none_added P₀ i xs = record { within = omega arith; long = refl; rest = ap (λ n. added_from n xs P₀) (add-zero i); ahead = λ k h. refl }

module _ (P₀ : List ℤ) (i : ℕ) (xs P : List ℤ) (j : ℕ) (h : Adding P₀ i xs P j) where
  pub all_added : length xs ≤ j → P ≡ added_from i xs P₀
  all_added l = sym (ap (λ ys. added_from (i + j) ys P) (drop_of_length-le xs l)) ∙ h.rest

  module _ (room : AddRoom P₀ xs) where
    -- the number in the table, and the one to add
    abbrev here : ℤ
    here = get_or P (i + j) (pos 0)

    abbrev more : ℤ
    more = get_or xs j (pos 0)

    here_small : nat_abs here ≤ most_before
    here_small = rw (h.ahead (i + j) (omega arith)) (room.low (i + j))

    more-small : nat_abs more ≤ most_kw
    more-small = all_within most_kw xs room.moderate j

    sum_fits : SFits w32 (here +ℤ more)
    sum_fits = fits-small (omega (arith, size-part.add here more, here_small, more-small))

    held : to_z w32 (of_z w32 here) +ℤ to_z w32 (of_z w32 more) ≡ here +ℤ more
    held =
        let hf : nat_abs here < 2 ^ 31 = omega (arith, here_small) in
        let mf : nat_abs more < 2 ^ 31 = omega (arith, more-small) in
        ap₂ ◌+ℤ◌ (to_z-of_z (fits-small {z = here} hf)) (to_z-of_z (fits-small {z = more} mf))

    pub sum-held : SFits w32 (to_z w32 (of_z w32 here) +ℤ to_z w32 (of_z w32 more))
    sum-held = rw held sum_fits

    -- the sum is stored
    pub one_added : j < length xs → Adding P₀ i xs (set P (i + j) (to_z w32 (of_z w32 (to_z w32 (of_z w32 here) +ℤ to_z w32 (of_z w32 more))))) (j + 1)
    one_added l =
        rw (held, to_z-of_z sum_fits)
        (record {
          within = omega arith;
          long = length-set P (i + j) (here +ℤ more) ∙ h.long;
          rest =
              ap₂ (λ n ys. added_from n ys (add_at P (i + j) more)) on (ap (λ n. drop n xs) (add-one j))
              ∙ ap (λ ys. added_from (i + j) ys P) (sym (drop-cons xs j (pos 0) l))
              ∙ h.rest;
          ahead = λ k m. get_or-set_other P (i + j) k (here +ℤ more) (pos 0) (off k m) ∙ h.ahead k (omega arith);
        })
      where
        on : i + (j + 1) ≡ suc (i + j)
        on = omega arith

        off : (k : ℕ) → i + (j + 1) ≤ k → k ≢ i + j
        off k m = omega arith
