-- Sums over a curve table, subnet by subnet: one subnet more. Assumes nothing.
use Prim.Native.Nat.{ℕ, ◌+◌, ◌*◌, ◌-◌, ◌≤◌, ◌<◌, ◌^◌, min}
use native.Mathlib.Omega.{arith}
use native.Mathlib.Numerals.{add-one}
use native.Mathlib.Nat.{le_trans, mul-le-mul_right, suc-mul}
use mathlib.Core.Path.{◌≡◌, refl, sym, ap, ap₂, ◌∙◌, subst}
use mathlib.Core.Bool.{Bool, true, false, cond}
use mathlib.Core.List.{List}
use lib.Dec.{ltb}
use lib.ListN.{length, get_or, take, drop, replicate, length-take, length-drop, get_or-eq_default}
use lib.Seq.{get_or-take, get_or-drop}
use lib.IntN.{ℤ, pos, nat_abs}
use borrow.Author.Tests.{le-leb, ltb-true, ltb-false}
use Rattle.rules.specs.Limits.{quarter_seconds, most_quarters}
use Rattle.rules.specs.Energy.{above, quarter_sums}
use Rattle.rules_theorems.specs.Sized.{most_power}
use Rattle.rules_theorems.specs.Laying.{Within}
use Rattle.rules_theorems.proofs.Parts.{above-part}
use Rattle.energy_parts.specs.Quarters.{drawn_by, with_run, RunRoom}
use Rattle.energy_curves.specs.Curves.{CurveTable, power_in, drawn_in, quarters_in}
use Rattle.energy_parts.proofs.QuarterSteps.{sum_most}
use Rattle.energy_parts.proofs.QuarterSums.{sums_none, sums_with, sums_small}

-- a part of a list is no greater than the list
pub part_within : (b m k : ℕ) (P : List ℤ) → Within b P → Within b (take m (drop k P))
part_within b m k P w i = go (ltb i m) refl
  where
    short : min m (length (drop k P)) ≤ m
    short = omega arith

    go : (c : Bool) → ltb i m ≡ c → nat_abs (get_or (take m (drop k P)) i (pos 0)) ≤ b
    go true e = rw (get_or-take m (drop k P) i (pos 0) (ltb-true i m e), get_or-drop k P i (pos 0)) (w (k + i))
    go false e =
        rw (get_or-eq_default (take m (drop k P)) (pos 0) (le_trans (rw (length-take m (drop k P)) short) (ltb-false i m e))) (omega arith)

module _ (H n : ℕ) (P : List ℤ) (t : CurveTable H n P) (s : ℕ) (h : s < n) where
  -- subnet s has its numbers
  pub row_there : s * H + H ≤ length P
  row_there = rw t.rows (subst (λ m. m ≤ n * H) (suc-mul s H) (mul-le-mul_right H h))

  abbrev row : List ℤ
  row = take (s * H + H - s * H) (drop (s * H) P)

  one_row_lem : s * H + H - s * H ≡ H
  one_row_lem = omega arith

  row-length : length row ≡ H
  row-length = length-take (s * H + H - s * H) (drop (s * H) P) ∙ ap₂ min one_row_lem (length-drop (s * H) P) ∙ whole (s * H) H (length P) row_there
    where
      whole : (k H m : ℕ) → k + H ≤ m → min H (m - k) ≡ H
      whole k H m l = omega arith

  row_at : (i : ℕ) → i < H → get_or row i (pos 0) ≡ power_in H P s i
  row_at i l = get_or-take (s * H + H - s * H) (drop (s * H) P) i (pos 0) (subst (λ m. i < m) (sym one_row_lem) l) ∙ get_or-drop (s * H) P i (pos 0)

  row-drawn : (i : ℕ) → i < H → drawn_by 0 row i ≡ above (power_in H P s i)
  row-drawn i l =
      let d : i - 0 ≡ i = omega arith in
      ap (λ b. above (cond b (get_or row (i - 0) (pos 0)) (pos 0))) (le-leb 0 i (omega arith)) ∙ ap (λ k. above (get_or row k (pos 0))) d ∙ ap above (row_at i l)

-- ---- the quarters

module _ (H n : ℕ) (P : List ℤ) (t : CurveTable H n P) where
  drawn-at_most : (s i : ℕ) → drawn_in H P s i ≤ s * most_power
  drawn-at_most s i = sum_most (λ u. above (power_in H P u i)) most_power s (λ u l. le_trans (above-part.small (power_in H P u i)) (t.small (u * H + i)))

  pub no_quarters : replicate most_quarters (pos 0) ≡ quarters_in H P 0
  unfolding quarters_in
  no_quarters = sums_none H

  module _ (s : ℕ) (h : s < n) (sums : List ℤ) (e : sums ≡ quarters_in H P s) where
    row_within : 0 + length (row H n P t s h) ≤ H
    row_within = rw (row-length H n P t s h) (omega arith)

    pub row_room : RunRoom 0 (row H n P t s h) sums
    unfolding quarters_in
    row_room =
        record {
          ends = le_trans row_within t.ends;
          powers = part_within most_power (s * H + H - s * H) (s * H) P t.small;
          sums_small =
              rw e (sums_small (drawn_in H P s) (s * most_power) H (drawn-at_most s) (few s n h t.subnets));
        }
      where
        few : (s n : ℕ) → s < n → n ≤ 8 → quarter_seconds * (s * most_power) ≤ 2 ^ 62
        few s n h l = omega arith

    pub row_added : (r : List ℤ) → r ≡ with_run 0 (row H n P t s h) sums → r ≡ quarters_in H P (s + 1)
    unfolding quarters_in
    row_added r er =
        er
        ∙ ap (with_run 0 (row H n P t s h)) e
        ∙ sums_with (drawn_in H P s) (λ i. above (power_in H P s i)) H 0 (row H n P t s h) row_within (row-drawn H n P t s h)
        ∙ ap (λ m. quarter_sums (drawn_in H P m) H) (sym (add-one s))
