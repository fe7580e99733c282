-- One step of summing the two sides of a list of powers. Assumes nothing.
use Prim.Native.Nat.{ℕ, ◌+◌, ◌*◌, ◌≤◌, ◌<◌, ◌^◌}
use native.Mathlib.Omega.{arith}
use native.Mathlib.Numerals.{add-one}
use mathlib.Core.Path.{◌≡◌, refl, sym, ap, ap₂, ◌∙◌}
use mathlib.Core.List.{List}
use lib.ListN.{length, get_or}
use lib.IntN.{ℤ, pos}
use lib.Signed.{mag}
use mir.Syntax.{w32}
use mir.Val.{to_z, of_z}
use mir.Facts.{to_z-of_z}
use borrow.Author.Rules.{sfits_of}
use Rattle.rules.specs.Energy.{sum_to, above, below}
use Rattle.rules.specs.Lists.{sum_of}
use Rattle.energy_parts.specs.Parts.{SmallPart, sides_of}
use Rattle.energy_parts.proofs.Listed.{sum_places}

-- the sum of a part of the first i powers, and how great it can be
pub record SoFar (part : ℤ → ℕ) (p : List ℤ) (i sum : ℕ) : Type 0 where
  pub is : sum ≡ sum_to (λ j. part (get_or p j (pos 0))) i
  pub small : sum ≤ i * 2 ^ 32

pub record Summed (p : List ℤ) (i d l : ℕ) : Type 0 where
  pub within : i ≤ length p
  pub drawn : SoFar above p i d
  pub lost : SoFar below p i l

pub none_yet : (p : List ℤ) → Summed p 0 0 0
none_yet p =
    record { within = omega arith; drawn = record { is = refl; small = omega arith }; lost = record { is = refl; small = omega arith } }

module _ (p : List ℤ) (i : ℕ) where
  -- x was read into a local, and its part taken
  part_added : (part : ℤ → ℕ) (sum a : ℕ) → SoFar part p i sum → mag (get_or p i (pos 0)) < 2 ^ 31
      → SmallPart (part (to_z w32 (of_z w32 (get_or p i (pos 0))))) a → SoFar part p (i + 1) (sum + a)
  part_added part sum a s fits h =
      record {
        is =
            ap₂ ◌+◌ s.is (h.is ∙ ap part (to_z-of_z {w = w32} {z = get_or p i (pos 0)} (sfits_of fits)))
            ∙ sym (ap (sum_to (λ j. part (get_or p j (pos 0)))) (add-one i));
        small = omega (arith, s.small, h.small);
      }

  module _ (d l : ℕ) (s : Summed p i d l) where
    pub both_added : (a b : ℕ) → i < length p → mag (get_or p i (pos 0)) < 2 ^ 31 → SmallPart (above (to_z w32 (of_z w32 (get_or p i (pos 0))))) a
        → SmallPart (below (to_z w32 (of_z w32 (get_or p i (pos 0))))) b → Summed p (i + 1) (d + a) (l + b)
    both_added a b h fits ha hb =
        record {
          within = omega arith;
          drawn = part_added above d a s.drawn fits ha;
          lost = part_added below l b s.lost fits hb;
        }

    pub all_added : length p ≤ i → record { above = d; below = l } ≡ sides_of p
    unfolding sides_of
    all_added h =
        let e : i ≡ length p = omega (arith, s.within) in
        λ j. record { above = whole above d s.drawn e j; below = whole below l s.lost e j }
      where
        whole : (part : ℤ → ℕ) (sum : ℕ) → SoFar part p i sum → i ≡ length p → sum ≡ sum_of part p
        whole part sum t e = t.is ∙ ap (sum_to (λ j. part (get_or p j (pos 0)))) e ∙ sym (sum_places part (pos 0) p)
