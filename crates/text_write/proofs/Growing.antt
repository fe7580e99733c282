-- A text that grows turn by turn: what holds at the loop's head, its start, its step and its end. Assumes nothing.
use Prim.Native.Nat.{ℕ, suc, ◌+◌, ◌≤◌, ◌<◌}
use native.Mathlib.Omega.{arith}
use native.Mathlib.Numerals.{add-one}
use mathlib.Core.Path.{◌≡◌, ap, subst, ◌∙◌}
use mathlib.Core.List.{List, [], ◌++◌}
use lib.ListN.{length}
use Rattle.text_write.specs.Written.{last_place, Written}
use Rattle.text_write.proofs.Writing.{written_none, written_then, written-length}

-- text i: what is written after i of n turns
pub record Growing (text : ℕ → List ℕ) (n : ℕ) (t : List ℕ) (at : ℕ) (t' : List ℕ) (place i : ℕ) : Type 0 where
  pub within : i ≤ n
  pub so_far : Written t at (text i) t' place

module _ {text : ℕ → List ℕ} {n : ℕ} {t : List ℕ} {at : ℕ} where
  pub growing_none : text 0 ≡ [] → at ≤ last_place → Growing text n t at t at 0
  growing_none e h = record { within = omega arith; so_far = rw e (written_none t at h) }

  -- a turn adds its piece
  pub growing_more : {t' : List ℕ} {place i : ℕ} {piece t'' : List ℕ} {after : ℕ} → Growing text n t at t' place i → i < n
      → text (suc i) ≡ text i ++ piece → Written t' place piece t'' after → length t ≤ last_place → Growing text n t at t'' after (i + 1)
  growing_more {t'} {place} {i} {piece} {t''} {after} g h e w k =
      record { within = omega arith; so_far = rw (add-one i, e) (written_then g.so_far w k) }

  pub growing_all : {t' : List ℕ} {place i : ℕ} {whole : List ℕ} → Growing text n t at t' place i → n ≤ i → text n ≡ whole → Written t at whole t' place
  growing_all {t'} {place} {i} g h e =
      let q : i ≡ n = omega (arith, g.within) in
      subst (λ (w : List ℕ). Written t at w t' place) (ap text q ∙ e) g.so_far

  pub growing_length : {t' : List ℕ} {place i : ℕ} → Growing text n t at t' place i → length t' ≡ length t
  growing_length g = written-length g.so_far
